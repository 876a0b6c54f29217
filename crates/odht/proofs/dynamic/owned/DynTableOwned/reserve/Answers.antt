use Rattle.std.proofs.Common.{rules, ◌≡◌, ◌∙◌, List, ℕ, Some, None, Result, Ok, Err, refl, sym, subst}
use Rattle.odht_raw.specs.Words.{decoded_table, Error, Format, format_of, IsValidBytes, Table}
use Rattle.odht_raw.specs.Frame.{IsAccepted}
use Rattle.odht_raw.proofs.lemmas.Accepted.{IsAccepted-IsValidBytes}
use Rattle.odht.specs.Dynamic.{DynStore, dyn_coding, dyn_format, dyn_store}
use Rattle.odht.specs.Plain.{IsPlainReserve}
use Rattle.odht.proofs.lemmas.DynPlain.{held}
use Rattle.odht.proofs.dynamic.owned.DynTableOwned.reserve.Given.{Over}
use Rattle.odht.proofs.dynamic.owned.DynTableOwned.reserve.Goals.{After-room_for}
use Rattle.odht.proofs.dynamic.owned.DynTableOwned.reserve.Goals as goal

-- what is said of the table in bytes of some lengths
abbrev IsSaid : (List ℕ → ℕ) → DynStore (List ℕ) → ℕ → Result Unit Error → Table → Type 0
IsSaid h t n r Q = IsPlainReserve (dyn_coding t h) (decoded_table (dyn_format t h) t.store) n r Q

module _ (g : Over) (c : After-room_for g) where
  -- the bytes with their lengths are those of the table
  abbrev read : DynStore (List ℕ)
  read = dyn_store c.layout-layout.result.key_len c.layout-layout.result.value_len c.raw_bytes.result.now

  same : read ≡ c.self.inside.table
  same = λ i. dyn_store (c.layout-layout.ensures.key i) (c.layout-layout.ensures.value i) (c.raw_bytes.ensures.bytes i)

  said : (r : Result Unit Error) (Q : Table) → IsSaid g.H.HashFn.hash read c.args.additional r Q → IsPlainReserve (dyn_coding c.args.self.now g.H.HashFn.hash) c.args.self.now.store c.args.additional r Q
  said r Q known =
      let h = g.H.HashFn.hash in
      let n = c.args.additional in
      subst (λ (p : DynStore Table). IsPlainReserve (dyn_coding p h) p.store n r Q) c.self.view_is (subst (λ (t : DynStore (List ℕ)). IsSaid h t n r Q) same known)

  -- also of a table that stays
  stays : (r : Result Unit Error) → IsSaid g.H.HashFn.hash read c.args.additional r (decoded_table (dyn_format read g.H.HashFn.hash) read.store)
      → IsPlainReserve (dyn_coding c.args.self.now g.H.HashFn.hash) c.args.self.now.store c.args.additional r c.args.self.now.store
  stays r known =
      let h = g.H.HashFn.hash in
      let n = c.args.additional in
      subst (λ (p : DynStore Table). IsPlainReserve (dyn_coding p h) p.store n r p.store) c.self.view_is
      (subst (λ (t : DynStore (List ℕ)). IsSaid h t n r (decoded_table (dyn_format t h) t.store)) same known)

pub open_unchecked-requires-clause-accepted : goal.open_unchecked-requires-clause-accepted
open_unchecked-requires-clause-accepted g c =
    let F : Format = format_of c.layout-layout.result.key_len c.layout-layout.result.value_len g.H.HashFn.hash in
    let some : c.in-Ok-Some.field-0 ≡ Some c.in-Ok-Some.moved = search rules in
    let made = rw (some) at c.in-Ok-Some.ensures.made in
    subst (IsAccepted F) (sym c.new.ensures) (IsAccepted-IsValidBytes F c.in-Ok-Some.moved.items made.0)

pub invariant_of-self : goal.invariant_of-self
invariant_of-self g c =
    let t : DynStore (List ℕ) = c.self.inside.table in
    let some : c.in-Ok-Some.field-0 ≡ Some c.in-Ok-Some.moved = search rules in
    let made = rw (some) at c.in-Ok-Some.ensures.made in
    let valid : IsValidBytes (dyn_format t g.H.HashFn.hash) c.in-Ok-Some.moved.items = rw (c.layout-layout.ensures.key, c.layout-layout.ensures.value) at made.0 in
    held g.H.HashFn.hash t.key_len t.value_len c.in-Ok-Some.moved.items c.self.invariant.format valid.0 valid.1 c.open_unchecked.result
    (c.open_unchecked.ensures ∙ (λ i. dyn_store (c.layout-layout.ensures.key i) (c.layout-layout.ensures.value i) (c.new.ensures i)))

pub returns-in-Ok-None-clause-reserved : goal.returns-in-Ok-None-clause-reserved
returns-in-Ok-None-clause-reserved g c =
    let none : c.in-Ok-None.field-0 ≡ None = search rules in
    record { answer = Ok tt; is = refl; holds = stays g (goal.at.returns-in-Ok-None-clause-reserved g c).After-room_for (Ok tt) (rw (none) at c.in-Ok-None.ensures.made) }

pub returns-in-Ok-Some-clause-reserved : goal.returns-in-Ok-Some-clause-reserved
returns-in-Ok-Some-clause-reserved g c =
    let h = g.H.HashFn.hash in
    let at = (goal.at.returns-in-Ok-Some-clause-reserved g c).After-room_for in
    let K = dyn_coding c.args.self.now h in
    let n = c.args.additional in
    let left : dyn_store c.layout-layout.result.key_len c.layout-layout.result.value_len c.in-Ok-Some.moved.items ≡ c.open_unchecked.result =
    sym (c.open_unchecked.ensures ∙ (λ i. dyn_store c.layout-layout.result.key_len c.layout-layout.result.value_len (c.new.ensures i))) in
    let some : c.in-Ok-Some.field-0 ≡ Some c.in-Ok-Some.moved = search rules in
    let made = rw (some) at c.in-Ok-Some.ensures.made in
    let known = said g at (Ok tt) _ made.1 in
    record { answer = Ok tt; is = refl; holds = subst (λ (s : DynStore (List ℕ)). IsPlainReserve K c.args.self.now.store n (Ok tt) (decoded_table (dyn_format s h) s.store)) left known }

pub returns-in-Err-clause-reserved : goal.returns-in-Err-clause-reserved
returns-in-Err-clause-reserved g c =
    record { answer = Err c.in-Err.refused; is = refl; holds = stays g (goal.at.returns-in-Err-clause-reserved g c).After-room_for (Err c.in-Err.refused) c.in-Err.ensures.failed }
