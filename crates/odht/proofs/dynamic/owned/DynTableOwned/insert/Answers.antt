use Rattle.std.proofs.Common.{rules, ◌≡◌, ◌∙◌, sym, ap, subst, Ok, Err, ℕ, List, Option}
use Rattle.std.specs.Prelude.{IfOk, OnOk}
use Rattle.odht_raw.specs.Words.{decoded_table, encoded, map_of, Table}
use Rattle.odht_base.specs.Insert.{IsFullFor}
use Rattle.odht.specs.Dynamic.{DynStore, dyn_coding, dyn_format, dyn_plain}
use Rattle.odht.specs.Inserts.{IsInsertInto}
use Rattle.odht.specs.Plain.{HasMapWith}
use Rattle.odht.specs.declared.dynamic.DynError.TheVariants.{Rejected}
use Rattle.odht.proofs.lemmas.DynOwned.{took, found_full}
use Rattle.odht.proofs.lemmas.DynLengths.{accepted_fits, rejected_fits}
use Rattle.odht.proofs.lemmas.DynPlain.{IsDone, done, held_after}
use Rattle.odht.proofs.dynamic.owned.DynTableOwned.insert.Given.{Over}
use Rattle.odht.proofs.dynamic.owned.DynTableOwned.insert.Goals.{After-insert}
use Rattle.odht.proofs.dynamic.owned.DynTableOwned.insert.Goals as goal

module _ (g : Over) (c : After-insert g) (former : Option (List ℕ)) (was : c.insert.result ≡ Ok former) where
  -- what the insert into the view did, of bytes
  into : (let t : DynStore (List ℕ) = c.self.inside.table in let h = g.H.HashFn.hash in IsInsertInto (dyn_coding t h) (decoded_table (dyn_format t h) t.store) c.args.key.now c.args.value.now (Ok former) c.insert.new.self.store)
  into =
      let none = accepted_fits c.self.inside.table c.args.key.now c.args.value.now c.insert.result c.insert.ensures.lengths former was in
      took _ _ _ _ _ c.insert.result (c.insert.ensures.inserted none) _ c.self.invariant.image former was

  -- and of tables
  whole : IsDone g.H.HashFn.hash c.args.self.now c.args.key.now c.args.value.now former (dyn_plain c.insert.new.self g.H.HashFn.hash)
  whole =
      let h = g.H.HashFn.hash in
      subst (λ (p : DynStore Table). IsDone h p c.args.key.now c.args.value.now former (dyn_plain c.insert.new.self h)) c.self.view_is
      (done h c.self.inside.table c.insert.new.self c.self.invariant c.insert.ensures.same_store c.args.key.now c.args.value.now former into)

pub invariant_of-self : goal.invariant_of-self
invariant_of-self g c =
    let insert = (into g (goal.at.invariant_of-self g c).After-insert c.in-Ok.former c.in-Ok.is).inserted in
    held_after g.H.HashFn.hash c.self.inside.table c.insert.new.self c.self.invariant c.insert.ensures.same_store insert.table insert.image

pub returns-in-Ok-clause-former : goal.returns-in-Ok-clause-former
returns-in-Ok-clause-former g c = (whole g (goal.at.returns-in-Ok-clause-former g c).After-insert c.in-Ok.former c.in-Ok.is).0

pub returns-in-Ok-clause-inserted : goal.returns-in-Ok-clause-inserted
returns-in-Ok-clause-inserted g c = (whole g (goal.at.returns-in-Ok-clause-inserted g c).After-insert c.in-Ok.former c.in-Ok.is).1

pub returns-in-Ok-clause-maps : goal.returns-in-Ok-clause-maps
returns-in-Ok-clause-maps g c = (whole g (goal.at.returns-in-Ok-clause-maps g c).After-insert c.in-Ok.former c.in-Ok.is).2

pub returns-in-Ok-clause-stays : goal.returns-in-Ok-clause-stays
returns-in-Ok-clause-stays g c = (whole g (goal.at.returns-in-Ok-clause-stays g c).After-insert c.in-Ok.former c.in-Ok.is).3

pub insert_grown-requires-clause-full : goal.insert_grown-requires-clause-full
insert_grown-requires-clause-full g c =
    let h = g.H.HashFn.hash in
    let was : c.insert.result ≡ Err (Rejected c.in-Err-Rejected.field-0-0) = search rules in
    let none = rejected_fits c.self.inside.table c.args.key.now c.args.value.now c.insert.result c.insert.ensures.lengths c.in-Err-Rejected.field-0-0 was in
    let full = found_full _ _ _ _ _ c.insert.result (c.insert.ensures.inserted none) _ c.self.invariant.image _ was in
    subst (λ (s : DynStore (List ℕ)). IsFullFor (decoded_table (dyn_format s h) s.store) c.args.key.now) (sym c.in-Err-Rejected.ensures.refused) full

pub returns-in-Err-Rejected-clause-former : goal.returns-in-Err-Rejected-clause-former
returns-in-Err-Rejected-clause-former g c =
    let h = g.H.HashFn.hash in
    let stays = ap (λ (s : DynStore (List ℕ)). dyn_plain s h) c.in-Err-Rejected.ensures.refused ∙ c.self.view_is in
    subst (λ (p : DynStore Table). IfOk c.insert_grown.result (λ former. former ≡ map_of p.store c.args.key.now)) stays c.insert_grown.ensures.former

pub returns-in-Err-Rejected-clause-maps : goal.returns-in-Err-Rejected-clause-maps
returns-in-Err-Rejected-clause-maps g c =
    let h = g.H.HashFn.hash in
    let stays = ap (λ (s : DynStore (List ℕ)). dyn_plain s h) c.in-Err-Rejected.ensures.refused ∙ c.self.view_is in
    subst (λ (p : DynStore Table). OnOk c.insert_grown.result (HasMapWith p.store (encoded (dyn_coding p h) c.args.key.now c.args.value.now) c.insert_grown.new.self.store)) stays c.insert_grown.ensures.maps
