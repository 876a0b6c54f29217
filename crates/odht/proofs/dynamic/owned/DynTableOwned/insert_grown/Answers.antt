use Rattle.std.proofs.Common.{◌≡◌, ◌∙◌, sym, ap, subst, cond, bytes_eq, Some, [], Ok, Err, ℕ, List, Option}
use Rattle.odht_raw.specs.Words.{decoded_table, Format, format_of, IsFormat, IsImage, IsValid, map_of, Pair, Table}
use Rattle.odht.specs.Dynamic.{DynStore, dyn_coding, dyn_format}
use Rattle.odht.specs.DynInserts.{IsDynInsert}
use Rattle.odht.specs.DynOwned.{IsDynWith}
use Rattle.odht.specs.Growths.{IsGrownImage}
use Rattle.odht.specs.Inserts.{IsInsertInto}
use Rattle.odht.specs.declared.dynamic.DynError.{DynError}
use Rattle.odht.proofs.lemmas.DynLengths.{of_fitting}
use Rattle.odht.proofs.lemmas.DynOwned.{took, found_full}
use Rattle.odht.proofs.lemmas.DynPlain.{same_value}
use Rattle.odht.proofs.lemmas.Growths.{insert_owned-grown, grown_below, grown_maps}
use Rattle.odht.proofs.lemmas.Plain.{the_table, decoded_image}
use Rattle.odht.proofs.dynamic.owned.DynTableOwned.insert_grown.Given.{Over}
use Rattle.odht.proofs.dynamic.owned.DynTableOwned.insert_grown.Goals.{After-insert}
use Rattle.odht.proofs.dynamic.owned.DynTableOwned.insert_grown.Goals as goal

module _ (g : Over) (c : After-insert g) where
  abbrev F : Format
  F = dyn_format c.args.self.now g.H.HashFn.hash

  abbrev pair : Pair
  pair = record { key = c.args.key.now; value = c.args.value.now }

  -- the table is valid, and its lengths fit
  valid : IsValid F c.args.self.now.store
  valid = subst (λ (t : DynStore Table). IsValid (dyn_format t g.H.HashFn.hash) t.store) c.self.view_is c.self.invariant.image.valid

  fits : IsFormat F
  fits = subst (λ (t : DynStore Table). IsFormat (dyn_format t g.H.HashFn.hash)) c.self.view_is c.self.invariant.format

  -- the grown table
  made : IsDynWith c.args.self.now.key_len c.args.self.now.value_len (IsGrownImage F c.args.self.now.store) c.open_unchecked-grown.result
  made =
      let h = g.H.HashFn.hash in
      let t : DynStore (List ℕ) = c.self.inside.table in
      let is = c.self.invariant.image in
      let from = rw (c.layout-layout.ensures.key, c.layout-layout.ensures.value) at c.in-Some.ensures in
      let q = from.on_valid (decoded_table (dyn_format t h) t.store) (record { valid = is.valid; bytes = c.raw_bytes.ensures.bytes ∙ is.bytes }) in
      let grown : IsDynWith t.key_len t.value_len (IsGrownImage (dyn_format t h) (decoded_table (dyn_format t h) t.store)) c.open_unchecked-grown.result = record {
        key_len = ap (λ (s : DynStore (List ℕ)). s.key_len) c.open_unchecked-grown.ensures ∙ c.layout-layout.ensures.key;
        value_len = ap (λ (s : DynStore (List ℕ)). s.value_len) c.open_unchecked-grown.ensures ∙ c.layout-layout.ensures.value;
        store = (q.0, q.1, record { valid = q.2.valid; bytes = ap (λ (s : DynStore (List ℕ)). s.store) c.open_unchecked-grown.ensures ∙ c.new.ensures ∙ q.2.bytes });
      } in
      subst (λ (s : DynStore Table). IsDynWith s.key_len s.value_len (IsGrownImage (dyn_format s h) s.store) c.open_unchecked-grown.result) c.self.view_is grown

  -- the insert into the grown table, which has the lengths of the table
  into : IsDynInsert (dyn_coding c.args.self.now g.H.HashFn.hash) c.open_unchecked-grown.result.store c.args.key.now c.args.value.now c.insert.result c.insert.new.self.store
  into =
      rw (made.key_len, made.value_len) at
      (c.insert.ensures.inserted (of_fitting c.open_unchecked-grown.result c.args.key.now c.args.value.now (c.requires.key ∙ sym made.key_len) (c.requires.value ∙ sym made.value_len)))

  -- so does the table afterwards
  formats : dyn_format c.insert.new.self g.H.HashFn.hash ≡ F
  formats =
      let grown = made in
      ap (λ (t : DynStore (List ℕ)). dyn_format t g.H.HashFn.hash) c.insert.ensures.same_store ∙ (λ i. format_of (grown.key_len i) (grown.value_len i) g.H.HashFn.hash)

  -- which the grown table takes
  never : (e : DynError) → c.insert.result ≡ Err e → ⊥
  never e was =
      let grown = made.store in
      grown_below F c.args.self.now.store (record { key = []; value = [] }) valid grown.0 grown.1 c.args.key.now (found_full _ _ _ _ _ c.insert.result into grown.0 grown.2 e was)

  module _ (former : Option (List ℕ)) (was : c.insert.result ≡ Ok former) where
    landed : IsInsertInto (dyn_coding c.args.self.now g.H.HashFn.hash) made.store.0 c.args.key.now c.args.value.now (Ok former) c.insert.new.self.store
    landed = let grown = made.store in took _ _ _ _ _ c.insert.result into grown.0 grown.2 former was

    -- the table afterwards
    stands : landed.inserted.table ≡ decoded_table (dyn_format c.insert.new.self g.H.HashFn.hash) c.insert.new.self.store
    stands = sym (the_table F landed.inserted.table c.insert.new.self.store fits landed.inserted.image) ∙ ap (λ (X : Format). decoded_table X c.insert.new.self.store) (sym formats)

pub returns-in_err-former-clause-memory : goal.returns-in_err-former-clause-memory
returns-in_err-former-clause-memory g c = absurd (never g (goal.at.returns-in_err-former-clause-memory g c).After-insert _ c.in_err-former.was)

pub invariant_of-self : goal.invariant_of-self
invariant_of-self g c =
    let at = (goal.at.invariant_of-self g c).After-insert in
    let insert = (landed g at c.in_ok-former.former c.in_ok-former.was).inserted in
    let back = sym (formats g at) in
    let format = subst IsFormat back (fits g at) in
    record {
      format = format;
      image = decoded_image _ c.insert.new.self.store format (insert.table, subst (λ (X : Format). IsImage X insert.table c.insert.new.self.store) back insert.image);
    }

pub returns-clause-former : goal.returns-clause-former
returns-clause-former g c =
    let at = (goal.at.returns-clause-former g c).After-insert in
    let grown = (made g at).store in
    (landed g at c.in_ok-former.former c.in_ok-former.was).former ∙ same_value (map_of grown.0 c.args.key.now)
    ∙ grown_maps (F g at) c.args.self.now.store (pair g at) (valid g at) grown.0 grown.1 c.args.key.now

pub returns-clause-inserted : goal.returns-clause-inserted
returns-clause-inserted g c =
    let at = (goal.at.returns-clause-inserted g c).After-insert in
    let grown = (made g at).store in
    let insert = (landed g at c.in_ok-former.former c.in_ok-former.was).inserted in
    insert_owned-grown (F g at) c.args.self.now.store (pair g at) (valid g at) grown.0 c.requires.full grown.1 ∙ insert.inserted
    ∙ ap Some (stands g at c.in_ok-former.former c.in_ok-former.was)

pub returns-clause-maps : goal.returns-clause-maps
returns-clause-maps g c q =
    let at = (goal.at.returns-clause-maps g c).After-insert in
    let grown = (made g at).store in
    let insert = (landed g at c.in_ok-former.former c.in_ok-former.was).inserted in
    sym (ap (λ (Q : Table). map_of Q q) (stands g at c.in_ok-former.former c.in_ok-former.was)) ∙ insert.maps q
    ∙ ap (cond (bytes_eq q c.args.key.now) (Some c.args.value.now)) (grown_maps (F g at) c.args.self.now.store (pair g at) (valid g at) grown.0 grown.1 q)
