use Rattle.std.proofs.Common.{◌≡◌, ◌∙◌, ap, subst, sym, List, ℕ, Option, Result}
use Rattle.std.specs.Prelude.{OnErr}
use Rattle.std.specs.Result.{result_map_both}
use Rattle.odht_raw.specs.Words.{Error}
use Rattle.odht_header.proofs.lemmas.Formats.{IsFormat-format_of}
use Rattle.odht.specs.Dynamic.{DynStore, dyn_coding, dyn_store}
use Rattle.odht.specs.DynInserts.{IsDynInsert}
use Rattle.odht.specs.declared.dynamic.DynError.{DynError}
use Rattle.odht.specs.declared.dynamic.DynError.TheVariants.{Rejected}
use Rattle.odht.proofs.lemmas.StoreInserts.{IsStored, stored, view_insert}
use Rattle.odht.proofs.dynamic.DynTable.insert.Given.{Over}
use Rattle.odht.proofs.dynamic.DynTable.insert.Goals.{After-insert_dynamic, in-Ok, in-Err}
use Rattle.odht.proofs.dynamic.DynTable.insert.Goals as goal

module _ (g : Over) (c : After-insert_dynamic g) where
  -- the table before
  abbrev t : DynStore g.row.D.Denot
  t = dyn_store c.self.inside.layout.key_len c.self.inside.layout.value_len c.self.inside.store

  -- the store is as the insert left its bytes
  done : IsStored g.D.ByteStore.bytes g.D.ByteStoreMut.holding (dyn_coding t g.H.HashFn.hash) t.store c.args.key.now c.args.value.now c.insert_dynamic.result
      (g.D.ByteStoreMut.after_borrow t.store c.insert_dynamic.new.bytes)
  done =
      let K = dyn_coding t g.H.HashFn.hash in
      let fits = IsFormat-format_of _ _ _ _ c.self.invariant.key_short c.self.invariant.value_short c.self.invariant.hashes g.met.H.HashFn.fits in
      let done = c.insert_dynamic.ensures in
      let store = g.met.D.ByteStoreMut in
      stored g.D.ByteStore.bytes g.D.ByteStoreMut.holding g.D.ByteStoreMut.after_borrow store.held store.held_same store.after_borrow_fits K _ _ _ _ _ _ c.bytes_mut.ensures.value done.len
      (view_insert K fits _ _ _ _ _ done.placed done.framed done.accepted)

pub returns-clause-inserted : goal.returns-clause-inserted
returns-clause-inserted g c none =
    let at = (goal.at.returns-clause-inserted g c).After-insert_dynamic in
    let r = c.match-insert_dynamic.result in
    let rejected : Result (Option (List ℕ)) Error → Result (Option (List ℕ)) DynError = result_map_both (λ o. o) Rejected in
    let mapped : r ≡ rejected c.insert_dynamic.result = elim c.match-insert_dynamic.branch [
      | in-Ok w ↦ w.result-is ∙ sym (ap rejected w.in-Ok.is)
      | in-Err w ↦ w.result-is ∙ sym (ap rejected w.in-Err.is)
    ] in
    let B' = g.D.ByteStore.bytes (g.D.ByteStoreMut.after_borrow c.self.inside.store c.insert_dynamic.new.bytes) in
    subst (λ (x : DynStore g.row.D.Denot). IsDynInsert (dyn_coding x g.H.HashFn.hash) (g.D.ByteStore.bytes x.store) c.args.key.now c.args.value.now r B') c.self.view_is
    (record { answer = c.insert_dynamic.result; is = mapped; insert = (done g at).insert })

pub returns-clause-refused : goal.returns-clause-refused
returns-clause-refused g c =
    let kept = (done g (goal.at.returns-clause-refused g c).After-insert_dynamic).refused in
    let now : DynStore g.row.D.Denot = dyn_store c.self.inside.layout.key_len c.self.inside.layout.value_len (g.D.ByteStoreMut.after_borrow c.self.inside.store c.insert_dynamic.new.bytes) in
    let same = now ≡ c.args.self.now in
    elim c.match-insert_dynamic.branch [
      | in-Ok w ↦ subst (λ r. OnErr r same) (sym w.result-is) tt
      | in-Err w ↦ subst (λ r. OnErr r same) (sym w.result-is)
          (ap (dyn_store c.self.inside.layout.key_len c.self.inside.layout.value_len) (subst (λ r. OnErr r (now.store ≡ c.self.inside.store)) w.in-Err.is kept) ∙ c.self.view_is)
    ]
