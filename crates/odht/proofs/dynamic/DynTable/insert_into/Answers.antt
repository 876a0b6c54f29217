use Rattle.std.proofs.Common.{◌≡◌, ◌∙◌, ℕ, Bool, List, Option, Result, ap, refl, subst, sym}
use Rattle.std.specs.Prelude.{OnErr}
use Rattle.std.specs.Result.{result_map_both}
use Rattle.odht_raw.specs.Words.{Error}
use Rattle.odht_header.proofs.lemmas.Formats.{IsFormat-format_of}
use Rattle.odht_raw.specs.FormerWrites.{IsFormerTo}
use Rattle.odht.specs.Dynamic.{DynStore, dyn_coding, dyn_store}
use Rattle.odht.specs.DynFormers.{IsDynInsertInto}
use Rattle.odht.specs.DynInserts.{IsDynInsert}
use Rattle.odht.specs.declared.dynamic.DynError.{DynError}
use Rattle.odht.specs.declared.dynamic.DynError.TheVariants.{Rejected}
use Rattle.odht.proofs.lemmas.DynFormers.{former_of_rejected, former_is_kept, former_on_error}
use Rattle.odht.proofs.lemmas.StoreInserts.{IsStored, stored, view_insert}
use Rattle.odht.proofs.dynamic.DynTable.insert_into.Given.{Over}
use Rattle.odht.proofs.dynamic.DynTable.insert_into.Goals.{After-insert_dynamic_into, in-Ok, in-Err}
use Rattle.odht.proofs.dynamic.DynTable.insert_into.Goals as goal

module _ (g : Over) (c : After-insert_dynamic_into g) where
  -- the table before
  abbrev t : DynStore g.row.D.Denot
  t = dyn_store c.self.inside.layout.key_len c.self.inside.layout.value_len c.self.inside.store

  -- the store is as the insert left its bytes
  done : IsStored g.D.ByteStore.bytes g.D.ByteStoreMut.holding (dyn_coding t g.H.HashFn.hash) t.store c.args.key.now c.args.value.now c.insert_dynamic_into.ensures.inserted.answer
      (g.D.ByteStoreMut.after_borrow t.store c.insert_dynamic_into.new.bytes)
  done =
      let K = dyn_coding t g.H.HashFn.hash in
      let fits = IsFormat-format_of _ _ _ _ c.self.invariant.key_short c.self.invariant.value_short c.self.invariant.hashes g.met.H.HashFn.fits in
      let done = c.insert_dynamic_into.ensures in
      let store = g.met.D.ByteStoreMut in
      stored g.D.ByteStore.bytes g.D.ByteStoreMut.holding g.D.ByteStoreMut.after_borrow store.held store.held_same store.after_borrow_fits K _ _ _ _ _ _ c.bytes_mut-bytes.ensures.value done.len
      (view_insert K fits _ _ _ _ _ done.inserted.placed done.inserted.framed done.accepted)

pub returns-clause-inserted : goal.returns-clause-inserted
returns-clause-inserted g c none =
    let at = (goal.at.returns-clause-inserted g c).After-insert_dynamic_into in
    let into = c.insert_dynamic_into.ensures.inserted in
    let k = c.args.key.now in
    let v = c.args.value.now in
    let f = c.args.former.now in
    let f' = c.insert_dynamic_into.new.former in
    let B' = g.D.ByteStore.bytes (g.D.ByteStoreMut.after_borrow c.self.inside.store c.insert_dynamic_into.new.bytes) in
    let r = c.match-insert_dynamic_into.result in
    let rejected : Result Bool Error → Result Bool DynError = result_map_both (λ b. b) Rejected in
    let mapped : r ≡ rejected c.insert_dynamic_into.result = elim c.match-insert_dynamic_into.branch [
      | in-Ok w ↦ w.result-is ∙ sym (ap rejected w.in-Ok.is)
      | in-Err w ↦ w.result-is ∙ sym (ap rejected w.in-Err.is)
    ] in
    let answer : Result (Option (List ℕ)) DynError = result_map_both (λ o. o) Rejected into.answer in
    let tells : IsFormerTo answer f r f' = subst (λ (x : Result Bool DynError). IsFormerTo answer f x f') (sym mapped) (former_of_rejected into.answer f c.insert_dynamic_into.result f' into.tells) in
    let t : DynStore g.row.D.Denot = dyn_store c.self.inside.layout.key_len c.self.inside.layout.value_len c.self.inside.store in
    let insert : IsDynInsert (dyn_coding t g.H.HashFn.hash) (g.D.ByteStore.bytes t.store) k v answer B' = record { answer = into.answer; is = refl; insert = (done g at).insert } in
    let done : IsDynInsertInto (dyn_coding t g.H.HashFn.hash) (g.D.ByteStore.bytes t.store) k v f r B' f' = record { answer = answer; tells = tells; insert = insert } in
    subst (λ (x : DynStore g.row.D.Denot). IsDynInsertInto (dyn_coding x g.H.HashFn.hash) (g.D.ByteStore.bytes x.store) k v f r B' f') c.self.view_is done

pub returns-clause-refused : goal.returns-clause-refused
returns-clause-refused g c =
    let into = c.insert_dynamic_into.ensures.inserted in
    let now : DynStore g.row.D.Denot = dyn_store c.self.inside.layout.key_len c.self.inside.layout.value_len (g.D.ByteStoreMut.after_borrow c.self.inside.store c.insert_dynamic_into.new.bytes) in
    let refused = (done g (goal.at.returns-clause-refused g c).After-insert_dynamic_into).refused in
    let kept = former_on_error _ into.answer c.args.former.now c.insert_dynamic_into.result c.insert_dynamic_into.new.former into.tells refused in
    let same = now ≡ c.args.self.now in
    elim c.match-insert_dynamic_into.branch [
      | in-Ok w ↦ subst (λ r. OnErr r same) (sym w.result-is) tt
      | in-Err w ↦ subst (λ r. OnErr r same) (sym w.result-is)
          (ap (dyn_store c.self.inside.layout.key_len c.self.inside.layout.value_len) (subst (λ r. OnErr r (now.store ≡ c.self.inside.store)) w.in-Err.is kept) ∙ c.self.view_is)
    ]

pub returns-clause-kept : goal.returns-clause-kept
returns-clause-kept g c =
    let into = c.insert_dynamic_into.ensures.inserted in
    let kept = former_is_kept into.answer c.args.former.now c.insert_dynamic_into.result c.insert_dynamic_into.new.former into.tells in
    let same = c.insert_dynamic_into.new.former ≡ c.args.former.now in
    elim c.match-insert_dynamic_into.branch [
      | in-Ok w ↦ subst (λ r. OnErr r same) (sym w.result-is) tt
      | in-Err w ↦ subst (λ r. OnErr r same) (sym w.result-is) (subst (λ r. OnErr r same) w.in-Err.is kept)
    ]
