use Rattle.std.proofs.Common.{◌≡◌, ◌<◌, ◌∙◌, ◌↔◌, ℕ, Bor, List, [], Some, Result, Ok, Err, IsOk, inl, inr, ap, sym, subst, refl, arith, map, length, slice_index_or}
use Rattle.std.specs.Prelude.{IfErr}
use Rattle.std.specs.Option.{option_or}
use Rattle.std.proofs.lemmas.Bool.{false≢true}
use Rattle.std.proofs.lemmas.List.{length-map}
use Rattle.odht_header.proofs.lemmas.Formats.{IsFormat-format_of}
use Rattle.odht_raw.specs.Runs.{HasLengthsAt, IsEncodedRun}
use Rattle.odht_raw.proofs.lemmas.Borrows.{borrowed-bytes, borrowed-same}
use Rattle.odht_raw.proofs.lemmas.ItemBytes.{bytes_of, item_at}
use Rattle.odht.specs.Dynamic.{DynStore, dyn_coding, dyn_store}
use Rattle.odht_raw.specs.Words.{Full}
use Rattle.odht.specs.DynLists.{length_error, IsDynList, IsDynStop}
use Rattle.odht.specs.declared.dynamic.DynError.{DynError}
use Rattle.odht.specs.declared.dynamic.DynError.TheVariants.{Rejected}
use Rattle.odht.proofs.lemmas.DynRuns.{accepted_fit, accepted_inserted, accepted_framed, stopped_here}
use Rattle.odht.proofs.dynamic.DynTable.insert_all.Given.{Over}
use Rattle.odht.proofs.dynamic.DynTable.insert_all.Goals.{After-insert_items_dynamic-accepted}
use Rattle.odht.proofs.dynamic.DynTable.insert_all.Goals as goal

module _ (g : Over) (c : After-insert_items_dynamic-accepted g) where
  -- the table before, and after
  abbrev before : DynStore g.row.D.Denot
  before = dyn_store c.self.inside.layout.key_len c.self.inside.layout.value_len c.self.inside.store

  abbrev after : DynStore g.row.D.Denot
  after = dyn_store c.self.inside.layout.key_len c.self.inside.layout.value_len (g.D.ByteStoreMut.after_borrow c.self.inside.store c.insert_items_dynamic-accepted.new.bytes)

  -- the bytes of the items
  abbrev pairs : List (List ℕ × List ℕ)
  pairs = map bytes_of c.args.items.now

  -- as many bytes are left
  long : length c.insert_items_dynamic-accepted.new.bytes ≡ length (g.D.ByteStore.bytes before.store)
  long = c.insert_items_dynamic-accepted.ensures.len ∙ ap length c.bytes_mut.ensures.value

  run_of : IsEncodedRun (HasLengthsAt before.key_len before.value_len pairs) (dyn_coding before g.H.HashFn.hash) (g.D.ByteStore.bytes before.store) pairs 0 c.insert_items_dynamic-accepted.result (g.D.ByteStore.bytes after.store)
  run_of =
      let of_run = IsEncodedRun (HasLengthsAt before.key_len before.value_len pairs) (dyn_coding before g.H.HashFn.hash) in
      let n = c.insert_items_dynamic-accepted.result in
      let left = borrowed-bytes g.D.ByteStore.bytes g.D.ByteStoreMut.holding g.D.ByteStoreMut.after_borrow g.met.D.ByteStoreMut.held g.met.D.ByteStoreMut.after_borrow_fits before.store c.insert_items_dynamic-accepted.new.bytes long in
      subst (of_run (g.D.ByteStore.bytes before.store) pairs 0 n) (sym left) (subst (λ B. of_run B pairs 0 n c.insert_items_dynamic-accepted.new.bytes) c.bytes_mut.ensures.value c.insert_items_dynamic-accepted.ensures)

  -- what a result says of them
  list : (r : Result Unit DynError) → (let n = c.insert_items_dynamic-accepted.result in IsOk r ↔ (n ≡ length pairs)) → IfErr r (λ e. IsDynStop g.H.HashFn.hash g.D.ByteStore.bytes after pairs c.insert_items_dynamic-accepted.result e)
      → IsDynList g.H.HashFn.hash g.D.ByteStore.bytes g.D.ByteStoreMut.holding c.args.self.now after pairs (c.insert_items_dynamic-accepted.result, r)
  list r all stopped =
      let hash = g.H.HashFn.hash in
      let n = c.insert_items_dynamic-accepted.result in
      let run = run_of in
      let done : IsDynList hash g.D.ByteStore.bytes g.D.ByteStoreMut.holding before after pairs (n, r) = record {
        bound = run.within;
        all = all;
        fit = accepted_fit before hash _ _ pairs n _ run;
        inserted = accepted_inserted before hash _ _ pairs n _ run;
        framed = accepted_framed before hash _ _ pairs n _ run;
        same_store = ap (dyn_store before.key_len before.value_len)
            (borrowed-same g.D.ByteStore.bytes g.D.ByteStoreMut.holding g.D.ByteStoreMut.after_borrow g.met.D.ByteStoreMut.held g.met.D.ByteStoreMut.after_borrow_fits before.store c.insert_items_dynamic-accepted.new.bytes long);
        accepted = run.accepted;
        stopped = stopped;
      } in
      subst (λ (x : DynStore g.row.D.Denot). IsDynList hash g.D.ByteStore.bytes g.D.ByteStoreMut.holding x after pairs (n, r)) c.self.view_is done

  -- the item that failed has this error
  abbrev none : Bor (List ℕ) × Bor (List ℕ)
  none = (record { ref_ptr = (0, 0); now = [] }, record { ref_ptr = (0, 0); now = [] })

  abbrev item : Bor (List ℕ) × Bor (List ℕ)
  item = slice_index_or c.args.items.now c.insert_items_dynamic-accepted.result none

  ended : c.insert_items_dynamic-accepted.result < length c.args.items.now → (e : DynError) → Some e ≡ option_or (length_error after (item.0.now, item.1.now)) (Some (Rejected Full))
      → IsDynList g.H.HashFn.hash g.D.ByteStore.bytes g.D.ByteStoreMut.holding c.args.self.now after pairs (c.insert_items_dynamic-accepted.result, Err e)
  ended more e error =
      let n = c.insert_items_dynamic-accepted.result in
      let run = run_of in
      let long : length pairs ≡ length c.args.items.now = length-map c.args.items.now bytes_of in
      let low : n < length pairs = omega (arith, long, more) in
      let format = IsFormat-format_of _ _ _ _ c.self.invariant.key_short c.self.invariant.value_short c.self.invariant.hashes g.met.H.HashFn.fits in
      list (Err e) (λ e. absurd (false≢true e), λ e. absurd (omega (arith, e, low)))
      (stopped_here after item.0.now item.1.now g.H.HashFn.hash g.D.ByteStore.bytes pairs n e (item_at c.args.items.now n none low) format
      (elim run.stopped [ inl e ↦ absurd (omega (arith, e, low)) | inr stop ↦ stop ]) error)

pub returns-then-accepted-items : goal.returns-then-accepted-items
returns-then-accepted-items g c =
    let long : length (map bytes_of c.args.items.now) ≡ length c.args.items.now = length-map c.args.items.now bytes_of in
    let within = (run_of g (goal.at.returns-then-accepted-items g c).After-insert_items_dynamic-accepted).within in
    list g (goal.at.returns-then-accepted-items g c).After-insert_items_dynamic-accepted (Ok tt) (λ _. omega (arith, within, long, c.if-accepted-items.true), λ _. refl) tt

pub returns-in-Some : goal.returns-in-Some
returns-in-Some g c =
    let at = (goal.at.returns-in-Some g c).After-insert_items_dynamic-accepted in
    ended g at c.if-accepted-items.false c.in-Some.wrong (ap (λ o. option_or o (Some (Rejected Full))) (sym c.in-Some.is ∙ c.wrong_length.ensures))

pub returns-in-None : goal.returns-in-None
returns-in-None g c =
    let at = (goal.at.returns-in-None g c).After-insert_items_dynamic-accepted in
    ended g at c.if-accepted-items.false (Rejected Full) (ap (λ o. option_or o (Some (Rejected Full))) (sym c.in-None.is ∙ c.wrong_length.ensures))
