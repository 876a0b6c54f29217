use Rattle.std.proofs.Common.{◌≡◌, ◌+◌, ◌∙◌, ℕ, List, Some, get_or, inl, inr, sym, ap, subst, refl, cond, arith, slice_get}
use Rattle.std.specs.List.{slice_range}
use Rattle.std.proofs.lemmas.Option.{slice_get-get_or}
use Rattle.odht_raw.specs.Words.{Format, format_of, IsPartsOf, Table}
use Rattle.odht_raw.specs.DynParts.{DynParts, bytes_coding, parts_format}
use Rattle.odht_raw.specs.Expected.{AreAhead, IsAhead, EndsIfFree}
use Rattle.odht_raw.specs.Runs.{encoded_all, IsRunTo}
use Rattle.odht_raw.specs.SearchResults.{answer}
use Rattle.odht_raw.proofs.lemmas.CountedSteps.{counted_more, counted_refused}
use Rattle.odht_raw.proofs.lemmas.Expected.{expected_run}
use Rattle.odht_raw.proofs.lemmas.PartRuns.{run_fits, run_to_none}
use Rattle.odht_raw.proofs.raw_table.runs.insert_batch.Given.{Over}
use Rattle.odht_raw.proofs.raw_table.runs.insert_batch.Goals as goal
use Rattle.odht_raw.proofs.raw_table.runs.insert_batch.Goals.{After-value_bytes-value, After-expected_end-end, then-is_new, else-is_new}

pub loop-offset-init : goal.loop-offset-init
loop-offset-init g c =
    let K = bytes_coding (format_of (g.L.Lengths.key_len c.args.lengths) (g.L.Lengths.value_len c.args.lengths) g.H.HashFn.hash) in
    let items = g.I.EncodedItems.items c.args.items.now in
    let es = c.args.entries.now in
    let ctrl = c.args.control.now in
    let start : c.args.from ≡ c.args.from + 0 = omega arith in
    subst (λ (i : ℕ). IsRunTo K c.args.room es ctrl items c.args.from i 0 es ctrl) start (run_to_none K c.args.room es ctrl items c.args.from)

-- the item that is inserted
item_is : (g : Over) (c : After-value_bytes-value g)
    → slice_get (g.I.EncodedItems.items c.args.items.now) (c.args.from + c.loop-offset.offset) ≡ Some (c.key_bytes-key.result.now, c.value_bytes-value.result.now)
item_is g c = c.pair-key.ensures.pair ∙ (λ i. Some (sym c.key_bytes-key.ensures i, sym c.value_bytes-value.ensures i))

-- what was looked up for it
looked_up : (g : Over) (c : After-value_bytes-value g)
    → IsAhead (format_of (g.L.Lengths.key_len c.args.lengths) (g.L.Lengths.value_len c.args.lengths) g.H.HashFn.hash) c.args.control.now c.key_bytes-key.result.now (get_or c.look_ahead-ahead.result c.loop-offset.offset (0, 0))
looked_up g c =
    let items = g.I.EncodedItems.items c.args.items.now in
    let fits = g.I.EncodedItems.fits c.args.items.now in
    let ahead = subst (λ (S : DynParts). AreAhead fits (parts_format S g.H.HashFn.hash) S.parts.control items c.args.from c.look_ahead-ahead.result) c.read_parts-parts.ensures c.look_ahead-ahead.ensures in
    ahead c.loop-offset.offset c.key_bytes-key.result.now c.value_bytes-value.result.now _ (item_is g c) (c.fits.ensures.0 c.if-not-fits.false)
    (slice_get-get_or c.look_ahead-ahead.result c.loop-offset.offset (0, 0) (omega (arith, c.loop-offset-test.true, c.look_ahead-ahead.type_inv)))

pub expected_end-end-requires-clause-hash : goal.expected_end-end-requires-clause-hash
expected_end-end-requires-clause-hash g c = (looked_up g (goal.at.expected_end-end-requires-clause-hash g c).After-value_bytes-value).hash

-- where the search for its key ends, if it is where it was expected
ended : (g : Over) (c : After-expected_end-end g) → let F = format_of (g.L.Lengths.key_len c.args.lengths) (g.L.Lengths.value_len c.args.lengths) g.H.HashFn.hash in
    let k = c.key_bytes-key.result.now in
    (Q : Table) → IsPartsOf F Q c.loop-offset.entries c.loop-offset.control → EndsIfFree F Q k (get_or c.look_ahead-ahead.result c.loop-offset.offset (0, 0)).1 → c.expected_end-end.result.0 ≡ answer F Q.cells k
ended g c =
    let k = c.key_bytes-key.result.now in
    let slot : ℕ = (get_or c.look_ahead-ahead.result c.loop-offset.offset (0, 0)).1 in
    subst (λ (S : DynParts). (Q : Table) → IsPartsOf (parts_format S g.H.HashFn.hash) Q S.parts.entries.bytes S.parts.control → EndsIfFree (parts_format S g.H.HashFn.hash) Q k slot → c.expected_end-end.result.0 ≡ answer (parts_format S g.H.HashFn.hash) Q.cells k)
    c.read_parts-parts-in-loop-offset.ensures c.expected_end-end.ensures.placed

pub loop-offset-preserved : goal.loop-offset-preserved
loop-offset-preserved g c =
    let at = goal.at.loop-offset-preserved g c in
    let F : Format = format_of (g.L.Lengths.key_len c.args.lengths) (g.L.Lengths.value_len c.args.lengths) g.H.HashFn.hash in
    let K = bytes_coding F in
    let items = g.I.EncodedItems.items c.args.items.now in
    let k : List ℕ = c.key_bytes-key.result.now in
    let i : ℕ = c.args.from + c.loop-offset.offset in
    let n = c.loop-offset.added in
    let es0 = c.args.entries.now in
    let ctrl0 = c.args.control.now in
    let answered = c.write_counted-answer in
    let ahead = looked_up g at.After-value_bytes-value in
    let slot : ℕ = (get_or c.look_ahead-ahead.result c.loop-offset.offset (0, 0)).1 in
    let next : i + 1 ≡ c.args.from + (c.loop-offset.offset + 1) = omega arith in
    let counted : c.if-is_new.added ≡ cond c.in-Some.is_new (n + 1) n =
    elim c.if-is_new.branch [
      | then-is_new w ↦ w.added-is ∙ ap (λ b. cond b (n + 1) n) (sym w.if-is_new.true)
      | else-is_new w ↦ w.added-is ∙ ap (λ b. cond b (n + 1) n) (sym w.if-is_new.false)
    ] in
    subst (λ (x : ℕ). IsRunTo K c.args.room es0 ctrl0 items c.args.from x c.if-is_new.added answered.new.entries answered.new.control) next
    (counted_more F (λ (P : Table). c.expected_end-end.result.0 ≡ answer F P.cells k) c.args.room es0 ctrl0 items c.args.from i n c.loop-offset.entries c.loop-offset.control
    c.loop-offset.invariant k c.value_bytes-value.result.now (item_is g at.After-value_bytes-value) answered.result answered.new.entries answered.new.control answered.ensures.step
    (omega (arith, c.loop-offset-test.true, c.requires.can.within)) answered.ensures.pair c.in-Some.is_new c.in-Some.is
    (λ P parts. (
    let h = c.loop-offset.invariant.placed P parts in
    let before = slice_range items c.args.from i in
    ended g at.After-expected_end-end h.table h.parts
    (expected_run F P h.table (encoded_all K before) k slot parts.placed (run_fits K es0 ctrl0 before n c.loop-offset.entries c.loop-offset.control c.loop-offset.invariant.run) h.placed (ahead.expected P es0 parts))))
    c.if-is_new.added counted)

pub returns-in_default : goal.returns-in_default
returns-in_default g c =
    let at = goal.at.returns-in_default g c in
    let F : Format = format_of (g.L.Lengths.key_len c.args.lengths) (g.L.Lengths.value_len c.args.lengths) g.H.HashFn.hash in
    let k : List ℕ = c.key_bytes-key.result.now in
    let answered = c.write_counted-answer in
    let refused = counted_refused F (λ (P : Table). c.expected_end-end.result.0 ≡ answer F P.cells k) c.args.room c.args.entries.now c.args.control.now (g.I.EncodedItems.items c.args.items.now) c.args.from (c.args.from + c.loop-offset.offset) c.loop-offset.added c.loop-offset.entries c.loop-offset.control
    c.loop-offset.invariant k c.value_bytes-value.result.now (item_is g at.After-value_bytes-value) answered.result answered.new.entries answered.new.control answered.ensures.step c.in_default.is in
    record {
      within = omega (arith, c.loop-offset-test.true);
      inserted = refused.0;
      stop = inr (inr refused.1);
    }

pub returns : goal.returns
returns g c =
    let K = bytes_coding (format_of (g.L.Lengths.key_len c.args.lengths) (g.L.Lengths.value_len c.args.lengths) g.H.HashFn.hash) in
    let items = g.I.EncodedItems.items c.args.items.now in
    let end : c.args.from + c.loop-offset.offset ≡ c.args.from + 8 = omega arith in
    record {
      within = omega arith;
      inserted = subst (λ (x : ℕ). IsRunTo K c.args.room c.args.entries.now c.args.control.now items c.args.from x c.loop-offset.added c.loop-offset.entries c.loop-offset.control) end c.loop-offset.invariant;
      stop = inl refl;
    }
