use Rattle.std.proofs.Common.{rules, true, ◌≤◌, ◌≡◌, ◌+◌, ◌-◌, ◌<◌, ◌∙◌, ℕ, Some, inl, inr, sym, ap, subst, cond, arith, length, slice_get}
use Rattle.odht_raw.specs.Words.{Format, format_of, Pair, Table}
use Rattle.odht_raw.specs.DynParts.{bytes_coding}
use Rattle.odht_raw.specs.Runs.{IsRunTo}
use Rattle.odht_raw.specs.SearchResults.{answer}
use Rattle.odht_raw.specs.Steps.{IsCountedStep}
use Rattle.odht_raw.proofs.lemmas.CountedSteps.{counted_more, counted_refused, counted_room}
use Rattle.odht_raw.proofs.lemmas.PartRuns.{run_to_none}
use Rattle.odht_raw.proofs.lemmas.SearchedParts.{ended, tagged_end}
use Rattle.odht_raw.proofs.raw_table.runs.insert_in_turn.Given.{Over}
use Rattle.odht_raw.proofs.raw_table.runs.insert_in_turn.Goals as goal
use Rattle.odht_raw.proofs.raw_table.runs.insert_in_turn.Goals.{After-value_bytes-value, After-write_counted-answer, then-is_new, else-is_new}

pub loop-index-init : goal.loop-index-init
loop-index-init g c =
    let K = bytes_coding (format_of (g.L.Lengths.key_len c.args.lengths) (g.L.Lengths.value_len c.args.lengths) g.H.HashFn.hash) in
    let items = g.I.EncodedItems.items c.args.items.now in
    let es = c.args.entries.now in
    let ctrl = c.args.control.now in
    let none : 0 ≡ c.args.room - c.args.room = omega arith in
    record {
      within = omega arith;
      inserted = subst (λ (n : ℕ). IsRunTo K c.args.room es ctrl items c.args.from c.args.from n es ctrl) none (run_to_none K c.args.room es ctrl items c.args.from);
    }

-- the item that is inserted
item_is : (g : Over) (c : After-value_bytes-value g) → slice_get (g.I.EncodedItems.items c.args.items.now) c.loop-index.index ≡ Some (c.key_bytes-key.result.now, c.value_bytes-value.result.now)
item_is g c = c.pair-key.ensures.pair ∙ (λ i. Some (sym c.key_bytes-key.ensures i, sym c.value_bytes-value.ensures i))

pub write_counted-answer-requires-clause-end : goal.write_counted-answer-requires-clause-end
write_counted-answer-requires-clause-end g c =
    tagged_end _ _ g.H.HashFn.hash c.loop-index.entries c.loop-index.control _ c.read_parts-parts.ensures c.loop-index.left c.key_bytes-key.result.now _ c.insert_end-end.ensures.end c.insert_end-end.ensures.tag

-- what was written, by the room that is left
module _ (g : Over) (c : After-write_counted-answer g) where
  abbrev F : Format
  F = format_of (g.L.Lengths.key_len c.args.lengths) (g.L.Lengths.value_len c.args.lengths) g.H.HashFn.hash

  abbrev Ends : Table → Type 0
  Ends P = c.insert_end-end.result.0 ≡ answer F P.cells c.key_bytes-key.result.now

  abbrev p : Pair
  p = record { key = c.key_bytes-key.result.now; value = c.value_bytes-value.result.now }

  stepped : IsCountedStep Ends F (c.args.room - (c.args.room - c.loop-index.left)) (c.loop-index.entries, c.loop-index.control) p c.write_counted-answer.result
      (c.write_counted-answer.new.entries, c.write_counted-answer.new.control)
  stepped =
      let same : c.loop-index.left ≡ c.args.room - (c.args.room - c.loop-index.left) = omega (arith, c.loop-index.invariant.within) in
      subst (λ (m : ℕ). IsCountedStep Ends F m (c.loop-index.entries, c.loop-index.control) p c.write_counted-answer.result (c.write_counted-answer.new.entries, c.write_counted-answer.new.control)) same
      c.write_counted-answer.ensures.step

  had_room : c.write_counted-answer.result ≡ Some true → 0 < c.loop-index.left
  had_room is = counted_room F Ends c.loop-index.left (c.loop-index.entries, c.loop-index.control) p c.write_counted-answer.result (c.write_counted-answer.new.entries, c.write_counted-answer.new.control) c.write_counted-answer.ensures.step is

pub overflow_sub-left : goal.overflow_sub-left
overflow_sub-left g c =
    let some = had_room g (goal.at.overflow_sub-left g c).After-write_counted-answer (c.in-Some.is ∙ ap Some c.if-is_new.true) in
    search rules

pub loop-index-preserved : goal.loop-index-preserved
loop-index-preserved g c =
    let at = goal.at.loop-index-preserved g c in
    let n = c.args.room - c.loop-index.left in
    let within = c.loop-index.invariant.within in
    let wrote = c.write_counted-answer in
    let step = at.After-write_counted-answer in
    let end = ended _ _ g.H.HashFn.hash c.loop-index.entries c.loop-index.control _ c.read_parts-parts.ensures c.key_bytes-key.result.now _ c.insert_end-end.ensures.end in
    let counted : (c.if-is_new.left ≤ c.args.room) × (c.args.room - c.if-is_new.left ≡ cond c.in-Some.is_new (n + 1) n) =
    elim c.if-is_new.branch [
      | then-is_new w ↦ (
          let some = had_room g step (c.in-Some.is ∙ ap Some w.if-is_new.true) in
          let more : c.args.room - c.if-is_new.left ≡ n + 1 = omega (arith, w.left-is, some, within) in
          (omega (arith, w.left-is, within), more ∙ ap (λ b. cond b (n + 1) n) (sym w.if-is_new.true)))
      | else-is_new w ↦ (omega (arith, w.left-is, within), ap (λ x. c.args.room - x) w.left-is ∙ ap (λ b. cond b (n + 1) n) (sym w.if-is_new.false))
    ] in
    record {
      within = counted.0;
      inserted = counted_more (F g step) (Ends g step) c.args.room c.args.entries.now c.args.control.now (g.I.EncodedItems.items c.args.items.now) c.args.from c.loop-index.index n c.loop-index.entries c.loop-index.control
          c.loop-index.invariant.inserted c.key_bytes-key.result.now c.value_bytes-value.result.now (item_is g at.After-value_bytes-value) wrote.result wrote.new.entries wrote.new.control (stepped g step)
          (omega (arith, c.loop-index-test.true, c.count-to.ensures)) wrote.ensures.pair c.in-Some.is_new c.in-Some.is
          (λ P parts. (let h = c.loop-index.invariant.inserted.placed P parts in end.on_placed h.table h.parts)) (c.args.room - c.if-is_new.left) counted.1;
    }

pub returns-in_default : goal.returns-in_default
returns-in_default g c =
    let at = goal.at.returns-in_default g c in
    let wrote = c.write_counted-answer in
    let step = at.After-write_counted-answer in
    let refused = counted_refused (F g step) (Ends g step) c.args.room c.args.entries.now c.args.control.now (g.I.EncodedItems.items c.args.items.now) c.args.from c.loop-index.index (c.args.room - c.loop-index.left) c.loop-index.entries c.loop-index.control
    c.loop-index.invariant.inserted c.key_bytes-key.result.now c.value_bytes-value.result.now (item_is g at.After-value_bytes-value) wrote.result wrote.new.entries wrote.new.control (stepped g step) c.in_default.is in
    record {
      within = omega (arith, c.loop-index-test.true, c.count-to.ensures);
      inserted = refused.0;
      stop = inr (inr refused.1);
    }

pub returns : goal.returns
returns g c =
    let items = g.I.EncodedItems.items c.args.items.now in
    let K = bytes_coding (format_of (g.L.Lengths.key_len c.args.lengths) (g.L.Lengths.value_len c.args.lengths) g.H.HashFn.hash) in
    let all : c.count-to.result ≡ length items = c.count-to.ensures in
    let end : c.loop-index.index ≡ c.count-to.result = omega (arith, all, c.requires.can.within) in
    record {
      within = omega (arith, all);
      inserted = subst (λ (x : ℕ). IsRunTo K c.args.room c.args.entries.now c.args.control.now items c.args.from x (c.args.room - c.loop-index.left) c.loop-index.entries c.loop-index.control) end c.loop-index.invariant.inserted;
      stop = inl all;
    }
