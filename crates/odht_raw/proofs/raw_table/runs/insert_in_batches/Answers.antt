use Rattle.std.proofs.Common.{◌≡◌, ◌+◌, ◌-◌, ℕ, List, inl, inr, arith}
use Rattle.odht_raw.specs.Words.{Coding, format_of}
use Rattle.odht_raw.specs.DynParts.{bytes_coding}
use Rattle.odht_raw.proofs.lemmas.PartRuns.{refused_room, run_to_none, run_to_then}
use Rattle.odht_raw.proofs.raw_table.runs.insert_in_batches.Given.{Over}
use Rattle.odht_raw.proofs.raw_table.runs.insert_in_batches.Goals as goal

-- the coding of the bytes
abbrev coding : (g : Over) → g.row.L.Denot → Coding (List ℕ) (List ℕ)
coding g lengths = bytes_coding (format_of (g.L.Lengths.key_len lengths) (g.L.Lengths.value_len lengths) g.H.HashFn.hash)

pub loop-index-init : goal.loop-index-init
loop-index-init g c = record {
  within = c.requires.can.within;
  inserted = run_to_none (coding g c.args.lengths) c.args.room c.args.entries.now c.args.control.now (g.I.EncodedItems.items c.args.items) c.args.from;
}

pub returns-then-end-index : goal.returns-then-end-index
returns-then-end-index g c =
    let K = coding g c.args.lengths in
    let items = g.I.EncodedItems.items c.args.items in
    let b = c.insert_batch-end in
    let left : c.args.room - c.loop-index.added - b.result.1 ≡ c.args.room - (c.loop-index.added + b.result.1) = omega arith in
    record {
      within = omega (arith, b.ensures.within, c.loop-index-test.true, c.count-to.ensures);
      inserted = run_to_then K c.args.room c.args.entries.now c.args.control.now items c.args.from c.loop-index.index b.result.0 c.loop-index.added c.loop-index.entries c.loop-index.control
          b.result.1 b.new.entries b.new.control c.loop-index.invariant.inserted b.ensures.inserted;
      stop = elim b.ensures.stop [
        | inl e ↦ absurd (omega (arith, e, c.if-end-index.true))
        | inr (inl other) ↦ inr (inl other)
        | inr (inr refused) ↦ inr (inr (refused_room K _ _ items b.result.0 b.new.entries b.new.control left refused))
      ];
    }

pub loop-index-preserved : goal.loop-index-preserved
loop-index-preserved g c =
    let b = c.insert_batch-end in
    record {
      within = omega (arith, b.ensures.within, c.loop-index-test.true, c.count-to.ensures);
      inserted = run_to_then (coding g c.args.lengths) c.args.room c.args.entries.now c.args.control.now (g.I.EncodedItems.items c.args.items) c.args.from c.loop-index.index b.result.0 c.loop-index.added
          c.loop-index.entries c.loop-index.control b.result.1 b.new.entries b.new.control c.loop-index.invariant.inserted b.ensures.inserted;
    }

pub returns : goal.returns
returns g c =
    let K = coding g c.args.lengths in
    let items = g.I.EncodedItems.items c.args.items in
    let b = c.insert_in_turn-end in
    let left : c.args.room - c.loop-index.added - b.result.1 ≡ c.args.room - (c.loop-index.added + b.result.1) = omega arith in
    record {
      within = b.ensures.within;
      inserted = run_to_then K c.args.room c.args.entries.now c.args.control.now items c.args.from c.loop-index.index b.result.0 c.loop-index.added c.loop-index.entries c.loop-index.control
          b.result.1 b.new.entries b.new.control c.loop-index.invariant.inserted b.ensures.inserted;
      stop = elim b.ensures.stop [
        | inl e ↦ inl e
        | inr (inl other) ↦ inr (inl other)
        | inr (inr refused) ↦ inr (inr (refused_room K _ _ items b.result.0 b.new.entries b.new.control left refused))
      ];
    }
