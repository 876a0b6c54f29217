use Rattle.std.proofs.Common.{◌-◌, ◌≤◌}
use Rattle.odht_base.specs.Format.{format_of}
use Rattle.odht_raw.specs.DynParts.{bytes_coding}
use Rattle.odht_raw.specs.Runs.{IsRunTo}
use Rattle.odht_raw.proofs.raw_table.runs.insert_in_turn.Given as goal

-- the items so far were inserted
abbrev pub invariant-loop-index : goal.invariant-loop-index
invariant-loop-index g l =
    let c = bytes_coding (format_of (g.L.Lengths.key_len l.lengths) (g.L.Lengths.value_len l.lengths) g.H.HashFn.hash) in
    record {
      within : l.left ≤ l.room;
      inserted : IsRunTo c l.room l.initial.entries l.initial.control (g.I.EncodedItems.items l.items) l.from l.index (l.room - l.left) l.entries l.control;
    }
