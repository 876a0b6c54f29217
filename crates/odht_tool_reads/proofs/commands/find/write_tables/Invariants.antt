use Rattle.std.specs.Prelude.{unwrap_or}
use Rattle.std.specs.Io.KnownBytes.{Appends}
use Rattle.std.specs.List.{flat_map, range_with_len}
use Rattle.odht_tool_reads.specs.FindLines.{table_item}
use Rattle.odht_tool_reads.proofs.commands.find.write_tables.Given as goal

-- the tables so far are written
abbrev pub invariant-loop-index : goal.invariant-loop-index
invariant-loop-index g l =
    Appends (g.O.Write.contents l.initial.output) (g.O.Write.contents l.output)
    (flat_map (table_item l.job.is_json (unwrap_or l.job.at 0) l.job.bytes.now l.job.bound l.tables) (range_with_len 0 l.index))
