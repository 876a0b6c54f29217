use Rattle.std.proofs.Common.{List, ℕ}
use Rattle.odht_base.specs.Bytes.{bytes_at}
use Rattle.odht_tool_core.specs.InfoNumbers.{file_parts}
use Rattle.odht_tool_reads.specs.Positions.{IsStartOf}
use Rattle.odht_tool_reads.proofs.FileReads.{Excluded}
use Rattle.odht_tool_reads.proofs.positions.names.left_hash.Given as goal

-- each hash function that is not left any more disagrees with the whole table
abbrev pub invariant-loop-group : goal.invariant-loop-group
invariant-loop-group g l =
    (B : List ℕ) → g.S.ReadAt.gives l.source B → IsStartOf B l.start → Excluded (file_parts (bytes_at B l.start.at l.start.len)) l.left.fx l.left.unhash l.left.xxh64
