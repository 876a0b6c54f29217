use Rattle.std.proofs.Common.{map, take}
use Rattle.std.specs.Io.KnownBytes.{Appends}
use Rattle.odht_base.specs.Format.{format_of}
use Rattle.odht_tool_reads.specs.Orders.{stored_at}
use Rattle.odht_tool_core.specs.StoredTexts.{lines_of}
use Rattle.odht_tool_reads.proofs.commands.order.write_order.Given as goal

-- the lines of the slots so far are written
abbrev pub invariant-loop-slot : goal.invariant-loop-slot
invariant-loop-slot g l =
    let F = format_of l.fn.layout.key_len l.fn.layout.value_len g.H.HashFn.hash in
    Appends (g.O.Write.contents l.initial.output) (g.O.Write.contents l.output)
    (lines_of l.texts (map (stored_at F l.bytes) (take l.slot-index l.order)))
