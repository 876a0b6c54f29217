use Rattle.std.proofs.Common.{map, take}
use Rattle.std.specs.Io.KnownBytes.{Appends}
use Rattle.odht.specs.Dynamic.{dyn_format}
use Rattle.odht.specs.Tables.{OfTable}
use Rattle.odht_tool_writes.specs.Deletes.{absent_lines}
use Rattle.odht_tool_writes.proofs.dynamic.deletes.write_absent_keys.Given as goal

-- the lines of the words so far are written
abbrev pub invariant-loop-at : goal.invariant-loop-at
invariant-loop-at g l = OfTable (dyn_format l.table g.H.HashFn.hash) l.table.store.0.now
    (λ P. Appends (g.E.Write.contents l.initial.errors) (g.E.Write.contents l.errors) (absent_lines l.file P (map g.W.Word.bytes (take l.at l.words)) (take l.at l.keys)))
