use Rattle.std.proofs.Common.{map, take}
use Rattle.std.specs.List.{AllZip}
use Rattle.std.specs.Prelude.{string_bytes}
use Rattle.odht.specs.Dynamic.{dyn_coding}
use Rattle.odht_tool_core.specs.DynTexts.{IsDynamicOf}
use Rattle.odht_tool_reads.specs.Gets.{IsWordAnswer}
use Rattle.odht_tool_reads.proofs.lookups.words.answers_of.Given as goal

-- the answers so far are those to the words so far
abbrev pub invariant-loop-word : goal.invariant-loop-word
invariant-loop-word g l = AllZip (IsWordAnswer (dyn_coding l.table g.H.HashFn.hash) (IsDynamicOf l.form) l.table.store.0.now) (map string_bytes (take l.word-index l.words)) l.answers.items
