use Rattle.std.proofs.Common.{◌≡◌, List, ℕ, length, map, take}
use Rattle.std.specs.List.{AllZip}
use Rattle.std.specs.Prelude.{All, string_bytes}
use Rattle.odht.specs.Files.{file_coding}
use Rattle.odht_tool_core.specs.DynTexts.{IsDynamicOf}
use Rattle.odht_tool_reads.specs.Gets.{IsWordAnswer}
use Rattle.odht_tool_reads.specs.Positions.{IsShortSearch, IsTableAt}
use Rattle.odht_tool_reads.proofs.positions.lookups.answers_at.Given as goal

-- the answers so far are those to the words so far
abbrev pub invariant-loop-word : goal.invariant-loop-word
invariant-loop-word g l =
    (length l.answers.items ≡ l.word-index)
    × ((B : List ℕ) → IsTableAt g.S.ReadAt.gives g.H.HashFn.hash l.table.key_len l.table.value_len l.table B
    → AllZip (IsWordAnswer (file_coding l.table g.H.HashFn.hash) (IsDynamicOf l.form) B) (map string_bytes (take l.word-index l.words)) l.answers.items)
    × ((B : List ℕ) → IsTableAt g.S.ReadAt.gives g.H.HashFn.hash l.table.key_len l.table.value_len l.table B → All (λ a. IsShortSearch (file_coding l.table g.H.HashFn.hash) B a.0) l.answers.items)
