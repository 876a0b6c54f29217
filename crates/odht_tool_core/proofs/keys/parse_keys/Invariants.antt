use Rattle.std.proofs.Common.{take, map}
use Rattle.std.specs.List.{AllZip}
use Rattle.std.specs.Prelude.{string_bytes}
use Rattle.odht_tool_core.specs.Keys.{IsReadAs}
use Rattle.odht_tool_core.proofs.keys.parse_keys.Given as goal

-- the words so far are texts of the keys
abbrev pub invariant-loop-word : goal.invariant-loop-word
invariant-loop-word g l = AllZip (IsReadAs (g.L.Key.Text.is_word l.form) (g.L.Key.Text.stands_for l.form)) (map string_bytes (take l.word-index l.words)) (g.L.Keys.items l.keys)
