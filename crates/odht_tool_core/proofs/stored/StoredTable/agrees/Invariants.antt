use Rattle.std.proofs.Common.{◌≡◌, ◌<◌, ℕ, None}
use Rattle.odht_header.specs.Refusals.{control_mismatch}
use Rattle.odht_tool_core.specs.InfoNumbers.{file_format}
use Rattle.odht_tool_core.proofs.stored.StoredTable.agrees.Given as goal

-- no slot so far has another control byte than the tag of its key
abbrev pub invariant-loop-slot : goal.invariant-loop-slot
invariant-loop-slot l = (i : ℕ) → i < l.slot → control_mismatch (file_format l.self l.hash) l.self.entries l.self.control i ≡ None
