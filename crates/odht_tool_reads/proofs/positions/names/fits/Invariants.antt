use Rattle.std.proofs.Common.{◌≡◌, ◌<◌, ℕ, None}
use Rattle.odht_header.specs.Refusals.{control_mismatch}
use Rattle.odht_tool_reads.specs.Positions.{slots_parts}
use Rattle.odht_tool_core.specs.InfoNumbers.{DynParts, file_format}
use Rattle.odht_tool_reads.proofs.positions.names.fits.Given as goal

-- no slot so far has another control byte than the tag of its key
abbrev pub invariant-loop-slot : goal.invariant-loop-slot
invariant-loop-slot l =
    let T : DynParts = slots_parts l.layout.key_len l.layout.value_len l.entries l.control in
    (i : ℕ) → i < l.slot → control_mismatch (file_format T l.hash) T.entries T.control i ≡ None
