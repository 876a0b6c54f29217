-- Lines of which no pair is read.
--     TellsLine d p q line n f r   r tells the fault f of line n, which is this, where the byte d stands between key and
--                          value, and p is wanted of keys and q of values; or there was no memory for that
--     IsTold d p q line x r  r tells so, where x is a fault of this line; else r is x
--     TellsRepeated d line n r   r tells of line n, which is this, that an earlier one had its key; or there was no memory
use Rattle.std.specs.Prelude.{◌≡◌, ⊤, ℕ, List, string_bytes}
use Rattle.odht_tool_core.specs.PairLines.{line_text, repeated_text}
use Rattle.odht_tool_core.specs.declared.failure.Failure.{Failure}
use Rattle.odht_tool_core.specs.declared.failure.Failure.TheVariants.{Line, Memory, Misread}
use Rattle.odht_tool_core.specs.declared.failure.LineFault.{LineFault}
use Rattle.odht_tool_core.specs.declared.misread.Wanted.{Wanted}

abbrev pub TellsLine : ℕ → Wanted → Wanted → List ℕ → ℕ → LineFault → Failure → Type 0
TellsLine d p q line number fault (Misread message) = string_bytes message ≡ line_text d number fault p q line
TellsLine d p q line number fault Memory = ⊤
TellsLine d p q line number fault _ = ⊥

abbrev pub IsTold : ℕ → Wanted → Wanted → List ℕ → Failure → Failure → Type 0
IsTold d p q line (Line number fault) r = TellsLine d p q line number fault r
IsTold d p q line x r = r ≡ x

abbrev pub TellsRepeated : ℕ → List ℕ → ℕ → Failure → Type 0
TellsRepeated d line number (Misread message) = string_bytes message ≡ repeated_text d number line
TellsRepeated d line number Memory = ⊤
TellsRepeated d line number _ = ⊥
