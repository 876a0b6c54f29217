-- The table that begins with the bytes B, whatever comes after it.
--     stated_len B         how many bytes it has, by the slot count and the sizes in the header
--     front_refusal B      the error of opening, but that a length which differs is one only where there are fewer bytes
--     table_front B        the first stated_len B bytes; with an error all bytes, which opening rejects with the same one
--     begins_table B       opening has no error but that of a length: B begins with the header of a table
--     offset_failure B at  the offset `at` is past the end of the bytes B
use Rattle.std.specs.Prelude.{ℕ, List, length, take, nat_lt, is_none, Option, Some, None, Bool, true, false, if◌then◌else◌}
use Rattle.std.specs.Bool.{then_some}
use Rattle.odht_base.specs.Decoded.{header_slots}
use Rattle.odht_base.specs.Image.{image_len}
use Rattle.odht_header.specs.Refusals.{prefix_refusal}
use Rattle.odht_header.specs.declared.error.Error.{Error}
use Rattle.odht_header.specs.declared.error.Error.TheVariants.{WrongLength}
use Rattle.odht_tool_core.specs.InfoNumbers.{format_by}
use Rattle.odht_tool_core.specs.declared.failure.Failure.{Failure}
use Rattle.odht_tool_core.specs.declared.failure.Failure.TheVariants.{PastEnd}
use Rattle.odht_tool_core.specs.declared.shapes.Hash.TheVariants.{Fx}

abbrev pub stated_len : List ℕ → ℕ
stated_len B = image_len (format_by B Fx) (header_slots B)

abbrev pub front_refusal : List ℕ → Option Error
front_refusal B = prefix_refusal (format_by B Fx) B

abbrev pub table_front : List ℕ → List ℕ
table_front B = if is_none (front_refusal B) then take (stated_len B) B else B

abbrev pub is_header_fit : Option Error → Bool
is_header_fit None = true
is_header_fit (Some (WrongLength slots found expected)) = true
is_header_fit (Some _) = false

abbrev pub begins_table : List ℕ → Bool
begins_table B = is_header_fit (front_refusal B)

abbrev pub offset_failure : List ℕ → ℕ → Option Failure
offset_failure B at = then_some (nat_lt (length B) at) (PastEnd at (length B))
