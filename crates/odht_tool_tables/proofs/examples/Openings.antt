-- Worked examples: bytes that are opened as a table.
--     start                the empty table
--     numbers k v          the own texts of keys of the type k and values of the type v
use Rattle.std.proofs.Common.{◌≡◌, List, ℕ, refl, arith, [], Some}
use Rattle.odht_base.specs.Image.{image}
use Rattle.odht_base.specs.Load.{slots_for}
use Rattle.odht_base.specs.Table.{Table, empty, fresh}
use Rattle.odht_base.proofs.lemmas.FreeSlots.{fresh-IsValid}
use Rattle.odht_header.proofs.examples.Opened.{opened}
use Rattle.odht_raw.proofs.lemmas.Accepted.{IsAccepted-IsValidBytes}
use Rattle.odht_tool_core.specs.ReadyShapes.{shape_format}
use Rattle.odht_tool_core.specs.declared.forms.Form.TheVariants.{Own}
use Rattle.odht_tool_core.specs.declared.shapes.Part.{Part}
use Rattle.odht_tool_core.specs.declared.shapes.Part.TheVariants.{U32, U64}
use Rattle.odht_tool_core.specs.declared.generated.shapes.Shape.TheVariants.{U64ToU32}
use Rattle.odht_tool_core.specs.declared.typed.Texts.{Texts}
use Rattle.odht_tool_tables.specs.Openings.{FitTexts}

abbrev pub start : Table
start = empty 16 57015

pub made : fresh 0 87 ≡ Some start
unfolding opened slots_for
made = refl

-- texts of keys and values that are as long as those of a valid table; not of others, nor of bytes that are no table
abbrev numbers : Part → Part → Texts
numbers k v = record { key = k; value = v; forms = record { key = Own; value = Own } }

pub fit : FitTexts (numbers U64 U32) (shape_format U64ToU32) (image (shape_format U64ToU32) start)
fit = record {
  valid = (start, record { valid = fresh-IsValid 0 87 start made (shape_format U64ToU32) (omega arith) (omega arith); bytes = refl });
  key = refl;
  value = refl;
}

pub other_key : (B : List ℕ) → FitTexts (numbers U32 U32) (shape_format U64ToU32) B → ⊥
other_key B h = let e = h.key in omega arith

pub other_value : (B : List ℕ) → FitTexts (numbers U64 U64) (shape_format U64ToU32) B → ⊥
other_value B h = let e = h.value in omega arith

pub no_table : FitTexts (numbers U64 U32) (shape_format U64ToU32) [] → ⊥
unfolding opened
no_table h = let accepted = IsAccepted-IsValidBytes (shape_format U64ToU32) [] h.valid in cc
