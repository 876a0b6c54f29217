-- The texts of bytes of a length that is known only at run time, by the form f of stored bytes, which says their type.
--     dynamic_text f b       the text of the bytes b; where there are not as many as the type has, their hexadecimal digits
--     IsDynamicWord f w      the word w is a text of some such bytes
--     StandsForDynamic f w b     it is that of the bytes b, of which there are as many as the type has
--     IsDynamicOf f w b      the word w is a text, and that of the bytes b
--     dynamic_wanted f       what is wanted of such a text: nothing of no bytes
--     dynamic_forms o fs     the forms of stored bytes of the types o that are written in the forms fs
use Rattle.std.specs.Prelude.{◌≡◌, ℕ, ◌==◌, List, length, if◌then◌else◌}
use Rattle.odht_tool_core.specs.Forms.{bytes_form, form_in, part_in}
use Rattle.odht_tool_core.specs.Keys.{IsReadAs}
use Rattle.odht_tool_core.specs.Misreads.{typed_wanted}
use Rattle.odht_tool_core.specs.ReadyShapes.{IsTypedWord, StandsFor, typed_len, typed_of}
use Rattle.odht_tool_core.specs.StoredTexts.{stored_text}
use Rattle.odht_tool_core.specs.Texts.{hex_text}
use Rattle.odht_tool_core.specs.declared.any.OtherShape.{OtherShape}
use Rattle.odht_tool_core.specs.declared.forms.Form.{Form}
use Rattle.odht_tool_core.specs.declared.forms.GivenForms.{GivenForms}
use Rattle.odht_tool_core.specs.declared.misread.Wanted.{Wanted}
use Rattle.odht_tool_core.specs.declared.misread.Wanted.TheVariants.{Nothing}

abbrev pub dynamic_text : Form → List ℕ → List ℕ
dynamic_text f b = if length b == typed_len (part_in f) then stored_text (form_in f) (part_in f) b else hex_text b

abbrev pub IsDynamicWord : Form → List ℕ → Type 0
IsDynamicWord f word = IsTypedWord (form_in f) (part_in f) word

abbrev pub StandsForDynamic : Form → List ℕ → List ℕ → Type 0
StandsForDynamic f word b = (length b ≡ typed_len (part_in f)) × StandsFor (form_in f) (part_in f) word (typed_of (part_in f) b)

abbrev pub IsDynamicOf : Form → List ℕ → List ℕ → Type 0
IsDynamicOf f = IsReadAs (IsDynamicWord f) (StandsForDynamic f)

abbrev pub dynamic_wanted : Form → Wanted
dynamic_wanted f = if typed_len (part_in f) == 0 then Nothing else typed_wanted (form_in f) (part_in f)

abbrev pub dynamic_forms : OtherShape → GivenForms → GivenForms
dynamic_forms o fs = record { key = bytes_form fs.key o.key; value = bytes_form fs.value o.value }
