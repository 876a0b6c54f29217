-- The texts of stored bytes.
--     stored_text f p b    the text, in the form f, of the key or value of the type p that is stored as the bytes b
--     key_text t b         that of a key, by the texts t
--     value_text t b       that of a value
--     texts_of s fs        the texts of the shape s in the forms fs
--     side_typed t x       the type and the form of the side x of pairs, by the texts t
--     side_bytes x p       the bytes of this side of the pair p
--     side_name x          its name in objects of JSON
--     bare_pairs ps        the keys and values of the pairs ps
--     lines_of t ps        the line of each of them, by the texts t
use Rattle.std.specs.Prelude.{ℕ, List, codes, map}
use Rattle.odht_base.specs.Table.{Pair}
use Rattle.odht_tool_core.specs.AnyShapes.{any_key, any_value}
use Rattle.odht_tool_core.specs.ReadyShapes.{typed_of, typed_text}
use Rattle.odht_tool_core.specs.Texts.{pairs_text}
use Rattle.odht_tool_core.specs.declared.any.AnyShape.{AnyShape}
use Rattle.odht_tool_core.specs.declared.forms.Form.{Form}
use Rattle.odht_tool_core.specs.declared.forms.GivenForms.{GivenForms}
use Rattle.odht_tool_core.specs.declared.shapes.Part.{Part}
use Rattle.odht_tool_core.specs.declared.typed.Side.{Side}
use Rattle.odht_tool_core.specs.declared.typed.Side.TheVariants.{Key, Value}
use Rattle.odht_tool_core.specs.declared.typed.Texts.{Texts}
use Rattle.odht_tool_core.specs.declared.typed.stored.Typed.{Typed}

abbrev pub stored_text : Form → Part → List ℕ → List ℕ
stored_text f p b = typed_text f p (typed_of p b)

abbrev pub key_text : Texts → List ℕ → List ℕ
key_text t = stored_text t.forms.key t.key

abbrev pub value_text : Texts → List ℕ → List ℕ
value_text t = stored_text t.forms.value t.value

abbrev pub texts_of : AnyShape → GivenForms → Texts
texts_of s fs = record { key = any_key s; value = any_value s; forms = fs }

abbrev pub side_typed : Texts → Side → Typed
side_typed t Key = record { part = t.key; form = t.forms.key }
side_typed t Value = record { part = t.value; form = t.forms.value }

abbrev pub side_bytes : Side → Pair → List ℕ
side_bytes Key p = p.key
side_bytes Value p = p.value

abbrev pub side_name : Side → List ℕ
side_name Key = codes "key"
side_name Value = codes "value"

abbrev pub bare_pairs : List Pair → List (List ℕ × List ℕ)
bare_pairs ps = map (λ p. (p.key, p.value)) ps

abbrev pub lines_of : Texts → List Pair → List ℕ
lines_of t ps = pairs_text (key_text t) (value_text t) (bare_pairs ps)
