-- The form of keys or values, of which something may be said.
--     form_for k p         the form of keys or values of the type p, of which k, or nothing, is said; none where k is of
--                          another type
use Rattle.std.specs.Prelude.{Option, None, Some}
use Rattle.std.specs.Bool.{then_some}
use Rattle.odht_tool_core.specs.ReadyShapes.{same_part}
use Rattle.odht_tool_core.specs.declared.forms.Form.{Form}
use Rattle.odht_tool_core.specs.declared.forms.Form.TheVariants.{Own}
use Rattle.odht_tool_core.specs.declared.forms.Kind.{Kind}
use Rattle.odht_tool_core.specs.declared.shapes.Part.{Part}

abbrev pub form_for : Option Kind → Part → Option Form
form_for None p = Some Own
form_for (Some k) p = then_some (same_part p k.part) k.form
