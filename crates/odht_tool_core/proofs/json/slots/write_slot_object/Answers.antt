use Rattle.std.proofs.Common.{subst}
use Rattle.std.specs.Io.KnownBytes.{Appends}
use Rattle.std.specs.Prelude.{OnOk, codes}
use Rattle.odht_tool_core.specs.Json.{number_field, pair_fields_text, text_field}
use Rattle.odht_tool_core.specs.JsonSlots.{number_fields_text, slot_object}
use Rattle.odht_tool_core.specs.StoredTexts.{key_text, value_text}
use Rattle.odht_tool_core.proofs.InfoLines.{then_appends}
use Rattle.odht_tool_core.proofs.JsonFields.{slot_parts}
use Rattle.odht_tool_core.proofs.json.slots.write_slot_object.Goals as goal

-- the numbers and the pair are one object
pub returns : goal.returns
unfolding slot_object
returns g c =
    let o = g.O.Write.contents in
    let old = o c.args.output.now in
    let new = o c.write_pair_fields.new.output in
    let r = c.write_pair_fields.result in
    let f = key_text c.args.texts in
    let h = value_text c.args.texts in
    let numbers = number_fields_text c.args.numbers.slot c.args.numbers.tag c.args.numbers.groups in
    let parts = slot_parts (number_field (codes "slot") c.args.numbers.slot) (number_field (codes "control") c.args.numbers.tag) (number_field (codes "groups") c.args.numbers.groups) (text_field (codes "key") (f c.args.key.now)) (text_field (codes "value") (h c.args.value.now)) in
    let written = then_appends r old (o c.write_number_fields.new.output) new numbers (pair_fields_text f h (c.args.key.now, c.args.value.now)) c.in_ok-write_number_fields.ensures c.write_pair_fields.ensures in
    subst (λ t. OnOk r (Appends old new t)) parts written
