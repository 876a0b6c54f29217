use Rattle.std.proofs.Common.{[], ◌∷◌, subst}
use Rattle.std.specs.Io.KnownBytes.{Appends}
use Rattle.std.specs.Prelude.{OnOk, codes}
use Rattle.odht_tool_core.specs.Json.{pair_fields_text, pair_object, text_field}
use Rattle.odht_tool_core.proofs.InfoLines.{then_appends}
use Rattle.odht_tool_core.proofs.JsonFields.{pair_parts}
use Rattle.odht_tool_core.proofs.json.answers.write_found.Goals as goal

-- the brace and the fields are the object
pub returns : goal.returns
unfolding pair_object
returns g c =
    let o = g.O.Write.contents in
    let old = o c.args.output.now in
    let new = o c.write_fields.new.output in
    let r = c.write_fields.result in
    let f = g.K.Written.text (g.F.Forms.pair c.args.forms).0 in
    let h = g.V.Written.text (g.F.Forms.pair c.args.forms).1 in
    let parts = pair_parts (text_field (codes "key") (f c.args.key.now)) (text_field (codes "value") (h c.args.value.now)) in
    let written = then_appends r old (o c.write_all.new.self) new (123 ∷ []) (pair_fields_text f h (c.args.key.now, c.args.value.now)) c.in_ok-write_all.ensures.bytes c.write_fields.ensures in
    subst (λ t. OnOk r (Appends old new t)) parts written
