use Rattle.std.proofs.Common.{[], ◌∷◌, ◌++◌, arith, codes, subst}
use Rattle.std.specs.Io.KnownBytes.{Appends}
use Rattle.std.specs.Prelude.{OnOk}
use Rattle.std.proofs.lemmas.Grind.{common_steps}
use Rattle.odht_tool_core.specs.Json.{json_field, text_field, text_object}
use Rattle.odht_tool_core.proofs.JsonFields.{text_parts}
use Rattle.odht_tool_core.proofs.json.answers.write_value_object.Goals as goal

-- the brace, the value and the end are the object
pub returns : goal.returns
unfolding text_object
returns g c =
    let old = g.O.Write.contents c.args.output.now in
    let new = g.O.Write.contents c.write_all-2.new.self in
    let value = text_field (codes "value") (g.V.Written.text c.args.form c.args.value.now) in
    let written : OnOk c.write_all-2.result (Appends old new (123 ∷ (json_field value ++ (125 ∷ 10 ∷ [])))) = grind (arith, common_steps) in
    subst (λ t. OnOk c.write_all-2.result (Appends old new t)) (text_parts value) written
