use Rattle.std.proofs.Common.{[], ◌∷◌, ◌++◌, arith, codes, subst}
use Rattle.std.specs.Io.KnownBytes.{Appends}
use Rattle.std.specs.Prelude.{OnOk}
use Rattle.std.proofs.lemmas.Grind.{common_steps}
use Rattle.odht_tool_core.specs.Json.{json_field, text_field}
use Rattle.odht_tool_core.specs.JsonAnswers.{absent_object}
use Rattle.odht_tool_core.proofs.JsonFields.{pair_parts}
use Rattle.odht_tool_core.proofs.json.answers.write_absent.Goals as goal

-- the brace, the key and null are the object
pub returns : goal.returns
unfolding absent_object
returns g c =
    let old = g.O.Write.contents c.args.output.now in
    let new = g.O.Write.contents c.write_all-2.new.self in
    let key = text_field (codes "key") (g.K.Written.text c.args.form c.args.key.now) in
    let written : OnOk c.write_all-2.result (Appends old new (123 ∷ (json_field key ++ (44 ∷ (json_field (codes "value", codes "null") ++ (125 ∷ 10 ∷ [])))))) = grind (arith, common_steps) in
    subst (λ t. OnOk c.write_all-2.result (Appends old new t)) (pair_parts key (codes "value", codes "null")) written
