use Rattle.std.proofs.Common.{[], ◌∷◌, ◌++◌, arith, subst}
use Rattle.std.specs.Io.KnownBytes.{Appends}
use Rattle.std.specs.Prelude.{OnOk}
use Rattle.std.proofs.lemmas.Grind.{common_steps}
use Rattle.odht_tool_core.specs.Json.{json_field, text_field, text_object}
use Rattle.odht_tool_core.specs.StoredTexts.{side_name, stored_text}
use Rattle.odht_tool_core.proofs.JsonFields.{text_parts}
use Rattle.odht_tool_core.proofs.json.pairs.write_side_object.Goals as goal

-- the braces and the field are the object
pub returns : goal.returns
unfolding text_object
returns g c =
    let old = g.O.Write.contents c.args.output.now in
    let new = g.O.Write.contents c.write_all-2.new.self in
    let field = text_field (side_name c.args.side) (stored_text c.args.typed.form c.args.typed.part c.args.bytes.now) in
    let written : OnOk c.write_all-2.result (Appends old new (123 ∷ (json_field field ++ (125 ∷ 10 ∷ [])))) = grind (arith, common_steps) in
    subst (λ t. OnOk c.write_all-2.result (Appends old new t)) (text_parts field) written
