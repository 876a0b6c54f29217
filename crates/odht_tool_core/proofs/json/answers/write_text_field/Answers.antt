use Rattle.std.proofs.Common.{[], ◌∷◌, ◌++◌, rules, subst, sym, arith}
use Rattle.std.specs.Io.KnownBytes.{Appends}
use Rattle.std.specs.Prelude.{OnOk}
use Rattle.std.proofs.lemmas.Grind.{common_steps}
use Rattle.odht_tool_core.proofs.JsonTexts.{simple_field}
use Rattle.odht_tool_core.proofs.json.answers.write_text_field.Goals as goal

-- each byte of the text stands for itself
pub returns : goal.returns
returns g c =
    let name = c.args.name.now in
    let text = g.T.Written.text c.args.form c.args.value.now in
    let old = g.O.Write.contents c.args.output.now in
    let new = g.O.Write.contents c.write_all.new.self in
    let written : OnOk c.write_all.result (Appends old new (34 ∷ (name ++ (34 ∷ 58 ∷ 34 ∷ (text ++ (34 ∷ [])))))) = grind (arith, common_steps) in
    subst (λ t. OnOk c.write_all.result (Appends old new t)) (sym (simple_field name text (c.plain_bytes.ensures.none (search rules)))) written
