use Rattle.std.proofs.Common.{[], ◌∷◌, ◌++◌, codes, arith, subst, sym, ap}
use Rattle.std.specs.Io.KnownBytes.{Appends}
use Rattle.std.specs.Prelude.{OnOk}
use Rattle.std.proofs.lemmas.Grind.{common_steps}
use Rattle.odht_tool_core.specs.Json.{json_field, string_field}
use Rattle.odht_tool_core.specs.Texts.{hex_text}
use Rattle.odht_tool_core.proofs.JsonTexts.{utf8_field, other_field}
use Rattle.odht_tool_core.proofs.json.pairs.write_any_field.Goals as goal

pub returns-in_ok-write-in-Ok : goal.returns-in_ok-write-in-Ok
returns-in_ok-write-in-Ok g c =
    let name = c.args.name.now in
    let text = c.args.text.now in
    let old = g.O.Write.contents c.args.output.now in
    let new = g.O.Write.contents c.write_string.new.output in
    let written : OnOk c.write_string.result (Appends old new (json_field (string_field name text))) = grind (arith, common_steps) in
    subst (λ t. OnOk c.write_string.result (Appends old new t)) (sym (ap json_field (utf8_field name text c.in-Ok.ensures.cases.1))) written

pub returns-in_ok-write_bytes-in-Err : goal.returns-in_ok-write_bytes-in-Err
returns-in_ok-write_bytes-in-Err g c =
    let name = c.args.name.now in
    let text = c.args.text.now in
    let old = g.O.Write.contents c.args.output.now in
    let new = g.O.Write.contents c.write_all.new.self in
    let written : OnOk c.write_all.result (Appends old new (34 ∷ ((name ++ codes "_hex") ++ (34 ∷ 58 ∷ 34 ∷ (hex_text text ++ (34 ∷ [])))))) = grind (arith, common_steps) in
    subst (λ t. OnOk c.write_all.result (Appends old new t)) (sym (other_field name text c.in-Err.ensures.cases.0 (λ i. (c.type_inv.text i).fits))) written
