use Rattle.std.proofs.Common.{rules, ◌≡◌, ◌∙◌, ℕ, List, [], ◌∷◌, ◌++◌, ap, subst, sym, unwrap_or}
use Rattle.std.specs.Io.KnownBytes.{Appends}
use Rattle.std.specs.Prelude.{OnOk, codes}
use Rattle.std.proofs.lemmas.List.{append_assoc}
use Rattle.odht_tool_reads.specs.FindLines.{begin_text, tables_text}
use Rattle.odht_tool_core.specs.Json.{json_field, json_object, string_field}
use Rattle.odht_tool_core.proofs.InfoLines.{then_appends}
use Rattle.odht_tool_core.proofs.JsonFields.{pair_parts}
use Rattle.odht_tool_reads.proofs.commands.find.write_object.Goals as goal

-- the begin, the tables and the end are the object of two fields
three_parts : (x : List ℕ × List ℕ) (t : List ℕ) → (123 ∷ (json_field x ++ codes ",\"tables\":[")) ++ (t ++ codes "]}\n") ≡ json_object (x ∷ (codes "tables", 91 ∷ (t ++ (93 ∷ []))) ∷ []) ++ (10 ∷ [])
three_parts x t =
    let c = codes ",\"tables\":[" in
    ap (λ r. 123 ∷ r) (append_assoc (json_field x) c (t ++ codes "]}\n"))
    ∙ ap (λ r. 123 ∷ (json_field x ++ (c ++ r))) (sym (append_assoc t (93 ∷ []) (125 ∷ 10 ∷ [])))
    ∙ pair_parts x (codes "tables", 91 ∷ (t ++ (93 ∷ [])))

pub returns-clause-ok : goal.returns-clause-ok
returns-clause-ok g c =
    let o = g.O.Write.contents in
    let j = c.args.job.now in
    let old = o c.args.output.now in
    let p1 = o c.write_begin.new.output in
    let p2 = o c.write_tables.new.output in
    let new = o c.write_all.new.self in
    let r = c.map_err-2.result in
    let name = j.file.now in
    let text = tables_text j.is_json (unwrap_or j.at 0) j.bytes.now j.bound c.args.tables.now in
    let begun : Appends old p1 (begin_text name) = search rules in
    let last : OnOk r (Appends p2 new (codes "]}\n")) = search rules in
    let rest = then_appends r p1 p2 new text (codes "]}\n") c.in_ok-write_tables.ensures.ok last in
    subst (λ t. OnOk r (Appends old new t)) (three_parts (string_field (codes "file") name) text)
    (then_appends r old p1 new (begin_text name) (text ++ codes "]}\n") begun rest)
