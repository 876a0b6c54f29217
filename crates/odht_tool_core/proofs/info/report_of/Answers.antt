use Rattle.std.proofs.Common.{◌≡◌, ◌∙◌, List, [], ◌∷◌, ap, ap₂, refl}
use Rattle.std.specs.Prelude.{codes}
use Rattle.odht_tool_core.specs.InfoReports.{line}
use Rattle.odht_tool_core.specs.Reports.{Told}
use Rattle.odht_tool_core.proofs.info.report_of.Goals as goal

-- one field, and those behind it
next : {t u : Told} {ts us : List Told} → t ≡ u → ts ≡ us → t ∷ ts ≡ u ∷ us
next p q = ap₂ (λ x xs. x ∷ xs) p q

pub returns : goal.returns
returns c =
    next c.file_field.ensures
    (next (c.line.ensures ∙ ap (λ s. line (codes "at") (codes "at byte       ") s (10 ∷ [])) c.of_number.ensures)
    (next c.number_line.ensures
    (next c.number_line-2.ensures
    (next c.number_line-3.ensures
    (next c.number_line-4.ensures
    (next c.number_line-5.ensures
    (next c.number_line-6.ensures
    (next c.number_line-7.ensures
    (next c.percent_line.ensures
    (next c.percent_line-2.ensures
    (next (c.line-2.ensures ∙ ap (λ s. line (codes "along_slots") (codes "along slots   ") s (10 ∷ [])) c.stretches_of.ensures)
    (next c.hash_field.ensures
    (next c.bound_field.ensures
    (next (c.line-3.ensures ∙ ap (λ s. line (codes "histogram") [] s []) c.histogram_of.ensures)
    (next (c.line-4.ensures ∙ ap (λ s. line (codes "longest_hit") (codes "longest hit   ") s (10 ∷ [])) c.longest_hit.ensures)
    (next (c.line-5.ensures ∙ ap (λ s. line (codes "longest_miss") (codes "longest miss  ") s (10 ∷ [])) c.longest_miss.ensures)
    (next (c.line-6.ensures ∙ ap (λ s. line (codes "may_help") (codes "may help      ") s (10 ∷ [])) c.help_of.ensures)
    refl)))))))))))))))))
