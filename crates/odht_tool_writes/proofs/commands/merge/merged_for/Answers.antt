use Rattle.std.proofs.Common.{◌≡◌, ◌∙◌, map, sym, ap, subst}
use Rattle.std.specs.Prelude.{IfErr, IfOk, MatchResult}
use Rattle.odht_base.specs.Valid.{IsValidBytes}
use Rattle.odht_tool_writes.specs.Merges.{IsMerged, IsStoppedOf, input_pairs, or_memory}
use Rattle.odht_tool_core.specs.AnyShapes.{any_format}
use Rattle.odht_tool_core.specs.Percents.{new_percent}
use Rattle.odht_tool_writes.proofs.Merging.{on_unmerged, said}
use Rattle.odht_tool_writes.proofs.NewTables.{long_valid}
use Rattle.odht_tool_writes.proofs.commands.merge.merged_for.Goals as goal

pub new_percent-percent-requires : goal.new_percent-percent-requires
new_percent-percent-requires g c =
    let F = any_format c.args.found.0 in
    let B = c.as_slice-bytes.result.now in
    long_valid F B (subst (IsValidBytes F) (sym c.as_slice-bytes.ensures.value) c.requires.valid)

pub returns-clause-ok : goal.returns-clause-ok
returns-clause-ok g c =
    let o = c.args.options.now in
    let F = any_format c.args.found.0 in
    let p = new_percent c.args.first.items o.percent in
    let r = c.merged_inputs.result in
    let percent : c.new_percent-percent.result ≡ p = c.new_percent-percent.ensures ∙ ap (λ b. new_percent b o.percent) c.as_slice-bytes.ensures.value in
    let pairs = ap (map input_pairs) c.as_slice.ensures.value in
    let made = subst (λ xss. IfOk r (λ new. IsMerged F o.duplicates c.new_percent-percent.result xss new.items)) pairs c.merged_inputs.ensures.ok in
    let here = subst (λ n. IfOk r (λ new. IsMerged F o.duplicates n (map input_pairs c.in_ok-inputs.inputs.items) new.items)) percent made in
    subst (λ q. IfOk r (λ new. MatchResult q (λ xss. IsMerged F o.duplicates p xss new.items) (λ u. ⊥))) (sym c.in_ok-inputs.ensures.ok) here

pub returns-clause-err : goal.returns-clause-err
returns-clause-err g c =
    let o = c.args.options.now in
    let x = c.args.found in
    let p = new_percent c.args.first.items o.percent in
    let r = c.merged_inputs.result in
    let percent : c.new_percent-percent.result ≡ p = c.new_percent-percent.ensures ∙ ap (λ b. new_percent b o.percent) c.as_slice-bytes.ensures.value in
    let pairs = ap (map input_pairs) c.as_slice.ensures.value in
    let xss = map input_pairs c.in_ok-inputs.inputs.items in
    let made = subst (λ yss. IfErr r (λ u. IsStoppedOf x o.duplicates c.new_percent-percent.result u yss)) pairs c.merged_inputs.ensures.err in
    let failed = subst (λ n. IfErr r (λ u. IsStoppedOf x o.duplicates n u xss)) percent made in
    subst (λ q. IfErr r (λ u. or_memory u (MatchResult q (IsStoppedOf x o.duplicates p u) (λ v. u ≡ v)))) (sym c.in_ok-inputs.ensures.ok)
    (on_unmerged r (λ u. IsStoppedOf x o.duplicates p u xss) (λ u. or_memory u (IsStoppedOf x o.duplicates p u xss)) (λ u h. said u (IsStoppedOf x o.duplicates p u xss) h) failed)
