use Rattle.std.proofs.Common.{◌≡◌, ◌∙◌, List, ℕ, Ok, map, sym, ap, subst}
use Rattle.std.specs.Prelude.{IfErr, IfOk, MatchResult}
use Rattle.odht_tool_core.specs.Percents.{new_percent}
use Rattle.odht_tool_tables.specs.Wholes.{whole_any}
use Rattle.odht_tool_writes.specs.Merges.{IsLateStop, IsMergedFrom}
use Rattle.odht_tool_writes.specs.declared.dynamic.merges.MergeFailure.TheVariants.{Failed}
use Rattle.odht_tool_writes.proofs.commands.merge.merged.Goals as goal

pub returns-in-Ok-clause-ok : goal.returns-in-Ok-clause-ok
returns-in-Ok-clause-ok g c =
    let o = c.args.options.now in
    let B = c.args.first.items in
    let Bs : List (List ℕ) = map (λ bytes. bytes.items) c.args.others.items in
    let found : whole_any B o.hash o.kinds o.bound ≡ Ok c.in-Ok.found = ap (λ b. whole_any b o.hash o.kinds o.bound) (sym c.as_slice.ensures.value) ∙ sym c.read_whole.ensures.whole ∙ c.in-Ok.is in
    subst (λ r. IfOk c.merged_for.result (λ new. MatchResult r (λ x. IsMergedFrom B Bs o.hash o.bound o.duplicates (new_percent B o.percent) new.items x.0) (λ f. ⊥))) (sym found) c.merged_for.ensures.ok

pub returns-in-Ok-clause-err : goal.returns-in-Ok-clause-err
returns-in-Ok-clause-err g c =
    let o = c.args.options.now in
    let B = c.args.first.items in
    let Bs : List (List ℕ) = map (λ bytes. bytes.items) c.args.others.items in
    let found : whole_any B o.hash o.kinds o.bound ≡ Ok c.in-Ok.found = ap (λ b. whole_any b o.hash o.kinds o.bound) (sym c.as_slice.ensures.value) ∙ sym c.read_whole.ensures.whole ∙ c.in-Ok.is in
    subst (λ r. IfErr c.merged_for.result (λ u. MatchResult r (IsLateStop B Bs o.hash o.bound o.duplicates (new_percent B o.percent) u) (λ f. u ≡ Failed 0 f))) (sym found) c.merged_for.ensures.err
