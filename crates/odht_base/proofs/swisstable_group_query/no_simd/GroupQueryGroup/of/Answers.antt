use Rattle.std.proofs.Common.{◌≡◌, sym, ap, ◌∙◌, take, subst}
use Rattle.std.proofs.Math.Seq.{take-length}
use Rattle.odht_base.specs.Groups.{IsWordReport}
use Rattle.odht_base.proofs.swisstable_group_query.no_simd.GroupQueryGroup.of.Goals as goal

pub returns-clause-word : goal.returns-clause-word
returns-clause-word c =
    let whole : take 8 c.args.bytes.now ≡ c.args.bytes.now = ap (λ n. take n c.args.bytes.now) (sym c.requires.size) ∙ take-length c.args.bytes.now in
    let same = c.in-Some.ensures.cases.same ∙ whole in
    subst (λ g. IsWordReport g c.args.h2 c.from.result.matches) same c.from.ensures.matches

pub returns-clause-matches : goal.returns-clause-matches
returns-clause-matches c = (returns-clause-word c).report
