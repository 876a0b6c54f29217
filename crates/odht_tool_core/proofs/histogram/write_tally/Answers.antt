use Rattle.std.proofs.Common.{◌∙◌, ◌+◌, ◌++◌, ◌∷◌, [], get_or, ap, subst, arith}
use Rattle.std.specs.Fmt.{styled_decimal}
use Rattle.std.specs.Io.KnownBytes.{Appends}
use Rattle.std.specs.Prelude.{OnOk, codes}
use Rattle.std.proofs.KnownBytes.{Appends-trans}
use Rattle.odht_tool_core.specs.InfoNumbers.{largest}
use Rattle.odht_tool_core.specs.InfoTexts.{aligned, bar, longer_mark}
use Rattle.odht_tool_core.proofs.InfoLines.{largest-at, aligned-8, aligned-12, joined, then_appends}
use Rattle.odht_tool_core.proofs.histogram.write_tally.Goals as goal

pub write_bar-requires : goal.write_bar-requires
write_bar-requires g c = omega (arith, c.requires.most, largest-at c.args.counts.now c.args.index c.requires.index)

pub returns : goal.returns
returns g c =
    let cs = c.args.counts.now in
    let i = c.args.index in
    let count = get_or cs i 0 in
    let old = g.W.Write.contents c.args.output.now in
    let p1 = g.W.Write.contents c.write.new.self in
    let p2 = g.W.Write.contents c.write_bar.new.output in
    let new = g.W.Write.contents c.write_all.new.self in
    let a = styled_decimal c.laid_out.result (i + 1) in
    let m = c.longer_mark-more.result.now in
    let n = styled_decimal c.laid_out-2.result count in
    let b = bar count c.args.most in
    let front = a ++ (m ++ (codes "  " ++ (n ++ codes "  "))) in
    let text = joined a m n b (aligned 8 (i + 1)) (longer_mark c.args.longest (i + 1)) (aligned 12 count) (bar count (largest cs))
    (ap (λ s. styled_decimal s (i + 1)) c.laid_out.ensures ∙ aligned-8 (i + 1)) c.longer_mark-more.ensures
    (ap (λ s. styled_decimal s count) c.laid_out-2.ensures ∙ aligned-12 count) (ap (bar count) c.requires.most) in
    subst (λ t. OnOk c.write_all.result (Appends old new t)) text
    (then_appends c.write_all.result old p2 new (front ++ b) (10 ∷ []) (Appends-trans old p1 p2 front b c.in_ok-write.ensures.bytes c.in_ok-write_bar.ensures) c.write_all.ensures.bytes)
