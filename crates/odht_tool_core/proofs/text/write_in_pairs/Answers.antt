use Rattle.std.proofs.Common.{◌≡◌, ◌∙◌, ◌++◌, ◌-◌, arith, length, take, take-append-drop, ap}
use Rattle.std.proofs.KnownBytes.{Appends-trans}
use Rattle.std.proofs.lemmas.List.{append_assoc, length-drop}
use Rattle.odht_tool_core.proofs.text.write_in_pairs.Goals as goal

pub loop-pair-preserved : goal.loop-pair-preserved
loop-pair-preserved g c =
    let h = c.loop-pair.invariant in
    let rest = c.loop-pair.rest.now in
    let pair = c.in-Some.pair.now in
    let next = c.in-Some.next.now in
    let cut = c.in-Some.ensures.cases in
    let old = g.W.Write.contents c.args.output.now in
    let new = g.W.Write.contents c.is_written.new.output in
    let parts : pair ++ next ≡ rest = ap (λ ds. ds ++ next) cut.0 ∙ ap (λ ds. take 2 rest ++ ds) cut.1 ∙ take-append-drop 2 rest in
    let long : length next ≡ length rest - 2 = ap length cut.1 ∙ length-drop 2 rest in (
      h.0 ++ pair,
      Appends-trans old (g.W.Write.contents c.loop-pair.output) new h.0 pair h.1 (c.is_written.ensures.written c.if-not-is_written.false),
      append_assoc h.0 pair next ∙ ap (λ ds. h.0 ++ ds) parts ∙ h.2,
      omega (arith, long, cut.2, h.3),
      c.is_written.ensures.kept c.if-not-is_written.false ∙ h.4,
    )
