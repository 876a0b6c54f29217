use Rattle.std.proofs.Common.{Ok, subst}
use Rattle.odht_base.specs.Decoded.{decoded_pairs}
use Rattle.odht_base.specs.Format.{Format, format_of}
use Rattle.odht_tool_reads.specs.Diffs.{diff_text, pairs_diff}
use Rattle.odht_tool_core.specs.Endings.{IsDone}
use Rattle.odht_tool_core.specs.ReadyShapes.{typed_len}
use Rattle.odht_tool_core.specs.StoredTexts.{key_text, value_text}
use Rattle.odht_tool_core.specs.declared.failure.Failure.TheVariants.{Output}
use Rattle.odht_tool_reads.proofs.Diffed.{compared_failed}
use Rattle.odht_tool_reads.proofs.dynamic.diffs.diff_lengths.Goals as goal

pub returns-in-Ok : goal.returns-in-Ok
returns-in-Ok g c =
    let f = key_text c.args.texts in
    let v = value_text c.args.texts in
    let one = c.open_valid-one.ensures in
    let two = c.open_valid-two.ensures in
    let old = g.O.Write.contents c.args.output.now in
    let new = g.O.Write.contents c.write_diff.new.output in
    subst (λ o. IsDone o old new (Ok c.in-Ok.status)) (λ i. pairs_diff f v (one.bytes i) (two.bytes i) (one.pairs i) (two.pairs i)) c.in-Ok.ensures

pub returns-in-Err : goal.returns-in-Err
returns-in-Err g c =
    let F : Format = format_of (typed_len c.args.texts.key) (typed_len c.args.texts.value) g.H1.HashFn.hash in
    let G : Format = format_of (typed_len c.args.texts.key) (typed_len c.args.texts.value) g.H2.HashFn.hash in
    let lines = diff_text (key_text c.args.texts) (value_text c.args.texts) (decoded_pairs F c.args.first.now) (decoded_pairs G c.args.second.now) in
    compared_failed c.args.first.now c.args.second.now lines (g.O.Write.contents c.args.output.now) (g.O.Write.contents c.write_diff.new.output) (Output c.in-Err.error) tt
