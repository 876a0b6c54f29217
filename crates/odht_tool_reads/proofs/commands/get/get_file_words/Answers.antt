use Rattle.std.proofs.Common.{◌∙◌, map, sym}
use Rattle.std.specs.Prelude.{string_bytes}
use Rattle.odht_header.proofs.lemmas.FirstErrors.{Ok-checked, Err-checked}
use Rattle.odht_tool_core.specs.JsonAnswers.{printed_as}
use Rattle.odht_tool_reads.specs.Bounds.{bound_refusal}
use Rattle.odht_tool_reads.specs.Gets.{AreFileWordsGot}
use Rattle.odht_tool_reads.proofs.Bounded.{within_bound, past_bound}
use Rattle.odht_tool_reads.proofs.commands.get.get_file_words.Goals as goal

pub returns-in-Ok : goal.returns-in-Ok
returns-in-Ok g c =
    let j = c.args.job.now in
    let old = g.O.Write.contents c.args.output.now in
    let new = g.O.Write.contents c.get_words.new.output in
    let r = c.get_words.result in
    let e = bound_refusal j.bytes.now j.bound in
    within_bound e (Ok-checked e (sym c.in-Ok.is ∙ c.check_bound.ensures)) old new r
    (AreFileWordsGot j.bytes.now c.args.hash c.args.kinds (printed_as j.is_json j.is_values) (map string_bytes c.args.words.now) old new r) c.get_words.ensures

pub returns-in-Err : goal.returns-in-Err
returns-in-Err g c =
    let j = c.args.job.now in
    let old = g.O.Write.contents c.args.output.now in
    let e = bound_refusal j.bytes.now j.bound in
    past_bound e c.in-Err.error (Err-checked e c.in-Err.error (sym c.in-Err.is ∙ c.check_bound.ensures)) old _
