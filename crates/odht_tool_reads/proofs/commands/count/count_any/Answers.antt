use Rattle.std.proofs.Common.{◌∙◌, sym}
use Rattle.odht_base.specs.Format.{Format}
use Rattle.odht_header.proofs.lemmas.FirstErrors.{Ok-checked}
use Rattle.odht_header.proofs.lemmas.HeaderFits.{IsOpening-opening_refusal}
use Rattle.odht_tool_core.specs.AnyShapes.{any_format}
use Rattle.odht_tool_reads.proofs.Passes.{passes_accepted}
use Rattle.odht_tool_reads.proofs.commands.count.count_any.Goals as goal

-- accepted bytes have a header
pub of-requires : goal.of-requires
of-requires c =
    let F : Format = any_format c.args.shape in
    let B = c.args.bytes.now in
    (IsOpening-opening_refusal F B (passes_accepted F c.args.bound B (Ok-checked _ (sym c.in-Ok.is ∙ c.check_any.ensures.first)))).long
