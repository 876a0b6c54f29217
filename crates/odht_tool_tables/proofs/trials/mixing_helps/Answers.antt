use Rattle.odht_header.proofs.lemmas.HeaderFits.{IsOpening-opening_refusal}
use Rattle.odht_tool_core.specs.InfoNumbers.{format_by}
use Rattle.odht_tool_core.specs.declared.shapes.Hash.TheVariants.{Fx}
use Rattle.odht_tool_tables.proofs.trials.mixing_helps.Goals as goal

pub kept_percent-requires : goal.kept_percent-requires
kept_percent-requires c = (IsOpening-opening_refusal (format_by c.args.bytes.now Fx) c.args.bytes.now c.requires).long
