use Rattle.std.proofs.Common.{◌∙◌, sym, ap}
use Rattle.std.proofs.lemmas.Option.{none-some}
use Rattle.odht_tool_core.specs.InfoNumbers.{has_long_search}
use Rattle.odht_tool_tables.proofs.ShortRuns.{image_long, image_opens}
use Rattle.odht_tool_tables.proofs.short_inserts.has_long_search.Goals as goal

pub returns-in-Ok : goal.returns-in-Ok
returns-in-Ok c F P is = c.has_long_search.ensures ∙ ap has_long_search c.in-Ok.ensures.parts ∙ image_long F P c.args.bytes.now is

pub returns-in-Err : goal.returns-in-Err
returns-in-Err c F P is = absurd (none-some _ (sym (image_opens F P c.args.bytes.now is) ∙ sym c.in-Err.ensures.err))
