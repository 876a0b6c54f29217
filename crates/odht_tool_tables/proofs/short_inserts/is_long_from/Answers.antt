use Rattle.std.proofs.Common.{◌∙◌, ◌%◌, Some, sym, ap, ap₂}
use Rattle.std.specs.Prelude.{nat_lt}
use Rattle.std.proofs.lemmas.Option.{none-some}
use Rattle.odht_tool_core.specs.GroupNumbers.{capped, groups_to_free}
use Rattle.odht_tool_tables.proofs.ShortRuns.{image_controls, image_opens, image_slots}
use Rattle.odht_tool_tables.proofs.short_inserts.is_long_from.Goals as goal

pub returns-in-Ok : goal.returns-in-Ok
returns-in-Ok c F P is =
    let B = c.args.bytes.now in
    let parts = c.in-Ok.ensures.parts in
    c.is_long_from.ensures
    ∙ ap₂ (λ ctrl s. nat_lt 24 (capped (Some 24) (groups_to_free ctrl (c.args.hash % s))))
    (ap (λ t. t.control) parts ∙ image_controls F P B is) (ap (λ t. t.slots) parts ∙ image_slots F P B is)

pub returns-in-Err : goal.returns-in-Err
returns-in-Err c F P is = absurd (none-some _ (sym (image_opens F P c.args.bytes.now is) ∙ sym c.in-Err.ensures.err))
