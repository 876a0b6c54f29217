use Rattle.std.proofs.Common.{◌∙◌, sym, ap}
use Rattle.std.specs.List.{list_all}
use Rattle.odht_tool_core.specs.Evidence.{is_letter, looks}
use Rattle.odht_tool_core.specs.PlainTexts.{is_plain}
use Rattle.odht_tool_core.proofs.Looks.{all_pass}
use Rattle.odht_tool_core.proofs.evidence.Look.is_of.Goals as goal

pub returns-in-PlainText : goal.returns-in-PlainText
returns-in-PlainText c =
    all_pass is_plain c.plain_of-text.result.now c.are_plain.result c.are_plain.ensures
    ∙ ap (list_all is_plain) c.plain_of-text.ensures
    ∙ ap (λ l. looks l c.args.bytes.now) (sym c.in-PlainText.is)

pub returns-in-Letters : goal.returns-in-Letters
returns-in-Letters c =
    all_pass is_letter c.plain_of-text.result.now c.are_letters.result c.are_letters.ensures
    ∙ ap (list_all is_letter) c.plain_of-text.ensures
    ∙ ap (λ l. looks l c.args.bytes.now) (sym c.in-Letters.is)
