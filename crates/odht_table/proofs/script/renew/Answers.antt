use Rattle.std.proofs.Common.{◌∙◌, ap, subst}
use Rattle.std.specs.Prelude.{codes, [], ◌∷◌}
use Rattle.std.specs.Fmt.{decimal}
use Rattle.std.specs.Io.KnownBytes.{Appends}
use Rattle.odht_base.specs.Load.{factor_of, max_items}
use Rattle.odht_table.specs.Answers.{line_of, new_text}
use Rattle.odht_table.specs.Answers.IsRenewed.{made}
use Rattle.odht_table.specs.Messages.{refusal_text}
use Rattle.odht_table.proofs.NewTexts.{good_percent, refused_new, OnOk-more, joined}
use Rattle.odht_table.proofs.script.renew.Goals as goal

pub returns-in-Ok : goal.returns-in-Ok
returns-in-Ok g c =
    let slots = c.in-Ok.fresh.slot_count in
    let most = c.in-Ok.fresh.max_item_count in
    let is = c.in-Ok.ensures in
    let line = joined (codes "slots ") (decimal slots) (codes " max ") (decimal most) (10 ∷ []) ∙ ap (λ m. line_of (new_text slots m)) is.most in (
      new_text slots (max_items slots (factor_of c.args.percent)),
      made _ slots c.in-Ok.fresh.table (good_percent c.args.percent (λ h. let e = is.bad_percent.1 h in cc)) is.slots is.table,
      OnOk-more c.writeln.result (λ written. subst (λ text. Appends (g.W.Write.contents c.args.output.now) (g.W.Write.contents c.writeln.new.self) text) line written) c.writeln.ensures.bytes,
    )

pub returns-in-Err : goal.returns-in-Err
returns-in-Err g c = (
  refusal_text c.in-Err.refusal,
  refused_new _ c.args.max_item_count c.args.percent c.in-Err.refusal _ c.in-Err.ensures.bad_percent c.in-Err.ensures.capacity,
  c.writeln-in-Err.ensures.bytes,
)
