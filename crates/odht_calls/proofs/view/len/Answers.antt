use Rattle.std.proofs.Common.{◌∙◌, ap}
use Rattle.odht_base.specs.Decoded.{header_count}
use Rattle.odht_calls.specs.Layouts.{any_coding}
use Rattle.odht_calls.proofs.lemmas.Sizes.{counted}
use Rattle.odht_calls.proofs.view.len.Goals as goal

pub returns : goal.returns
returns c l =
    let by_header = c.item_count.ensures ∙ ap header_count c.of.ensures in
    record { by_header = by_header; on_valid = λ P is. by_header ∙ counted (any_coding l).format P c.args.view.now.bytes.now is }
