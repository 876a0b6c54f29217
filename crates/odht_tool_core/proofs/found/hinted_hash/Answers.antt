use Rattle.std.proofs.Common.{rules, ◌≡◌, ◌∙◌, None, true, sym, ap, if◌then◌else◌}
use Rattle.odht_tool_core.specs.FoundShapes.{has_items, other_hash}
use Rattle.odht_tool_core.specs.InfoNumbers.{file_parts}
use Rattle.odht_tool_core.proofs.found.hinted_hash.Goals as goal

pub returns : goal.returns
returns c =
    let B = c.args.bytes.now in
    let counted : has_items B ≡ true = search rules in
    let parts = c.in_ok-table.ensures.parts in
    c.other_hash.ensures ∙ ap (λ T. other_hash T c.args.hash) parts
    ∙ sym (ap (λ b. if b then other_hash (file_parts B) c.args.hash else None) counted)
