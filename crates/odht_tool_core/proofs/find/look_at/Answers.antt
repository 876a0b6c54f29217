use Rattle.std.proofs.Common.{rules, ◌≡◌, get_or}
use Rattle.odht_tool_core.proofs.Finds.{other_first}
use Rattle.odht_tool_core.proofs.find.look_at.Goals as goal

pub returns-else-bytes-at-eq-FIRST : goal.returns-else-bytes-at-eq-FIRST
returns-else-bytes-at-eq-FIRST c =
    let other : get_or c.args.bytes.now c.args.at 0 ≡ 79 → ⊥ = search rules in
    other_first c.args.bytes.now c.args.at other
