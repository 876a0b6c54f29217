use Rattle.std.proofs.Common.{◌∙◌, ap, length, sym}
use Rattle.odht_tool_core.proofs.BytePairs.{length-pairs}
use Rattle.odht_tool_core.proofs.pairs.BytePairsPairs.count.Goals as goal

pub returns : goal.returns
returns c =
    let s = c.self.inside in
    sym (ap length (sym c.self.view_is) ∙ length-pairs s.layout.key_len s.layout.value_len s.count s.bytes.items)
