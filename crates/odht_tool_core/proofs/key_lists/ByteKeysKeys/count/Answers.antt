use Rattle.std.proofs.Common.{◌∙◌, ap, length, sym}
use Rattle.odht_tool_core.proofs.BytePairs.{length-keys}
use Rattle.odht_tool_core.proofs.key_lists.ByteKeysKeys.count.Goals as goal

pub returns : goal.returns
returns c =
    let s = c.self.inside in
    sym (ap length (sym c.self.view_is) ∙ length-keys s.key_len s.count s.bytes.items)
