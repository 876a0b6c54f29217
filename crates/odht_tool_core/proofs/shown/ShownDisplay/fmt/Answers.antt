use Rattle.std.proofs.Common.{codes, rules}
use Rattle.std.proofs.Output.{has_written_append}
use Rattle.odht_tool_core.proofs.shown.ShownDisplay.fmt.Goals as goal

pub returns-clause-writes : goal.returns-clause-writes
returns-clause-writes g c plain ok =
    has_written_append _ _ _ c.write-2.new.self _ _
    (has_written_append _ _ _ c.write_bytes.new.f (codes "\"") _ (has_written_append _ _ (codes "\"") c.write.new.self _ _ (search rules) (search rules)) (search rules))
    (search rules)
