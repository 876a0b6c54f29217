use Rattle.std.specs.Int.{w32}
use Rattle.odht_tool_core.proofs.JsonTexts.{number_simple}
use Rattle.odht_tool_core.proofs.written.U32Written.plain_bytes.Goals as goal

-- digits stand for themselves
pub returns-clause-none : goal.returns-clause-none
returns-clause-none c none = number_simple w32 c.args._form c.args.self.now
