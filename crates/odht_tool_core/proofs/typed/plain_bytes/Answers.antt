use Rattle.odht_tool_core.proofs.JsonTexts.{typed_simple}
use Rattle.odht_tool_core.proofs.typed.plain_bytes.Goals as goal

pub returns-in-Bytes-clause-some : goal.returns-in-Bytes-clause-some
returns-in-Bytes-clause-some c = rw c.in-Bytes.is c.plain_bytes_in.ensures.some

pub returns-in-Bytes-clause-none : goal.returns-in-Bytes-clause-none
returns-in-Bytes-clause-none c = rw c.in-Bytes.is c.plain_bytes_in.ensures.none

-- digits and signs stand for themselves
pub returns-in_default-clause-none : goal.returns-in_default-clause-none
returns-in_default-clause-none c none = typed_simple c.args.form c.args.part c.args.bytes.now c.in_default.not-Bytes
