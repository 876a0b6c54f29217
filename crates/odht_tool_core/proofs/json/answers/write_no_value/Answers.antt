use Rattle.odht_tool_core.specs.JsonAnswers.{absent_value}
use Rattle.odht_tool_core.proofs.json.answers.write_no_value.Goals as goal

-- the object whose value is null
pub returns-then-is_json : goal.returns-then-is_json
unfolding absent_value
returns-then-is_json g c = rw c.if-is_json.true c.write_all.ensures.bytes
