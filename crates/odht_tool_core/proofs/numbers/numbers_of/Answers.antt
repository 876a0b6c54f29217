use Rattle.std.proofs.Common.{rules}
use Rattle.odht_tool_core.proofs.numbers.numbers_of.Goals as goal

pub returns-clause-ok : goal.returns-clause-ok
returns-clause-ok c = record {
  opens = search rules;
  key_size = search rules;
  value_size = search rules;
  len = search rules;
  items = search rules;
  slots = search rules;
  maximum = search rules;
  load = search rules;
  max_load = search rules;
  stretches = search rules;
  hash = search rules;
  bound = search rules;
  histogram = search rules;
  miss = search rules;
  advice = search rules;
}
