use Rattle.std.proofs.Common.{ap}
use Rattle.odht_base.specs.Decoded.{slot_value}
use Rattle.odht_raw.specs.Formers.{former_of}
use Rattle.odht_raw.proofs.raw_table.writes.is_found.Goals as goal

pub returns-in-Found-clause-found : goal.returns-in-Found-clause-found
returns-in-Found-clause-found c F es true_is = (slot_value F es c.in-Found.field-0, ap (former_of F es) c.in-Found.is)
