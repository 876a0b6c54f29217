-- The texts of a fault and of the errors of `new`.
--
-- `fault_text` is what is written to standard error where a run stops early.
-- `refusal_text` is the answer to a line `new` that makes no table.
use Rattle.std.specs.Prelude.{ℕ, List, codes}
use Rattle.odht_table.specs.declared.script.Fault.{Fault}
use Rattle.odht_table.specs.declared.script.Fault.TheVariants.{Read, Write, Memory as no_memory}
use Rattle.odht_table.specs.declared.script.Refusal.{Refusal}
use Rattle.odht_table.specs.declared.script.Refusal.TheVariants.{BadPercent, Capacity, Memory}

abbrev pub fault_text : Fault → List ℕ
fault_text Read = codes "read failed"
fault_text Write = codes "write failed"
fault_text no_memory = codes "memory"

abbrev pub refusal_text : Refusal → List ℕ
refusal_text BadPercent = codes "bad percent"
refusal_text Capacity = codes "capacity"
refusal_text Memory = codes "memory"
