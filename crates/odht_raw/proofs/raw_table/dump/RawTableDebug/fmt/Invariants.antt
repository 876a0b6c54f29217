-- What is written so far: the line before the slots, and those of the slots below.
use Rattle.std.proofs.Common.{Ok, Some}
use Rattle.std.specs.Fmt.{DisplaysOnOk, ◌++?◌}
use Rattle.odht_raw.specs.Parts.{entry_format}
use Rattle.odht_raw.specs.Dumps.{head_text, slots_text}
use Rattle.odht_raw.proofs.raw_table.dump.RawTableDebug.fmt.Given as goal

abbrev pub invariant-loop-slot : goal.invariant-loop-slot
invariant-loop-slot g l =
    DisplaysOnOk g.W.Write.write_str_gives l.fn.f (Ok tt)
    (Some (head_text g.H.HashFn.hash_name l.self.entries.slots) ++? slots_text (entry_format g.K.ByteArray.LEN g.V.ByteArray.LEN) (λ b. g.K.Debug.debug_output (g.K.ByteArray.of_bytes b)) (λ b. g.V.Debug.debug_output (g.V.ByteArray.of_bytes b)) l.self l.slot)
    l.f
