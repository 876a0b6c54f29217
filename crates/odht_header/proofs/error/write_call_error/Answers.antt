use Rattle.std.proofs.lemmas.List.{append_assoc}
use Rattle.odht_header.proofs.error.write_call_error.Goals as goal

pub returns-in-InitLength : goal.returns-in-InitLength
returns-in-InitLength g c = rw c.in-InitLength.is (simp append_assoc c.write.ensures.writes)
