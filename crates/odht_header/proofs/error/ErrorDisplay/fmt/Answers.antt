use Rattle.std.proofs.lemmas.List.{append_assoc}
use Rattle.odht_header.proofs.lemmas.ErrorTexts.{debug_list-bytes}
use Rattle.odht_header.proofs.error.ErrorDisplay.fmt.Goals as goal

pub returns-in-WrongSizeOf-clause-writes : goal.returns-in-WrongSizeOf-clause-writes
returns-in-WrongSizeOf-clause-writes g c = rw c.in-WrongSizeOf.is (simp append_assoc c.write-in-WrongSizeOf.ensures.writes)

pub returns-in-WrongLength-clause-writes : goal.returns-in-WrongLength-clause-writes
returns-in-WrongLength-clause-writes g c = rw c.in-WrongLength.is (simp append_assoc c.write-in-WrongLength.ensures.writes)

pub returns-in-WrongTag-clause-writes : goal.returns-in-WrongTag-clause-writes
returns-in-WrongTag-clause-writes g c = rw c.in-WrongTag.is (rw (debug_list-bytes c.in-WrongTag.found) at c.write-in-WrongTag.ensures.writes)

pub returns-in-WrongVersion-clause-writes : goal.returns-in-WrongVersion-clause-writes
returns-in-WrongVersion-clause-writes g c = rw c.in-WrongVersion.is (rw (debug_list-bytes c.in-WrongVersion.found) at c.write-in-WrongVersion.ensures.writes)
