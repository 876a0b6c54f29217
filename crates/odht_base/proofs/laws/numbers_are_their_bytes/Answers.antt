use Rattle.odht_base.proofs.lemmas.Numbers.{num-le_bytes, le_bytes-num_at}
use Rattle.odht_base.proofs.laws.numbers_are_their_bytes.Goals as goal

pub returns-clause-number : goal.returns-clause-number
returns-clause-number c = num-le_bytes

pub returns-clause-bytes : goal.returns-clause-bytes
returns-clause-bytes c w b is = le_bytes-num_at w b is.len is.each
