use Rattle.std.proofs.Common.{◌<◌, subst}
use Rattle.odht_header.proofs.layout.Layout.bytes_needed.Goals as goal

pub returns-then-len-clause-len : goal.returns-then-len-clause-len
returns-then-len-clause-len c hash = subst (λ n. 18446744073709551615 < n) (c.len_of_slots-len.ensures hash) c.if-len.true

pub returns-clause-len : goal.returns-clause-len
returns-clause-len c hash = c.len_of_slots-len.ensures hash
