use Rattle.odht_header.proofs.sizes.bytes_needed.Goals as goal

pub returns-clause-len : goal.returns-clause-len
returns-clause-len g c = rw (c.of.ensures.key, c.of.ensures.value) at c.bytes_needed.ensures.len g.C.H.HashFn.hash
