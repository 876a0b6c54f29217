use Rattle.odht_header.proofs.sizes.len_of_slots.Goals as goal

pub returns : goal.returns
returns g c = rw (c.of.ensures.key, c.of.ensures.value) at c.len_of_slots.ensures g.C.H.HashFn.hash
