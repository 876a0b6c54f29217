use Rattle.odht_header.proofs.sizes.layout_for.Goals as goal

pub returns-clause-some : goal.returns-clause-some
returns-clause-some g c = rw (c.of.ensures.key, c.of.ensures.value) at c.table_for.ensures.some g.C.H.HashFn.hash

pub returns-clause-none : goal.returns-clause-none
returns-clause-none g c = rw (c.of.ensures.key, c.of.ensures.value) at c.table_for.ensures.none g.C.H.HashFn.hash
