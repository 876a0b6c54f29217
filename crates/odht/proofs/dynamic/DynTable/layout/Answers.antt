use Rattle.odht.proofs.dynamic.DynTable.layout.Goals as goal

pub returns-clause-hashes : goal.returns-clause-hashes
returns-clause-hashes g c = c.self.invariant.hashes
