use Rattle.odht_raw.specs.Words.{format_of}
use Rattle.odht_raw.proofs.lemmas.Accepted.{accepted_opening}
use Rattle.odht.proofs.dynamic.DynTable.raw_bytes.Goals as goal

pub returns-clause-long : goal.returns-clause-long
returns-clause-long g c =
    let F = format_of c.self.inside.layout.key_len c.self.inside.layout.value_len g.H.HashFn.hash in
    rw c.bytes.ensures (accepted_opening F (g.D.ByteStore.bytes c.self.inside.store) c.self.invariant.accepted).long
