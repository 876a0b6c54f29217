use Rattle.odht_raw.specs.Words.{format_of}
use Rattle.odht.proofs.lemmas.NewRefusals.{default_fits, only_memory}
use Rattle.odht.proofs.hash_table_owned.HashTableOwned.default.Goals as goal

pub returns-clause-memory : goal.returns-clause-memory
returns-clause-memory g c =
    let F = format_of g.C.EncodedKey.ByteArray.LEN g.C.EncodedValue.ByteArray.LEN g.C.H.HashFn.hash in
    only_memory c.with_capacity.result c.with_capacity.ensures.err.memory (λ e. default_fits F g.met.C.Config.key_fits g.met.C.Config.value_fits (c.with_capacity.ensures.err.capacity.0 e))
