use Rattle.odht_base.specs.Format.{format_of}
use Rattle.odht_raw.proofs.lemmas.Accepted.{accepted_opening}
use Rattle.odht_raw.proofs.memory_layout.inserts.insert_items_dynamic.Goals as goal

pub of-requires : goal.of-requires
of-requires g c = (accepted_opening (format_of c.args.layout.key_len c.args.layout.value_len g.H.HashFn.hash) c.args.bytes.now c.requires.accepted).long
