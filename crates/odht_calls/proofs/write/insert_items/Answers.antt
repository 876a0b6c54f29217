use Rattle.odht_base.specs.Format.{format_of}
use Rattle.odht_raw.proofs.lemmas.Accepted.{accepted_opening}
use Rattle.odht_calls.proofs.write.insert_items.Goals as goal

pub of-requires : goal.of-requires
of-requires g c = (accepted_opening (format_of (g.L.Lengths.key_len c.args.lengths) (g.L.Lengths.value_len c.args.lengths) g.H.HashFn.hash) c.args.bytes.now c.requires.accepted).long
