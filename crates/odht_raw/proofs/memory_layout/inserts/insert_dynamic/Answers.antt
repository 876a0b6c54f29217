use Rattle.odht_raw.proofs.lemmas.SearchedParts.{key_end}
use Rattle.odht_raw.proofs.memory_layout.inserts.insert_dynamic.Goals as goal

pub insert_in-requires-clause-end : goal.insert_in-requires-clause-end
insert_in-requires-clause-end g c =
    key_end c.args.layout.key_len c.args.layout.value_len g.H.HashFn.hash c.args.bytes.now c.parts_in-parts.result c.parts_in-parts.ensures.parts g.H.HashFn.MIN_LEN c.len-slots.ensures.whole
    c.args.key.now c.insert_end-end.result c.insert_end-end.ensures.end c.insert_end-end.ensures.tag
