use Rattle.std.proofs.Common.{◌≡◌, ◌∙◌, filter_map, map, sym, ap, subst}
use Rattle.odht_raw.specs.Words.{count, decoded_cells, Format, format_of, walk}
use Rattle.odht_header.proofs.lemmas.Formats.{IsFormat-format_of}
use Rattle.odht_raw.specs.Walks.{stored}
use Rattle.odht_raw.proofs.lemmas.Walks.{stored-walk, decoded_pairs-image}
use Rattle.odht.specs.Equality.{HasAll}
use Rattle.odht.proofs.lemmas.SameMaps.{not_true, all-same, same-all, same-count}
use Rattle.odht.proofs.hash_table.HashTable.is_same_map.Goals as goal

pub returns-then-len : goal.returns-then-len
returns-then-len g c P is_P Q is_Q =
    let F : Format = format_of g.C.EncodedKey.ByteArray.LEN g.C.EncodedValue.ByteArray.LEN g.C.H.HashFn.hash in
    (λ t. absurd (not_true t), λ same. absurd (c.if-len.true (c.len.ensures.on_valid P is_P ∙ same-count F P Q is_P.valid.placed is_Q.valid.placed same ∙ sym (c.len-2.ensures.on_valid Q is_Q))))

pub returns : goal.returns
returns g c P is_P Q is_Q =
    let key = g.C.EncodedKey.ByteArray in
    let value = g.C.EncodedValue.ByteArray in
    let F : Format = format_of key.LEN value.LEN g.C.H.HashFn.hash in
    let f = IsFormat-format_of _ _ _ _ g.met.C.Config.key_fits g.met.C.Config.value_fits g.met.C.Config.key_hashes g.met.C.H.HashFn.fits in
    let split = c.data_slices-entries.ensures in
    let decodes = (λ j. filter_map (λ x. x) (decoded_cells F (split.entries j) (split.control j)))
    ∙ decoded_pairs-image F P _ f (record { valid = is_P.valid; bytes = ap g.D.ByteStore.bytes c.self.view_is ∙ is_P.bytes }) in
    let pairs : map (stored key.bytes value.bytes) c.new.result ≡ walk P =
    ap (map (stored key.bytes value.bytes)) c.new.ensures.items
    ∙ stored-walk key.bytes value.bytes key.of_bytes value.of_bytes key.LEN value.LEN g.C.H.HashFn.hash g.met.C.EncodedKey.ByteArray.kept g.met.C.EncodedValue.ByteArray.kept P
    (record { control = c.data_slices-entries.result.0.now; entries = c.data_slices-entries.result.1 }) is_P.valid.placed split.len decodes in
    let known = c.has_all.ensures Q (c.as_raw.ensures.parts Q is_Q) in
    let counts : count P ≡ count Q = sym (c.len.ensures.on_valid P is_P) ∙ c.if-len.false ∙ c.len-2.ensures.on_valid Q is_Q in
    (λ t. same-all F P Q is_P.valid.placed is_Q.valid.placed counts (subst (HasAll Q) pairs (known.0 t)), λ same. known.1 (subst (HasAll Q) (sym pairs) (all-same F P Q is_P.valid.placed is_Q.valid.placed same)))
