use Rattle.std.proofs.Common.{◌∙◌, ◌≤◌, ◌/◌, ap, subst}
use Rattle.std.specs.Prelude.{option_map}
use Rattle.odht_raw.specs.Parts.{TableParts}
use Rattle.odht_raw.specs.Words.{format_of, groups_read, map_of}
use Rattle.odht.proofs.lemmas.Lookups.{decoded_value, decoded_none, decoded_stored}
use Rattle.odht.proofs.hash_table.HashTable.get_counted.Goals as goal

pub returns-in-Some-default : goal.returns-in-Some-default
returns-in-Some-default g c =
    let bytes = g.C.EncodedKey.ByteArray.bytes in
    let of = g.C.EncodedValue.ByteArray.of_bytes in
    let F = format_of g.C.EncodedKey.ByteArray.LEN g.C.EncodedValue.ByteArray.LEN g.C.H.HashFn.hash in
    let k = bytes (g.C.Config.encode_key c.args.key.now) in
    let key = ap bytes c.encode_key-key.ensures in
    let found = c.find_counted_by.ensures in
    let r = c.find_counted_by.result.0 in
    let v = c.decode_value.result in
    let table = c.as_raw-table in
    record {
      on_valid = λ P is.
          decoded_value of g.C.Config.decode_value r (map_of P k) c.in-Some-default.value v (found.on_placed P (table.ensures.parts P is) ∙ ap (λ b. option_map of (map_of P b)) key) c.in-Some-default.is-0 c.decode_value.ensures;
      on_any =
          decoded_stored of g.C.Config.decode_value r F (g.D.ByteStore.bytes c.args.self.now) (bytes c.encode_key-key.result) k table.result.entries c.in-Some-default.value v (ap (λ (T : TableParts). T.entries.bytes) table.ensures.bytes) (ap (λ (T : TableParts). T.entries.slots) table.ensures.bytes) found.on_any key c.in-Some-default.is-0 c.decode_value.ensures;
      groups = λ P is. found.groups P (c.as_raw-table.ensures.parts P is) ∙ ap (λ b. groups_read F P.cells b) key;
      few = subst (λ n. c.find_counted_by.result.1 ≤ n / 16) (ap (λ (T : TableParts). T.entries.slots) c.as_raw-table.ensures.bytes) c.find_counted_by.ensures.few;
    }

pub returns-in-None-default : goal.returns-in-None-default
returns-in-None-default g c =
    let F = format_of g.C.EncodedKey.ByteArray.LEN g.C.EncodedValue.ByteArray.LEN g.C.H.HashFn.hash in
    let bytes = g.C.EncodedKey.ByteArray.bytes in
    let of = g.C.EncodedValue.ByteArray.of_bytes in
    let k = bytes (g.C.Config.encode_key c.args.key.now) in
    let key = ap bytes c.encode_key-key.ensures in
    record {
      on_valid = λ P is.
          decoded_none of g.C.Config.decode_value c.find_counted_by.result.0 (map_of P k) (c.find_counted_by.ensures.on_placed P (c.as_raw-table.ensures.parts P is) ∙ ap (λ b. option_map of (map_of P b)) key) c.in-None-default.is-0;
      on_any = tt;
      groups = λ P is. c.find_counted_by.ensures.groups P (c.as_raw-table.ensures.parts P is) ∙ ap (λ b. groups_read F P.cells b) key;
      few = subst (λ n. c.find_counted_by.result.1 ≤ n / 16) (ap (λ (T : TableParts). T.entries.slots) c.as_raw-table.ensures.bytes) c.find_counted_by.ensures.few;
    }
