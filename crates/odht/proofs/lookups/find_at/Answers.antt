use Rattle.std.proofs.Common.{◌≡◌, ◌∙◌, ℕ, List, sym, ap, Some, slice_get, arith}
use Rattle.std.specs.Prelude.{option_map}
use Rattle.std.proofs.lemmas.Option.{slice_get-get_or}
use Rattle.odht_raw.specs.Words.{format_of, map_of}
use Rattle.odht_base.proofs.lemmas.Options.{some_same}
use Rattle.odht_raw.specs.FirstLooks.{first_look_of}
use Rattle.odht.proofs.lemmas.Lookups.{option_map-twice}
use Rattle.odht.proofs.lookups.find_at.Given.{Over}
use Rattle.odht.proofs.lookups.find_at.Goals.{After-encode_key-key}
use Rattle.odht.proofs.lookups.find_at.Goals as goal

-- the key that is looked up is the one at the index
key_bytes : (g : Over) (c : After-encode_key-key g) (k : g.row.C-Key.Denot) → slice_get c.args.keys.now c.args.index ≡ Some k
    → g.C.EncodedKey.ByteArray.bytes c.encode_key-key.result ≡ g.C.EncodedKey.ByteArray.bytes (g.C.Config.encode_key k)
key_bytes g c k at =
    let there = slice_get-get_or c.args.keys.now c.args.index c.index-keys-index.result c.requires.index ∙ ap Some (sym c.index-keys-index.is) in
    let same : c.index-keys-index.result ≡ k = some_same _ _ (sym there ∙ at) in
    ap g.C.EncodedKey.ByteArray.bytes (c.encode_key-key.ensures ∙ ap g.C.Config.encode_key same)

pub returns-in-Some : goal.returns-in-Some
returns-in-Some g c k at =
    let key = key_bytes g (goal.at.returns-in-Some g c).After-encode_key-key k at in
    let bytes : List ℕ = g.C.EncodedKey.ByteArray.bytes (g.C.Config.encode_key k) in
    let any = c.in-Some.ensures.on_any in
    record {
      on_placed = λ P parts.
          ap Some c.decode_value.ensures
          ∙ ap (option_map g.C.Config.decode_value) (c.in-Some.ensures.on_placed P parts ∙ ap (λ b. option_map g.C.EncodedValue.ByteArray.of_bytes (map_of P b)) key)
          ∙ option_map-twice g.C.EncodedValue.ByteArray.of_bytes g.C.Config.decode_value (map_of P bytes);
      on_any = (any.0, any.1, any.2 ∙ key, c.decode_value.ensures ∙ ap g.C.Config.decode_value any.3);
    }

pub returns-in-None : goal.returns-in-None
returns-in-None g c k at =
    let key = key_bytes g (goal.at.returns-in-None g c).After-encode_key-key k at in
    let bytes : List ℕ = g.C.EncodedKey.ByteArray.bytes (g.C.Config.encode_key k) in
    record {
      on_placed = λ P parts.
          ap (option_map g.C.Config.decode_value) (c.in-None.ensures.on_placed P parts ∙ ap (λ b. option_map g.C.EncodedValue.ByteArray.of_bytes (map_of P b)) key)
          ∙ option_map-twice g.C.EncodedValue.ByteArray.of_bytes g.C.Config.decode_value (map_of P bytes);
      on_any = tt;
    }

pub bounds-keys-index : goal.bounds-keys-index
bounds-keys-index g c = c.requires.index

pub offset_bounds-keys-index : goal.offset_bounds-keys-index
offset_bounds-keys-index g c = omega (arith, c.requires.index)

pub find_from-requires-after_bounds : goal.find_from-requires-after_bounds
find_from-requires-after_bounds g c κs within =
    let F = format_of g.C.EncodedKey.ByteArray.LEN g.C.EncodedValue.ByteArray.LEN g.C.H.HashFn.hash in
    let at = slice_get-get_or c.args.keys.now c.args.index c.index-keys-index.result c.requires.index ∙ ap Some (sym c.index-keys-index.is) in
    c.requires.look _ at
    ∙ ap (λ k. first_look_of F c.args.raw.now (g.C.EncodedKey.ByteArray.bytes k)) (sym c.encode_key-key.ensures)
