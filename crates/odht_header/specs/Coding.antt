-- How a configuration encodes keys and values to bytes, and decodes bytes to keys and values.
--     Coding K V           the format of the bytes, both encodings, and both decodings
--     coding_of ..         the coding made of the ghost members of `Config` and of its byte arrays
--     encoded c k v        the pair of the key k and the value v
--     value_for c P k      the value that the table P has for the key k
--     HasStored c B k v    some slot's entry is the key k and the value v, whatever its control byte
use Rattle.std.specs.Prelude.{◌≡◌, ℕ, List, Option, option_map}
use Rattle.odht_base.specs.Format.{Format, format_of}
use Rattle.odht_base.specs.Table.{Pair, Table}
use Rattle.odht_base.specs.Map.{map_of}
use Rattle.odht_base.specs.Decoded.{Stores}

pub record Coding (K V : Type 0) : Type 0 where
  pub format : Format
  pub key_bytes : K → List ℕ
  pub value_bytes : V → List ℕ
  pub key_of : List ℕ → K
  pub value_of : List ℕ → V

-- the arguments: lengths, bytes and values of the arrays, the hash, and the four functions
abbrev pub coding_of : {K V EK EV : Type 0} → ℕ → (EK → List ℕ) → (List ℕ → EK) → ℕ → (EV → List ℕ) → (List ℕ → EV) → (List ℕ → ℕ) → (K → EK) → (V → EV) → (EK → K) → (EV → V) → Coding K V
coding_of key_len key_bytes key_array value_len value_bytes value_array hash encode_key encode_value decode_key decode_value = record {
  format = format_of key_len value_len hash;
  key_bytes = λ k. key_bytes (encode_key k);
  value_bytes = λ v. value_bytes (encode_value v);
  key_of = λ b. decode_key (key_array b);
  value_of = λ b. decode_value (value_array b);
}

abbrev pub encoded : {K V : Type 0} → Coding K V → K → V → Pair
encoded c k v = record { key = c.key_bytes k; value = c.value_bytes v }

abbrev pub value_for : {K V : Type 0} → Coding K V → Table → K → Option V
value_for c P k = option_map c.value_of (map_of P (c.key_bytes k))

abbrev pub HasStored : {K V : Type 0} → Coding K V → List ℕ → K → V → Type 0
HasStored c B k v = (b : List ℕ) × (v ≡ c.value_of b) × Stores c.format B (c.key_bytes k) b
