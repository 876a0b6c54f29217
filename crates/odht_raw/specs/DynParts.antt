-- The parts of a table, with the lengths of keys and values.
--     DynParts           these lengths, and the parts
--     parts_format S h     the format of these lengths and of the hash h
--     dynamic_parts kl vl s es ctrl  the parts of these lengths: the entries es of s slots, and the control bytes ctrl
--     parts_with E ctrl    the entries E with their lengths, and the control bytes ctrl
--     stored_of S          the entries, with these lengths
--     slot_pair S i        the key and the value that the entry of slot i has
--     read_slot S x        the slot of the numbered item x, and this pair
--     HasLengthsOf kl vl p key and value of the pair p have these lengths
--     bytes_coding F       the coding of the format F that leaves lists of bytes as they are
--     AreWhole ml S         the parts are as long as these lengths say, and keys are long enough for a hash that needs ml
--                          bytes
use Rattle.std.specs.Prelude.{◌≡◌, ℕ, List, length}
use Rattle.odht_raw.specs.Words.{Coding, Format, format_of, Pair, slot_key, slot_value}
use Rattle.odht_raw.specs.Parts.{TableParts, IsTableParts, entry_format}
use Rattle.odht_raw.specs.Stored.{StoredEntries}

pub record DynParts : Type 0 where
  pub key_len : ℕ
  pub value_len : ℕ
  pub parts : TableParts

abbrev pub parts_format : DynParts → (List ℕ → ℕ) → Format
parts_format S h = format_of S.key_len S.value_len h

abbrev pub dynamic_parts : ℕ → ℕ → ℕ → List ℕ → List ℕ → DynParts
dynamic_parts kl vl s es ctrl = record {
  key_len = kl;
  value_len = vl;
  parts = record { control = ctrl; entries = record { slots = s; bytes = es } };
}

abbrev pub parts_with : StoredEntries → List ℕ → DynParts
parts_with E ctrl = record { key_len = E.key_len; value_len = E.value_len; parts = record { control = ctrl; entries = E.entries } }

abbrev pub stored_of : DynParts → StoredEntries
stored_of S = record { key_len = S.key_len; value_len = S.value_len; entries = S.parts.entries }

abbrev pub AreWhole : ℕ → DynParts → Type 0
AreWhole ml S = IsTableParts ml S.key_len S.value_len S.parts

abbrev pub slot_pair : DynParts → ℕ → Pair
slot_pair S i =
    let F = entry_format S.key_len S.value_len in
    record { key = slot_key F S.parts.entries.bytes i; value = slot_value F S.parts.entries.bytes i }

pub record HasLengthsOf (kl vl : ℕ) (p : Pair) : Type 0 where
  pub key : length p.key ≡ kl
  pub value : length p.value ≡ vl

abbrev pub read_slot : {X : Type 0} → DynParts → ℕ × X → ℕ × Pair
read_slot S x = (x.0, slot_pair S x.0)

abbrev pub bytes_coding : Format → Coding (List ℕ) (List ℕ)
bytes_coding F = record {
  format = F;
  key_bytes = λ k. k;
  value_bytes = λ v. v;
  key_of = λ b. b;
  value_of = λ b. b;
}
