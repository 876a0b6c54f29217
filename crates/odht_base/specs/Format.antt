-- What a table's configuration fixes of its bytes: how long an encoded key and value are, and the hash of a key.
--     entry_len F          the length of an entry
--     home F k s           the slot, of s, where the search for the key k begins
--     tag F k              the control byte of a slot that holds k: the seven highest bits of the hash
--     format_of kl vl h    the format with these lengths and this hash
--     IsFormat F           the lengths fit a byte each, and the hash of a key fits 32 bits
use Rattle.std.specs.Prelude.{ℕ, ◌+◌, ◌/◌, ◌%◌, ◌^◌, ◌<◌, ◌≤◌, List}
use Rattle.odht_base.specs.Numbers.{IsBytes}

pub record Format : Type 0 where
  pub key_len : ℕ
  pub value_len : ℕ
  pub hash : List ℕ → ℕ

abbrev pub entry_len : Format → ℕ
entry_len F = F.key_len + F.value_len

abbrev pub home : Format → List ℕ → ℕ → ℕ
home F k s = F.hash k % s

abbrev pub tag : Format → List ℕ → ℕ
tag F k = F.hash k / 2 ^ 25

abbrev pub format_of : ℕ → ℕ → (List ℕ → ℕ) → Format
format_of key_len value_len hash = record { key_len = key_len; value_len = value_len; hash = hash }

pub record IsFormat (F : Format) : Type 0 where
  pub key_short : F.key_len ≤ 255
  pub value_short : F.value_len ≤ 255
  pub hash_small : (b : List ℕ) → IsBytes F.key_len b → F.hash b < 2 ^ 32
