-- Formats of short lengths, and of a hash that fits 32 bits on long enough keys, fit.
use Rattle.std.proofs.Common.{◌<◌, ◌≤◌, ◌^◌, ℕ, List, length, arith, All}
use Rattle.odht_base.specs.Format.{IsFormat, format_of}

pub IsFormat-format_of : (key_len value_len min_len : ℕ) (hash : List ℕ → ℕ) → key_len ≤ 255 → value_len ≤ 255 → min_len ≤ key_len
    → ((b : List ℕ) → min_len ≤ length b → All (λ x. x < 256) b → hash b < 2 ^ 32) → IsFormat (format_of key_len value_len hash)
IsFormat-format_of key_len value_len min_len hash key value long fits = record {
  key_short = key;
  value_short = value;
  hash_small = λ b is. fits b (omega (arith, is.len)) is.each;
}
