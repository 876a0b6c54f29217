-- What a `put` is answered with and leaves, from the contract of an insert.
use Rattle.std.proofs.Common.{ℕ, List}
use Rattle.std.specs.Int.{w32, w64, to_le_bytes, from_le_bytes}
use Rattle.odht_base.specs.Hashes.{fx}
use Rattle.odht_header.specs.Coding.{Coding, coding_of}

-- the coding of the program's configuration
abbrev pub my_coding : Coding ℕ ℕ
my_coding = coding_of 8 (λ (b : List ℕ). b) (λ b. b) 4 (λ (b : List ℕ). b) (λ b. b) fx (to_le_bytes w64) (to_le_bytes w32) (from_le_bytes w64) (from_le_bytes w32)
