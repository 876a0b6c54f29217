-- A group of control bytes, and what a search of it for the byte h may report.
--     equal g h              the indices of the bytes h, rising
--     first_free g           the least index of a byte of 128 or more, if any
--     late_free g            the least such index from 8 on, where there is one, else the least of all
--     free_in g              the indices of the bytes of 128 or more, rising
--     occupied g             the indices of the bytes below 128, rising
--     IsReport g h xs        the indices xs rise, each index of h is among them, and none of a byte of 128 or more
--     IsWordReport g h xs    what the word search reports: a byte other than h only where it is h xor 1 and the index
--                            before it is reported too
--     GroupMatches           what a search of a group holds: the matches not taken yet, and the first free index
use Rattle.std.specs.Prelude.{◌≡◌, ℕ, ◌+◌, ◌<◌, ◌==◌, nat_lt, ◌⊎◌, List, length, filter, position, slice_index, bit_xor, drop, Option, option_map, Contains}
use Rattle.std.specs.List.{range_with_len}
use Rattle.std.specs.Option.{option_or}
use Rattle.std.specs.List.Sorted.{IsStrictlyIncreasing}
use Rattle.odht_base.specs.Decoded.{counts_as_free}

abbrev pub equal : List ℕ → ℕ → List ℕ
equal g h = filter (λ i. slice_index g i == h) (range_with_len 0 (length g))

abbrev pub first_free : List ℕ → Option ℕ
first_free g = position counts_as_free g

abbrev pub late_free : List ℕ → Option ℕ
late_free g = option_or (option_map (λ i. i + 8) (first_free (drop 8 g))) (first_free g)

abbrev pub free_in : List ℕ → List ℕ
free_in g = filter (λ i. counts_as_free (slice_index g i)) (range_with_len 0 (length g))

abbrev pub occupied : List ℕ → List ℕ
occupied g = filter (λ i. nat_lt (slice_index g i) 128) (range_with_len 0 (length g))

pub record IsReport (g : List ℕ) (h : ℕ) (xs : List ℕ) : Type 0 where
  pub rising : IsStrictlyIncreasing xs
  pub complete : (i : ℕ) → i < length g → slice_index g i ≡ h → Contains xs i
  pub occupied : (i : ℕ) → Contains xs i → (i < length g) × (slice_index g i < 128)

pub record IsWordReport (g : List ℕ) (h : ℕ) (xs : List ℕ) : Type 0 where
  pub report : IsReport g h xs
  pub others : (i : ℕ) → Contains xs i → (slice_index g i ≡ h) ⊎ ((slice_index g i ≡ bit_xor h 1) × ((j : ℕ) × (j + 1 ≡ i) × Contains xs j))

pub record GroupMatches : Type 0 where
  pub matches : List ℕ
  pub free : Option ℕ
