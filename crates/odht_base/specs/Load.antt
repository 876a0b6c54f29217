-- How many items a table may hold, and how many slots it needs.
--     factor_of p           the load factor of p percent, rounded down: 65535 for 100 percent
--     percent_of f          the percentage of a load factor, rounded down
--     IsPercent p           a table can be made at p percent: p is from 1 to 100
--     max_items s f         the most items that s slots may hold: s * f / 65536, which is below s
--     is_power_of_two s     s is one of powers_of_two: 1, 2, .., 2 ^ 63
--     IsSlotCount s         s is one of these and at least 16
--     slots_for n f         the least of slot_counts, 16, 32, .., 2 ^ 63, that may hold n items, if there is one
--     IsLeastSlots n f s    s is that slot count
use Rattle.std.specs.Prelude.{ℕ, ◌*◌, ◌/◌, ◌^◌, ◌≤◌, Bool, nat_le, ◌==◌, List, map, find, Option, IsTrue}
use Rattle.std.specs.List.{range_with_len, list_any}

abbrev pub factor_of : ℕ → ℕ
factor_of p = p * 65535 / 100

abbrev pub percent_of : ℕ → ℕ
percent_of f = f * 100 / 65535

abbrev pub IsPercent : ℕ → Type 0
IsPercent p = (1 ≤ p) × (p ≤ 100)

abbrev pub max_items : ℕ → ℕ → ℕ
max_items s f = s * f / 65536

abbrev pub powers_of_two : List ℕ
powers_of_two = map (λ e. 2 ^ e) (range_with_len 0 64)

unfoldable pub is_power_of_two : ℕ → Bool
is_power_of_two s = list_any (λ t. s == t) powers_of_two

abbrev pub slot_counts : List ℕ
slot_counts = map (λ e. 2 ^ e) (range_with_len 4 60)

pub record IsSlotCount (s : ℕ) : Type 0 where
  pub power : IsTrue (is_power_of_two s)
  pub least : 16 ≤ s

unfoldable pub slots_for : ℕ → ℕ → Option ℕ
slots_for n f = find (λ s. nat_le (65536 * n) (s * f)) slot_counts

pub record IsLeastSlots (n f s : ℕ) : Type 0 where
  pub is_count : IsSlotCount s
  pub holds : 65536 * n ≤ s * f
  pub least : (t : ℕ) → IsSlotCount t → 65536 * n ≤ t * f → s ≤ t
