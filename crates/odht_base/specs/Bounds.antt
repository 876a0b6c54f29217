-- How many groups a search may read, told from the control bytes ctrl with their mirror alone, whether they are right
-- or not.
--     group_of ctrl b j      the sixteen control bytes that a search from the home b reads as its group j
--     ends_within ctrl g b   one of the first g of these groups, and of those that there are, has a byte that counts as
--                            free, so that no search from b reads more than g
--     AreWithin ctrl g b n   n is from 1 up to the slot count, and `ends_within` is true of the n homes from b on, as
--                            far as there are any
--     first_longer ctrl g    the least home from which `ends_within` is false, if there is one
use Rattle.std.specs.Prelude.{◌≡◌, ℕ, ◌+◌, ◌<◌, ◌≤◌, true, ◌-◌, ◌*◌, ◌/◌, min, Bool, not, is_some, List, length, find, Option}
use Rattle.std.specs.List.{list_any, range_with_len}
use Rattle.odht_base.specs.Bytes.{bytes_at}
use Rattle.odht_base.specs.Groups.{first_free}
use Rattle.odht_base.specs.Probe.{probe_slot}

abbrev pub group_of : List ℕ → ℕ → ℕ → List ℕ
group_of ctrl b j = bytes_at ctrl (probe_slot b (length ctrl - 16) (16 * j)) 16

abbrev pub ends_within : List ℕ → ℕ → ℕ → Bool
ends_within ctrl g b = list_any (λ j. is_some (first_free (group_of ctrl b j))) (range_with_len 0 (min g ((length ctrl - 16) / 16)))

pub record AreWithin (ctrl : List ℕ) (g b n : ℕ) : Type 0 where
  pub some : 0 < n
  pub few : n ≤ length ctrl - 16
  pub each : (i : ℕ) → i < n → b + i < length ctrl - 16 → ends_within ctrl g (b + i) ≡ true

unfoldable pub first_longer : List ℕ → ℕ → Option ℕ
first_longer ctrl g = find (λ b. not (ends_within ctrl g b)) (range_with_len 0 (length ctrl - 16))
