-- The positions of the probe order, a group at a time.
--     ProbePosition             a position of the order from a home slot, with the slot count less one as a mask
--     IsProbe g h m p i b c s   slot i is at position p of the order from h among m + 1 slots; p is a multiple of g, c
--                            is how many positions of its group of sixteen are before it, b is the first slot of that
--                            group, and s is how many slots b is after the first slot of the group before
--     GroupPlace                the control bytes with their mirror, how many groups of sixteen of them were read, a home
--                            slot, and a position of its order
--     place_of s q              the place of a search that reads by the scan s and is at the position q
use Rattle.std.specs.Prelude.{◌≡◌, ℕ, ◌+◌, ◌*◌, ◌/◌, ◌%◌, ◌<◌, List}
use Rattle.odht_raw.specs.Words.{IsSlotCount, probe_slot}
use Rattle.odht_raw.specs.Parts.{ReadGroups}

pub record ProbePosition : Type 0 where
  pub home : ℕ
  pub mask : ℕ
  pub position : ℕ

pub record IsProbe (g h m p i b c s : ℕ) : Type 0 where
  pub slots : IsSlotCount (m + 1)
  pub divides : 16 % g ≡ 0
  pub aligned : p % g ≡ 0
  pub home_within : h < m + 1
  pub within : p < m + 1
  pub slot_is : i ≡ probe_slot h (m + 1) p
  pub base_is : b ≡ probe_slot h (m + 1) (16 * (p / 16))
  pub chunk_is : c ≡ p % 16
  pub stride_is : s ≡ 16 * (p / 16)

pub record GroupPlace : Type 0 where
  pub control : List ℕ
  pub groups : ℕ
  pub home : ℕ
  pub position : ℕ

abbrev pub place_of : ReadGroups → ProbePosition → GroupPlace
place_of s q = record { control = s.control; groups = s.groups; home = q.home; position = q.position }
