-- The first slot that counts as free in the probe order of a hash, among s slots with the control bytes ctrl.
--     IsFirstFree ctrl hash s i  slot i is in the order and counts as free, and each earlier slot counts as occupied
--     IsFirstFreeByte bs i       byte i of the group bs counts as free, and no earlier byte does
use Rattle.std.specs.Prelude.{◌≡◌, ℕ, ◌%◌, ◌<◌, List, length, slice_index, IsTrue}
use Rattle.odht_raw.specs.Words.{counts_as_free, probe_slot}
use Rattle.odht_raw.specs.Frame.{CountsAsFree, CountsAsOccupied, HasNoFree}

pub record IsFirstFree (ctrl : List ℕ) (hash s i : ℕ) : Type 0 where
  pub position : ℕ
  pub in_order : position < s
  pub slot_is : probe_slot (hash % s) s position ≡ i
  pub free : CountsAsFree ctrl i
  pub earlier_occupied : (q : ℕ) → q < position → CountsAsOccupied ctrl (probe_slot (hash % s) s q)

pub record IsFirstFreeByte (bs : List ℕ) (i : ℕ) : Type 0 where
  pub within : i < length bs
  pub free : IsTrue (counts_as_free (slice_index bs i))
  pub earlier_occupied : HasNoFree bs i
