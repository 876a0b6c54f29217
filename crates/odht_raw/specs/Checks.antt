-- What the whole check reads in the parts T of a table.
--     cells_of F T         the cells that T decodes to
--     decoded_count F T    how many of these cells hold a pair
--     IsFitting F T        neither a slot of T nor the mirror gives an error
--     IsHashAt F T i h     h is the hash of the key in slot i
--     IsReachAnswer F T i b  where neither a slot of T nor the mirror gives an error, b says whether the search for the
--                          key in slot i ends at this slot
--     ArePassed F T k b n  none of the n slots from b on, modulo the slot count, is free or holds the key k
--     IsGroupSearch g h q  q is a search of the group g for the tag h
use Rattle.std.specs.Prelude.{◌≡◌, ℕ, ◌+◌, ◌%◌, ◌<◌, Bool, List, length, filter_map, None, IsFalse}
use Rattle.odht_raw.specs.Words.{Cells, decoded_cells, first_free, Format, GroupMatches, is_at, IsReport, mirror_refusal, search_end, slot_key, slots_refusal, stops_at}
use Rattle.odht_raw.specs.Parts.{TableParts}

abbrev pub cells_of : Format → TableParts → Cells
cells_of F T = decoded_cells F T.entries.bytes T.control

abbrev pub decoded_count : Format → TableParts → ℕ
decoded_count F T = length (filter_map (λ c. c) (cells_of F T))

pub record IsFitting (F : Format) (T : TableParts) : Type 0 where
  pub slots : slots_refusal F T.entries.bytes T.control ≡ None
  pub mirror : mirror_refusal T.control ≡ None

abbrev pub IsHashAt : Format → TableParts → ℕ → ℕ → Type 0
IsHashAt F T i h = h ≡ F.hash (slot_key F T.entries.bytes i)

abbrev pub IsReachAnswer : Format → TableParts → ℕ → Bool → Type 0
IsReachAnswer F T i b = IsFitting F T → b ≡ is_at i (search_end F (cells_of F T) (slot_key F T.entries.bytes i))

abbrev pub ArePassed : Format → TableParts → List ℕ → ℕ → ℕ → Type 0
ArePassed F T k b n = (j : ℕ) → j < n → IsFalse (stops_at (cells_of F T) k ((b + j) % T.entries.slots))

pub record IsGroupSearch (g : List ℕ) (h : ℕ) (q : GroupMatches) : Type 0 where
  pub report : IsReport g h q.matches
  pub free : q.free ≡ first_free g
