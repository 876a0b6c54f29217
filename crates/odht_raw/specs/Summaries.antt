-- What is known of the slots of the parts T before slot n.
--     occupied_before F T n        how many of them hold a pair
--     IsFirstUnreachable F T n o   o is the first of them at which the search for its key does not end, if there is one
--     HaveNoError F T n            none of them gives an error
--     IsFirstError F T r           if r is an error, then it is the first in slot order
--     IsSummary F T t n m o        none of them gives an error, m of them are occupied, and where the flag t says that
--                                  searches are made, and slots and mirror give no error, o is the first that is
--                                  unreachable
--     IsSummaryOf F T t n s        the same, of the counts in s
--     AreRight F T b is            slot b + i gives no error, for each i of is
--     IsFreeSlot F T i             the control byte of slot i is that of a free slot, 255, and its entry is zeros
--     AreFree F T b is             slot b + i is such a slot, for each i of is
use Rattle.std.specs.Prelude.{◌≡◌, ℕ, ◌+◌, ◌<◌, Bool, true, List, length, map, filter_map, slice_index, Contains, Option, Some, None, MatchOption, Result, OnErr}
use Rattle.std.specs.List.{range_with_len}
use Rattle.std.specs.Result.{result_err}
use Rattle.odht_raw.specs.Words.{decoded_cell, entry_len, Error, Format, slot_entry, slot_refusal_at, slots_refusal, Unreachable, unreachable}
use Rattle.odht_raw.specs.Checks.{IsFitting}
use Rattle.odht_raw.specs.Parts.{TableParts, IsZeros}
use Rattle.odht_raw.specs.declared.raw_table.check.SlotSummary.{SlotSummary}

abbrev pub occupied_before : Format → TableParts → ℕ → ℕ
occupied_before F T n = length (filter_map (λ c. c) (map (decoded_cell F T.entries.bytes T.control) (range_with_len 0 n)))

abbrev pub IsFirstUnreachable : Format → TableParts → ℕ → Option ℕ → Type 0
IsFirstUnreachable F T n o =
    let refusal = unreachable F T.entries.bytes T.control in
    MatchOption o
    ((i : ℕ) → i < n → refusal i ≡ None)
    (λ j. (j < n) × ((i : ℕ) → i < j → refusal i ≡ None) × (refusal j ≡ Some (Unreachable j)))

abbrev pub HaveNoError : Format → TableParts → ℕ → Type 0
HaveNoError F T n = (i : ℕ) → i < n → slot_refusal_at F T.entries.bytes T.control i ≡ None

abbrev pub IsFirstError : {X : Type 0} → Format → TableParts → Result X Error → Type 0
IsFirstError F T r = OnErr r (result_err r ≡ slots_refusal F T.entries.bytes T.control)

pub record IsSummary (F : Format) (T : TableParts) (t : Bool) (n m : ℕ) (o : Option ℕ) : Type 0 where
  pub passed : HaveNoError F T n
  pub counted : m ≡ occupied_before F T n
  pub reached : t ≡ true → IsFitting F T → IsFirstUnreachable F T n o

abbrev pub IsSummaryOf : Format → TableParts → Bool → ℕ → SlotSummary → Type 0
IsSummaryOf F T t n s = IsSummary F T t n s.occupied s.unreachable

abbrev pub AreRight : Format → TableParts → ℕ → List ℕ → Type 0
AreRight F T b is = (i : ℕ) → Contains is i → slot_refusal_at F T.entries.bytes T.control (b + i) ≡ None

abbrev pub IsFreeSlot : Format → TableParts → ℕ → Type 0
IsFreeSlot F T i = (slice_index T.control i ≡ 255) × IsZeros (entry_len F) (slot_entry F T.entries.bytes i)

abbrev pub AreFree : Format → TableParts → ℕ → List ℕ → Type 0
AreFree F T b is = (i : ℕ) → Contains is i → IsFreeSlot F T (b + i)
