-- Worked examples: placing a key through borrowed parts, and what it may not do, to any table.
use Rattle.std.proofs.Common.{◌≡◌, ℕ, ◌-◌, ◌<◌, List, length, Some, Result, Ok, Err, refl, sym, ◌∙◌, true, true≢false}
use Rattle.std.proofs.lemmas.Option.{none-some}
use Rattle.std.specs.declared.cmp.PartialEq.{Ghosts as PartialEqOf}
use Rattle.std.specs.declared.fmt.Debug.{Ghosts as DebugOf}
use Rattle.odht_base.specs.declared.bytes.arrays.ByteArray.{Ghosts as ByteArrayOf}
use Rattle.odht_base.specs.declared.hash.HashFn.{Ghosts as HashFnOf}
use Rattle.odht_raw.specs.Words.{Error, Format, Full, is_free, Pair, place, slot_count, Table, TooShort}
use Rattle.odht_raw.specs.FreeSlots.{IsFirstFree}
use Rattle.odht_raw.specs.PartsInserts.{ArePartsPlaced}
use Rattle.odht_raw.specs.PartsPlacings.{IsNewTo, IsNewPlacing, PlacingFrame, IsAddition}
use Rattle.odht_raw.specs.PartsMut.{mut_control, mut_entries, control_loan, entries_loan, table_format, IsParts, pair_of, IsMutPlacing}
use Rattle.odht_raw.specs.declared.raw_table.table_mut.RawTableMut.{RawTableMut}

-- an Ok that the frame admits wrote into the first slot that counts as free
added_first : (F : Format) (es ctrl : List ℕ) (p : Pair) (r : Result (Unit {0}) Error) (es' ctrl' : List ℕ) → PlacingFrame F es ctrl p r es' ctrl' → r ≡ Ok tt
    → (i : ℕ) × IsFirstFree ctrl (F.hash p.key) (length ctrl - 16) i
added_first F es ctrl p _ _ _ (PlacingFrame.no_slot none) e = absurd cc
added_first F es ctrl p _ _ _ (PlacingFrame.added i first) e = (i, first)

module _ {K V H : Type 0} {key : ByteArrayOf K} {key_eq : PartialEqOf K} {key_debug : DebugOf K}
    {value : ByteArrayOf V} {value_eq : PartialEqOf V} {value_debug : DebugOf V}
    {hash : HashFnOf H} {hash_eq : PartialEqOf H}
    (t : RawTableMut K V H key key_eq key_debug value value_eq value_debug hash hash_eq) (k : K) (v : V)
    (t' : RawTableMut K V H key key_eq key_debug value value_eq value_debug hash hash_eq) where
  -- a placing into the parts, of each table without the key that they are of, is one through them, where both
  -- slices stay borrowed
  pub of_its_parts : (r : Result (Unit {0}) Error)
      → ((P : Table) → IsParts P t → IsNewTo P (pair_of t k v) → IsNewPlacing (table_format t) P (pair_of t k v) r (mut_entries t') (mut_control t'))
      → IsAddition (table_format t) (mut_entries t) (mut_control t) (pair_of t k v) r (mut_entries t') (mut_control t')
      → control_loan t' ≡ control_loan t → entries_loan t' ≡ entries_loan t
      → IsMutPlacing t k v r t'
  of_its_parts r placing addition control entries = record { parts = placing; change = addition; control_loan = control; entries_loan = entries }

  -- an Ok leaves no other parts than those of the table with the pair placed
  pub other_parts_refused : (P : Table) → IsParts P t → IsNewTo P (pair_of t k v)
      → (ArePartsPlaced (table_format t) P (pair_of t k v) (mut_entries t') (mut_control t') → ⊥) → IsMutPlacing t k v (Ok tt) t' → ⊥
  other_parts_refused P is new other h = other (h.parts P is new).ok

  -- where the pair has a place, and where a slot is free, the answer is not Full
  pub placed_refused : (P Q : Table) → IsParts P t → IsNewTo P (pair_of t k v) → place (table_format t) P (pair_of t k v) ≡ Some Q → IsMutPlacing t k v (Err Full) t' → ⊥
  placed_refused P Q is new fits h = none-some Q (sym ((h.parts P is new).full.0 refl) ∙ fits)

  pub free_slot_refused : (P : Table) (i : ℕ) → IsParts P t → IsNewTo P (pair_of t k v) → i < slot_count P → is_free P.cells i ≡ true → IsMutPlacing t k v (Err Full) t' → ⊥
  free_slot_refused P i is new low free h = true≢false (sym free ∙ ((h.parts P is new).no_room.0 refl i low).0)

  -- of any parts, no entry is written where no slot counts as free
  pub no_free_refused : ((i : ℕ) → IsFirstFree (mut_control t) ((table_format t).hash (pair_of t k v).key) (length (mut_control t) - 16) i → ⊥) → IsMutPlacing t k v (Ok tt) t' → ⊥
  no_free_refused none h =
      let first = added_first (table_format t) (mut_entries t) (mut_control t) (pair_of t k v) (Ok tt) (mut_entries t') (mut_control t') h.change.frame refl in
      none first.0 first.1

  -- it answers no other error than Full
  pub other_error_refused : (n : ℕ) → IsMutPlacing t k v (Err (TooShort n)) t' → ⊥
  other_error_refused n h = let is = h.change.errors.only_full in absurd cc

  -- the slices that are borrowed stay so
  pub other_control_refused : (r : Result (Unit {0}) Error) → (control_loan t' ≡ control_loan t → ⊥) → IsMutPlacing t k v r t' → ⊥
  other_control_refused r other h = other h.control_loan

  pub other_entries_refused : (r : Result (Unit {0}) Error) → (entries_loan t' ≡ entries_loan t → ⊥) → IsMutPlacing t k v r t' → ⊥
  other_entries_refused r other h = other h.entries_loan
