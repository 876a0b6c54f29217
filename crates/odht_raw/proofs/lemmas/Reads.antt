-- The parts of a table that are read by position.
use Rattle.std.proofs.Common.{arith, ◌≡◌, ◌∙◌, ℕ, ◌+◌, ◌*◌, ◌/◌, ◌%◌, ◌<◌, ◌≤◌, refl, sym, ap, subst, List, length, take, drop, take-take, mul-le-mul_right, Some, None}
use Rattle.std.specs.Prelude.{Result, IfErr}
use Rattle.std.specs.Result.{IsErrAnd}
use Rattle.odht_raw.proofs.lemmas.Below.{bytes_at-bytes_at, bytes_at-take, err_from_is_err_and, few_slots, length-bytes_at}
use Rattle.odht_raw.specs.Words.{bytes_at, Format, IsFormat, IsPartsOf, IsSlotCount, Table}
use Rattle.odht_raw.specs.ControlBytes.{order_slot}
use Rattle.odht_raw.specs.Parts.{EntryBytes}
use Rattle.odht_raw.specs.Reads.{entry_size, read_key, read_entries, read_controls, read_groups, IsHeldBy}
use Rattle.odht_raw.specs.SearchEnds.{GoesOnAmong, IsEndAmong}
use Rattle.odht_raw.specs.SearchSteps.{IsGroupAt, IsGroupLook}
use Rattle.odht_raw.specs.Searches.{IsPassed, IsSearch, IsSearchEnd}
use Rattle.odht_raw.specs.declared.raw_table.read_search.ReadPlace.{ReadPlace}
use Rattle.odht_raw.specs.declared.read_at.ReadError.{ReadError}
use Rattle.odht_raw.specs.declared.raw_table.search_result.Search.{Search}
use Rattle.odht_raw.specs.declared.raw_table.search_result.Search.TheVariants.{Neither}
use Rattle.odht_raw.proofs.lemmas.GroupSearches.{IsGroupAt-group, reads-to, reads-all, goes_on-more, group-end, group-after}
use Rattle.odht_raw.proofs.lemmas.Lookups.{answer-IsWherePlaced}
use Rattle.odht_raw.proofs.lemmas.PassedSearches.{none-ends}

-- the error that a `?` returns is that of the read
pub passed_error : {T : Type 0} (Q : ReadError → Type 0) (r : Result T ReadError) (e : ReadError) → IsErrAnd r (λ y. y ≡ e) → Q e → IfErr r Q
passed_error Q r e is holds =
    let h = err_from_is_err_and r is in
    subst (λ s. IfErr s Q) (sym h.1) (subst Q (sym h.2) holds)

-- the entry of a slot is one of all
pub entry_within : (p : ReadPlace) (i : ℕ) → i < p.slots → i * entry_size p + entry_size p ≤ p.slots * entry_size p
entry_within p i l =
    let more : (i + 1) * entry_size p ≤ p.slots * entry_size p = mul-le-mul_right (entry_size p) (omega (arith, l)) in
    omega (arith, more)

-- the key of a slot is at its entry
pub read_key-bytes : (p : ReadPlace) (B : List ℕ) (i : ℕ) → i < p.slots → read_key p B i ≡ bytes_at B (p.entries_at + i * entry_size p) p.layout.key_len
read_key-bytes p B i l =
    let n : ℕ = entry_size p in
    let at : ℕ = p.entries_at + i * n in
    let k : ℕ = p.layout.key_len in
    let fits = entry_within p i l in
    ap (take k) (bytes_at-bytes_at B p.entries_at (p.slots * n) (i * n) n at fits refl ∙ bytes_at-take B at n)
    ∙ take-take k n (drop at B) (omega arith) ∙ sym (bytes_at-take B at k)

-- ---- a search that is at a group, whose control bytes bs were read
module _ (F : Format) (p : ReadPlace) (B k : List ℕ) (f : IsFormat F) (count : IsSlotCount p.slots) (held : IsHeldBy p B) (pos start : ℕ) (bs : List ℕ) (aligned : pos % 16 ≡ 0) (within : pos + 16 ≤ p.slots) (begins : start ≡ order_slot F (read_entries p B) k pos) (low : start < p.slots) (read : bs ≡ bytes_at B (p.control_at + start) 16) (before : IsPassed F (read_entries p B) (read_controls p B) k pos) where
  abbrev E : EntryBytes
  E = read_entries p B

  abbrev ctrl : List ℕ
  ctrl = read_controls p B

  long : length ctrl ≡ p.slots + 16
  long = length-bytes_at B p.control_at (p.slots + 16) held.controls

  group : bs ≡ bytes_at ctrl start 16
  group = read ∙ sym (bytes_at-bytes_at B p.control_at (p.slots + 16) start 16 (p.control_at + start) (omega (arith, low)) refl)

  placed_group : (P : Table) → IsPartsOf F P E.bytes ctrl → IsGroupAt F P E k pos start bs
  placed_group P h = subst (IsGroupAt F P E k pos start) (sym group) (IsGroupAt-group F P E ctrl k f h long pos start aligned within begins (before.on_placed P h))

  -- where the search goes on from it, it passed all positions up to the next group
  pub read_more : IsGroupLook F E bs start 16 k None → IsPassed F E ctrl k (pos + 16)
  read_more look = record {
    on = goes_on-more F E ctrl k start pos long count.least aligned within begins 16 (omega arith) (subst (λ b. GoesOnAmong F E b start k 16) group (look.none refl)) before.on;
    on_placed = λ P h. look.on_placed P pos (placed_group P h);
  }

  -- where it ends there, the search ends
  pub read_end : (n : ℕ) (end : Search) → n ≡ pos / 16 + 1 → IsGroupLook F E bs start 16 k (Some end) → IsSearch F E k (read_groups p B 0) (read_groups p B n) end
  read_end n end counted look =
      let ends = subst (λ b. IsEndAmong F E b start 16 k end) group look.slot in
      let placed = λ (P : Table) (h : IsPartsOf F P E.bytes ctrl). look.on_placed P pos (placed_group P h) in
      let few = few_slots p.slots count in
      record {
        end = record {
          on_placed = λ P h. (placed P h).0;
          slot = group-end F E ctrl k start pos long count.least aligned within begins end ends;
          earlier = group-after F E ctrl k start pos long count.least aligned within begins before.on end ends;
        };
        placing = λ P h. answer-IsWherePlaced F P k h.placed end (placed P h).0;
        groups = λ P h. rw (reads-to F P E ctrl k f h long pos aligned (placed P h).1) (omega (arith, counted, few, within));
        few = omega (arith, counted, within, aligned);
        control = refl;
      }

-- after the last group the search ends without an end
pub read_all : (F : Format) (p : ReadPlace) (B k : List ℕ) → IsFormat F → IsSlotCount p.slots → IsHeldBy p B → IsPassed F (read_entries p B) (read_controls p B) k p.slots
    → IsSearch F (read_entries p B) k (read_groups p B 0) (read_groups p B (p.slots / 16)) Neither
read_all F p B k f count held passed =
    let E : EntryBytes = read_entries p B in
    let ctrl : List ℕ = read_controls p B in
    let long = length-bytes_at B p.control_at (p.slots + 16) held.controls in
    let end : IsSearchEnd F E ctrl k Neither = none-ends F E ctrl k f long count passed in
    let few = few_slots p.slots count in
    record {
      end = end;
      placing = λ P h. answer-IsWherePlaced F P k h.placed Neither (end.on_placed P h);
      groups = λ P h. rw (reads-all F P E ctrl k f h long (passed.on_placed P h)) (omega (arith, few));
      few = omega arith;
      control = refl;
    }
