-- Tables that are read by position: which error their bytes give, and what a lookup in their parts answers.
use Rattle.std.proofs.Common.{arith, refl, ◌≡◌, ◌∙◌, ℕ, zero, suc, ◌+◌, ◌-◌, ◌*◌, ◌/◌, ◌<◌, ◌≤◌, ◌==◌, ◌&&◌, not, min, sym, ap, ap₂, subst, length, length-drop, List, ◌∷◌, drop, take, take_all, map, Option, Some, None, Err, []}
use Rattle.std.specs.Prelude.{IfSome, option_map, slice_index}
use Rattle.std.specs.List.{range_with_len, list_all}
use Rattle.std.specs.Option.{option_or}
use Rattle.std.proofs.lemmas.List.{drop-take}
use Rattle.odht_raw.specs.Words.{bytes_at, ControlMismatch, controls_of, counts_as_free, differs, entries_of, entry_len, Error, first_of, first_slot, Format, groups_read, hashes_refusal, hashes_refusal_at, header_count, header_refusal, header_slots, image_len, IsPartsOf, IsSlotCount, map_of, NonZeroEmpty, num, opening_refusal, slot_entry, slot_value, tag, view_refusal, WrongLength, ◌gives◌}
use Rattle.odht_base.specs.Table.{Table as PlainTable}
use Rattle.odht_base.proofs.lemmas.SlotCounts.{few_slots}
use Rattle.odht_base.proofs.lemmas.ByteRanges.{bytes_at-bytes_at, bytes_at-take, bytes_at-take_front, bytes_at-drop, index-bytes_at, length-bytes_at}
use Rattle.odht_base.proofs.lemmas.PartsOf.{slot_within}
use Rattle.odht_header.specs.Coding.{HasStored}
use Rattle.odht_header.proofs.lemmas.HeaderChecks.{header_refusal-fields}
use Rattle.odht_raw.specs.Dumps.{parts_of}
use Rattle.odht_raw.specs.Finds.{IsCountedFind}
use Rattle.odht_raw.specs.Frame.{IsAccepted}
use Rattle.odht_raw.specs.Parts.{TableParts, entry_format}
use Rattle.odht_raw.specs.Reads.{entry_size, read_entries, read_controls, read_groups, IsHeldBy}
use Rattle.odht_raw.specs.SearchEnds.{IsBesideKey}
use Rattle.odht_raw.specs.Searches.{IsSearch}
use Rattle.odht_raw.specs.DynParts.{bytes_coding}
use Rattle.odht_raw.specs.declared.raw_table.read_search.ReadPlace.{ReadPlace}
use Rattle.odht_raw.specs.declared.read_at.ReadError.{ReadError}
use Rattle.odht_raw.specs.declared.raw_table.search_result.Search.{Search}
use Rattle.odht_raw.specs.declared.raw_table.search_result.Search.TheVariants.{Found, Free, Neither}
use Rattle.odht_raw.proofs.lemmas.Inserts.{found_value}
use Rattle.odht_raw.proofs.lemmas.Lookups.{answer-Found, answer-Free, answer-Neither}
use Rattle.odht_raw.proofs.lemmas.Openings.{opening_refusal-header, view_refusal-opening, view_refusal-slots}
use Rattle.odht_raw.proofs.lemmas.Prefixes.{header_slots-take, field_refusal-take}
use Rattle.odht.specs.Dynamic.{dyn_refusal, stated_format, stated_refusal}
use Rattle.odht.specs.Files.{FileStore, IsFileResult, IsStatedOver, read_parts, read_slot_value, table_place}
use Rattle.odht.specs.Gets.{IsCountedGet}
use Rattle.odht.specs.declared.dynamic.DynError.TheVariants.{Rejected}
use Rattle.odht.specs.declared.dynamic.file.FileError.{FileError}
use Rattle.odht.specs.declared.dynamic.file.FileError.TheVariants.{Read, Table}
use Rattle.odht.proofs.lemmas.Lookups.{stored_beside}
use Rattle.odht.proofs.lemmas.ViewInserts.{parts_here}

-- ---- the header
-- the error of a header is that of the first 32 bytes
front_refusal : (F : Format) (n : ℕ) (T : List ℕ) → header_refusal F n (take 32 T) ≡ header_refusal F n T
front_refusal F n T =
    let slots = header_slots-take F T 32 (omega arith) in
    header_refusal-fields F n (take 32 T)
    ∙ (λ i. option_or (field_refusal-take F T 32 (omega arith) i) (differs n (image_len F (slots i)) gives WrongLength (slots i) n (image_len F (slots i))))
    ∙ sym (header_refusal-fields F n T)

module _ (F : Format) (B : List ℕ) (at n : ℕ) (held : at + n ≤ length B) where
  abbrev T : List ℕ
  T = bytes_at B at n

  -- the n bytes from `at` on
  pub table_long : length T ≡ n
  table_long = length-bytes_at B at n held

  -- begin with the 32 that are read first
  front : 32 ≤ n → bytes_at B at 32 ≡ take 32 T
  front enough = sym (bytes_at-bytes_at B at n 0 32 at enough (omega arith))

  -- so these state the counts
  pub front_slots : 32 ≤ n → header_slots (bytes_at B at 32) ≡ header_slots T
  front_slots enough = ap header_slots (front enough) ∙ header_slots-take F T 32 (omega arith)

  pub front_count : 32 ≤ n → header_count (bytes_at B at 32) ≡ header_count T
  front_count enough = ap header_count (front enough) ∙ ap num (bytes_at-take_front T 8 8 32 (omega arith))

  -- and give the error of opening
  pub front_opening : 32 ≤ n → opening_refusal F T ≡ header_refusal F n (bytes_at B at 32)
  front_opening enough =
      opening_refusal-header F T (omega (arith, table_long, enough))
      ∙ ap (λ m. header_refusal F m T) table_long
      ∙ sym (ap (header_refusal F n) (front enough) ∙ front_refusal F n T)

  -- ---- the parts, behind a header of s slots
  module _ (s : ℕ) (is : header_slots T ≡ s) (whole : image_len F s ≡ n) where
    pub read_entries_of : bytes_at B (at + 32) (s * entry_len F) ≡ entries_of F T
    read_entries_of =
        sym (bytes_at-bytes_at B at n 32 (s * entry_len F) (at + 32) (omega (arith, whole)) refl)
        ∙ ap (λ m. bytes_at T 32 (m * entry_len F)) (sym is)

    pub read_controls_of : bytes_at B (at + 32 + s * entry_len F) (s + 16) ≡ controls_of F T
    read_controls_of =
        let k : ℕ = 32 + s * entry_len F in
        let left : length (drop k T) ≤ s + 16 = omega (arith, length-drop k T, table_long, whole) in
        sym (bytes_at-bytes_at B at n k (s + 16) (at + 32 + s * entry_len F) (omega (arith, whole)) (omega arith))
        ∙ bytes_at-take T k (s + 16) ∙ take_all (s + 16) (drop k T) left
        ∙ ap (λ m. drop (32 + m * entry_len F) T) (sym is)

-- ---- the first slots
-- the errors of slots depend on those of each
first_same : (f g : ℕ → Option Error) (from n : ℕ) → ((i : ℕ) → i < from + n → f i ≡ g i) → map f (range_with_len from n) ≡ map g (range_with_len from n)
first_same f g from zero same = refl
first_same f g from (suc n) same =
    λ j. same from (omega arith) j ∷ first_same f g (from + 1) n (λ i l. same i (omega (arith, l))) j

-- the error of a slot by its control byte and its entry
slot_error : Format → ℕ → ℕ → List ℕ → Option Error
slot_error F i c e =
    first_of ((counts_as_free c && not (list_all (λ x. x == 0) e) gives NonZeroEmpty i) ∷ (not (counts_as_free c) && differs c (tag F (take F.key_len e)) gives ControlMismatch i (tag F (take F.key_len e)) c) ∷ [])

-- those of the first ten slots are those of sixteen slots that are read
pub first_slots : (F : Format) (B : List ℕ) (a b s : ℕ) → 16 ≤ s → b + (s + 16) ≤ length B
    → hashes_refusal F (bytes_at B a (16 * entry_len F)) (bytes_at B b 32) 10 ≡ hashes_refusal F (bytes_at B a (s * entry_len F)) (bytes_at B b (s + 16)) 10
unfolding hashes_refusal slot_error
first_slots F B a b s enough held =
    let w : ℕ = entry_len F in
    let few : min 10 (length (bytes_at B b 32) - 16) ≡ 10 = omega (arith, length-bytes_at B b 32 (omega (arith, held, enough))) in
    let all : min 10 (length (bytes_at B b (s + 16)) - 16) ≡ 10 = omega (arith, length-bytes_at B b (s + 16) held, enough) in
    let control : (i : ℕ) → i < 10 → slice_index (bytes_at B b 32) i ≡ slice_index (bytes_at B b (s + 16)) i =
    λ i l. index-bytes_at B b 32 i (omega (arith, l)) ∙ sym (index-bytes_at B b (s + 16) i (omega (arith, l, enough))) in
    let entry : (i : ℕ) → i < 10 → slot_entry F (bytes_at B a (16 * w)) i ≡ slot_entry F (bytes_at B a (s * w)) i =
    λ i l. bytes_at-bytes_at B a (16 * w) (i * w) w (a + i * w) (slot_within i 16 w (omega (arith, l))) refl
    ∙ sym (bytes_at-bytes_at B a (s * w) (i * w) w (a + i * w) (slot_within i s w (omega (arith, l, enough))) refl) in
    ap (first_slot (hashes_refusal_at F (bytes_at B a (16 * w)) (bytes_at B b 32))) few
    ∙ ap first_of (first_same _ _ 0 10 (λ i l. ap₂ (slot_error F i) (control i l) (entry i l)))
    ∙ sym (ap (first_slot (hashes_refusal_at F (bytes_at B a (s * w)) (bytes_at B b (s + 16)))) all)

-- ---- the error of opening
module _ {T U : Type 0} (Q : ReadError → Type 0) (F : Format) (B : List ℕ) (P : T → Type 0) (P' : U → Type 0) where
  -- that of the header comes first
  pub refused_by_header : (e : FileError) → IsFileResult Q (option_map Rejected (opening_refusal F B)) P (Err e)
      → IsFileResult Q (option_map Rejected (view_refusal F B)) P' (Err e)
  refused_by_header (Read e) h = h
  refused_by_header (Table e) h = go (opening_refusal F B) refl h
    where
      go : (o : Option Error) → opening_refusal F B ≡ o → option_map Rejected o ≡ Some e → option_map Rejected (view_refusal F B) ≡ Some e
      go None is h = cc
      go (Some x) is h = ap (option_map Rejected) (view_refusal-opening F B x is) ∙ h

  -- then that of the first slots
  pub refused_by_slots : (e : FileError) (o : Option Error) → o ≡ hashes_refusal F (entries_of F B) (controls_of F B) 10 → IsAccepted F B
      → IsFileResult Q (option_map Rejected o) P (Err e) → IsFileResult Q (option_map Rejected (view_refusal F B)) P' (Err e)
  refused_by_slots (Read e) o same a h = h
  refused_by_slots (Table e) o same a h = ap (option_map Rejected) (view_refusal-slots F B a ∙ sym same) ∙ h

-- where the header states the lengths, that of the header comes first too
pub refused_as_stated : {T S : Type 0} (Q : ReadError → Type 0) (ml : ℕ) (hash : List ℕ → ℕ) (B : List ℕ) (P : T → Type 0) (source : S) (W : List ℕ) (e : FileError)
    → IsFileResult Q (option_map Rejected (opening_refusal (stated_format hash B) B)) P (Err e)
    → IsFileResult Q (stated_refusal ml hash B) (λ (t : FileStore S). IsStatedOver hash t W) (Err e)
refused_as_stated Q ml hash B P source W (Read e) h = h
refused_as_stated Q ml hash B P source W (Table e) h = ap (λ o. option_or o (dyn_refusal ml (stated_format hash B) B)) h

-- an error of the header is one, and none where it is accepted
pub none_rejected : (o : Option Error) → option_map Rejected o ≡ None → o ≡ None
none_rejected None e = refl
none_rejected (Some x) e = cc

-- ---- the place of a table
module _ (a s kl vl : ℕ) where
  -- bytes that have the table have its parts
  pub place_held : (B : List ℕ) → a + image_len (entry_format kl vl) s ≤ length B → IsHeldBy (table_place a s kl vl) B
  place_held B held = record { entries = omega (arith, held); controls = omega (arith, held) }

-- the value of a slot is in its entry, behind the key
pub read_value-bytes : (p : ReadPlace) (B : List ℕ) (i : ℕ) → i < p.slots
    → read_slot_value p B i ≡ bytes_at B (p.entries_at + i * entry_size p + p.layout.key_len) p.layout.value_len
read_value-bytes p B i l =
    let w : ℕ = entry_size p in
    let at : ℕ = p.entries_at + i * w in
    let kl : ℕ = p.layout.key_len in
    let vl : ℕ = p.layout.value_len in
    ap (drop kl) (bytes_at-bytes_at B p.entries_at (p.slots * w) (i * w) w at (slot_within i p.slots w l) refl ∙ bytes_at-take B at w)
    ∙ drop-take kl vl (drop at B) ∙ sym (bytes_at-take (drop at B) kl vl) ∙ bytes_at-drop B at kl vl (at + kl) refl

-- ---- lookups
-- what a lookup in the parts of bytes finds is what these bytes have
pub counted_get : (F : Format) (B : List ℕ) (T : TableParts) (k : List ℕ) (r : Option (List ℕ) × ℕ) → T ≡ parts_of F B
    → IsCountedFind F (λ b. b) T k r → IsCountedGet (bytes_coding F) B k r
counted_get F B T k r same found = record {
  on_valid = λ P is. here.on_placed P (parts_here F P B is);
  groups = λ P is. here.groups P (parts_here F P B is);
  on_any = stored r.0 here.on_any;
  few = here.few;
}
  where
    here : IsCountedFind F (λ b. b) (parts_of F B) k r
    here = subst (λ U. IsCountedFind F (λ b. b) U k r) same found

    stored : (o : Option (List ℕ)) → IfSome o (IsBesideKey F (λ b. b) (parts_of F B).entries k) → IfSome o (HasStored (bytes_coding F) B k)
    stored None h = tt
    stored (Some v) h = stored_beside F (λ b. b) B k (parts_of F B).entries v refl refl h

-- ---- a search in parts that are read
module _ (F : Format) (p : ReadPlace) (B k : List ℕ) (n : ℕ) (count : IsSlotCount p.slots) where
  -- how many groups were read
  read : (end : Search) → IsSearch F (read_entries p B) k (read_groups p B 0) (read_groups p B n) end
      → ((P : PlainTable) → IsPartsOf F P (read_entries p B).bytes (read_controls p B) → n ≡ groups_read F P.cells k) × (n ≤ p.slots / 16)
  read end s = let few = few_slots p.slots count in (λ P h. omega (arith, few, s.groups P h, s.few), omega (arith, s.few))

  -- where the key is found, the value of its slot is the answer
  pub found_read : (i : ℕ) (v : List ℕ) → IsSearch F (read_entries p B) k (read_groups p B 0) (read_groups p B n) (Found i)
      → v ≡ slot_value F (read_entries p B).bytes i → IsCountedFind F (λ b. b) (read_parts p B) k (Some v, n)
  found_read i v s value =
      let counted = read (Found i) s in
      record {
        on_placed = λ P h. (
            let found = answer-Found F P k h.placed i (s.end.on_placed P h) in
            ap Some (value ∙ found_value F P _ _ h k i found) ∙ sym (ap (option_map (λ (b : List ℕ). b)) found.value));
        groups = counted.0;
        on_any = (i, s.end.slot.0, s.end.slot.1, value);
        few = counted.1;
      }

  -- and where it ends without the key there is none
  absent_read : (end : Search) → IsSearch F (read_entries p B) k (read_groups p B 0) (read_groups p B n) end
      → ((P : PlainTable) → IsPartsOf F P (read_entries p B).bytes (read_controls p B) → map_of P k ≡ None) → IsCountedFind F (λ b. b) (read_parts p B) k (None, n)
  absent_read end s none = let counted = read end s in record {
    on_placed = λ P h. sym (ap (option_map (λ (b : List ℕ). b)) (none P h));
    groups = counted.0;
    on_any = tt;
    few = counted.1;
  }

  pub free_read : (i : ℕ) → IsSearch F (read_entries p B) k (read_groups p B 0) (read_groups p B n) (Free i) → IsCountedFind F (λ b. b) (read_parts p B) k (None, n)
  free_read i s = absent_read (Free i) s (λ P h. (answer-Free F P k h.placed i (s.end.on_placed P h)).value)

  pub neither_read : IsSearch F (read_entries p B) k (read_groups p B 0) (read_groups p B n) Neither → IsCountedFind F (λ b. b) (read_parts p B) k (None, n)
  neither_read s = absent_read Neither s (λ P h. (answer-Neither F P k h.placed (s.end.on_placed P h)).value)
