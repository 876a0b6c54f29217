-- Lookups in a table that is read by position, and the hash function that its first slots leave.
use Rattle.std.proofs.Common.{arith, refl, ◌≡◌, ◌∙◌, ℕ, ◌+◌, ◌-◌, ◌*◌, ◌<◌, ◌≤◌, ◌&&◌, ◌==◌, Bool, true, false, not, List, [], ◌∷◌, length, drop, take, find, is_none, is_some, Option, Some, None, Ok, Err, sym, ap, ap₂, subst, cond, slice_index, le-ltb, mul-le-mul_right, add-mul, zero-add, length-drop}
use Rattle.std.specs.Prelude.{◌||◌, if◌then◌else◌, option_map}
use Rattle.std.specs.Bool.{then_some}
use Rattle.std.specs.Option.{option_or, unwrap_or}
use Rattle.std.proofs.lemmas.Option.{none-some}
use Rattle.std.proofs.lemmas.Bool.{and_parts, eqb-true, leb-true, false_from_ne_true, true≢false}
use Rattle.std.proofs.lemmas.List.{get_or-drop, length-take-le}
use Rattle.odht_base.specs.Bytes.{bytes_at}
use Rattle.odht_base.specs.Decoded.{header_count, header_slots, entries_of, controls_of, counts_as_free, slot_key}
use Rattle.odht_base.specs.Format.{Format, IsFormat, entry_len, format_of, tag}
use Rattle.odht_base.specs.Numbers.{num}
use Rattle.std.proofs.Math.Bool.{and-false}
use Rattle.odht_base.specs.Valid.{IsValidBytes}
use Rattle.odht_base.proofs.lemmas.ByteRanges.{bytes_at-bytes_at, bytes_at-take, index-bytes_at, length-bytes_at}
use Rattle.odht_base.proofs.lemmas.Options.{some_same}
use Rattle.odht_base.proofs.lemmas.PartsOf.{slot_within}
use Rattle.odht_header.specs.Refusals.{opening_refusal, ◌gives◌, checked, differs, first_of, header_refusal, lists_differ, tag_refusal, version_refusal, wrong_size, first_slot, control_mismatch}
use Rattle.odht_header.specs.declared.error.Error.{Error}
use Rattle.odht_header.specs.declared.error.Error.TheVariants.{ControlMismatch, TooShort, WrongSizeOf, WrongTag, WrongVersion}
use Rattle.odht_header.specs.declared.error.Part.TheVariants.{EntryMetadata}
use Rattle.odht_header.proofs.lemmas.HeaderFits.{IsHeader-header_refusal, opening_refusal-IsOpening}
use Rattle.odht_base.specs.Image.{image_len}
use Rattle.odht_base.specs.Load.{IsSlotCount}
use Rattle.odht_header.proofs.lemmas.FirstErrors.{Ok-checked, gives_both-None, None-gives_both, differs-false, false-differs, not-true, first_slot-None}
use Rattle.odht_tool_core.specs.InfoNumbers.{DynParts, agrees, found_hash, info_refusal, file_format, file_parts, least_key_len}
use Rattle.odht_tool_core.specs.AnyShapes.{any_of_sizes, fitting_any, found_any, named_any, of_hash}
use Rattle.odht_tool_core.specs.ReadyShapes.{early_refusal, hash_of, is_shape_of, same_hash, typed_len}
use Rattle.odht_tool_core.specs.generated.ShapeList.{key_part, shape_hash, ready_shapes}
use Rattle.odht_tool_core.specs.FoundShapes.{first_hash, fits, fitting_shape, is_other, is_valid_by, other_hash, said_hash, settled_hash, valid_hash}
use Rattle.odht_tool_core.specs.declared.failure.Failure.{Failure}
use Rattle.odht_tool_core.specs.declared.failure.Failure.TheVariants.{NoHash}
use Rattle.odht_tool_core.specs.declared.shapes.Hash.TheVariants.{Fx, Unhash, Xxh64}
use Rattle.odht_tool_core.proofs.Refusals.{early_passes}
use Rattle.odht_raw.proofs.lemmas.Accepted.{IsAccepted-IsValidBytes, accepted_opening, accepted_len}
use Rattle.odht_raw.proofs.lemmas.SoundBytes.{IsSound-late_refusal}
use Rattle.odht_raw.proofs.lemmas.WholeChecks.{late_valid}
use Rattle.odht_tool_core.specs.declared.any.AnyShape.TheVariants.{Ready}
use Rattle.odht_tool_core.specs.declared.generated.shapes.Shape.{Shape}
use Rattle.odht_tool_core.specs.declared.shapes.Part.TheVariants.{Bytes}
use Rattle.odht_tool_core.specs.declared.generated.shapes.Shape.TheVariants.{U64ToU32}
use Rattle.odht_tool_core.specs.declared.shapes.Hash.{Hash}
use Rattle.odht_tool_core.proofs.DynSlots.{all_agree}
use Rattle.odht.specs.Files.{table_place}
use Rattle.odht_raw.specs.declared.raw_table.read_search.ReadPlace.{ReadPlace}
use Rattle.odht_tool_reads.specs.Positions.{AreNoneLeft, HasNoHash, IsNamed, IsStartOf, slots_parts}
use Rattle.odht_tool_reads.specs.declared.positions.Start.{Start}
use Rattle.odht_tool_reads.specs.declared.positions.names.Fitting.{Fitting}

-- ---- the tags of slots
-- slot i has the tag of its key, where it is occupied
abbrev pub Fits : DynParts → Hash → ℕ → Type 0
Fits T h i = counts_as_free (slice_index T.control i) ≡ false → slice_index T.control i ≡ tag (file_format T h) (slot_key (file_format T h) T.entries i)

none_here : (o : Option Error) → is_none o ≡ true → o ≡ None
none_here None e = refl
none_here (Some x) e = cc

module _ (T : DynParts) (h : Hash) where
  abbrev mismatch : ℕ → Option Error
  mismatch i = control_mismatch (file_format T h) T.entries T.control i

  fits_all : agrees T h ≡ true → (i : ℕ) → i < T.slots → Fits T h i
  fits_all e i low f =
      let none = first_slot-None mismatch T.slots (none_here (first_slot mismatch T.slots) (and_parts _ _ e).1) i low in
      differs-false _ _ (gives_both-None _ _ (ControlMismatch i _ _) none (ap not f))

  pub long_enough : agrees T h ≡ true → least_key_len h ≤ T.key_len
  long_enough e = leb-true (least_key_len h) T.key_len (and_parts _ _ e).0

  pub all_fit : least_key_len h ≤ T.key_len → ((i : ℕ) → i < T.slots → Fits T h i) → agrees T h ≡ true
  all_fit long fit = all_agree T h long (λ i low. None-gives_both _ _ _ (λ f. false-differs _ _ (fit i low (not-true _ f))))

-- sixteen slots of a table fit where all do
module _ (T : List ℕ) (w s first : ℕ) (is : header_slots T ≡ s) (wide : slice_index T 5 + slice_index T 6 ≡ w) (low : first + 16 ≤ s) where
  abbrev group : DynParts
  group = slots_parts (slice_index T 5) (slice_index T 6) (bytes_at T (32 + first * w) (16 * w)) (bytes_at T (32 + s * w + first) 16)

  abbrev whole : DynParts
  whole = file_parts T

  control_same : (j : ℕ) → j < 16 → slice_index group.control j ≡ slice_index whole.control (first + j)
  control_same j l =
      index-bytes_at T (32 + s * w + first) 16 j l
      ∙ ap (slice_index T) (omega arith)
      ∙ sym (ap (λ n. slice_index (drop n T) (first + j)) (ap₂ (λ a b. 32 + a * b) is wide) ∙ get_or-drop (32 + s * w) T (first + j) 0)

  entry_same : (j : ℕ) → j < 16 → bytes_at group.entries (j * w) w ≡ bytes_at whole.entries ((first + j) * w) w
  entry_same j l =
      bytes_at-bytes_at T (32 + first * w) (16 * w) (j * w) w (32 + first * w + j * w) (slot_within j 16 w l) refl
      ∙ ap (λ n. bytes_at T n w) (omega (arith, add-mul first j w))
      ∙ sym (ap (λ n. bytes_at (bytes_at T 32 n) ((first + j) * w) w) (ap₂ (λ a b. a * b) is wide)
      ∙ bytes_at-bytes_at T 32 (s * w) ((first + j) * w) w (32 + (first + j) * w) (slot_within (first + j) s w (omega (arith, l, low))) refl)

  pub group_disagrees : (h : Hash) → agrees group h ≡ false → agrees whole h ≡ false
  group_disagrees h e =
      false_from_ne_true _ (λ t.
      let fit : (j : ℕ) → j < 16 → Fits group h j =
      λ j l f.
      control_same j l
      ∙ fits_all whole h t (first + j) (omega (arith, l, low, is)) (ap counts_as_free (sym (control_same j l)) ∙ f)
      ∙ ap (λ (n : ℕ). tag (file_format whole h) (take (slice_index T 5) (bytes_at whole.entries ((first + j) * n) n))) wide
      ∙ ap (λ b. tag (file_format whole h) (take (slice_index T 5) b)) (sym (entry_same j l))
      ∙ ap (λ (n : ℕ). tag (file_format whole h) (take (slice_index T 5) (bytes_at group.entries (j * n) n))) (sym wide) in
      true≢false (sym (all_fit group h (long_enough whole h t) fit) ∙ e))

-- what is read of a table's start and of sixteen slots tells the same of the table
pub left_alone : (B : List ℕ) (start : Start) (s k v first : ℕ) (h : Hash) → IsStartOf B start
    → s ≡ header_slots start.header → k ≡ slice_index start.header 5 → v ≡ slice_index start.header 6 → 32 + s * (k + v) + s + 16 ≡ start.len → first + 16 ≤ s
    → agrees (slots_parts k v (bytes_at B (start.at + 32 + first * (k + v)) (16 * (k + v))) (bytes_at B (start.at + 32 + s * (k + v) + first) 16)) h ≡ false
    → agrees (file_parts (bytes_at B start.at start.len)) h ≡ false
left_alone B start s k v first h is slots key value long low e =
    let T : List ℕ = bytes_at B start.at start.len in
    let w : ℕ = k + v in
    let front : bytes_at B start.at 32 ≡ bytes_at T 0 32 = sym (bytes_at-bytes_at B start.at start.len 0 32 start.at (omega (arith, long)) (omega arith)) in
    let field : (i : ℕ) → i < 32 → slice_index start.header i ≡ slice_index T i =
    λ i l. ap (λ b. slice_index b i) (is.header ∙ front) ∙ index-bytes_at T 0 32 i l ∙ ap (slice_index T) (zero-add i) in
    let counted : header_slots T ≡ s =
    sym (slots ∙ ap header_slots (is.header ∙ front) ∙ ap num (bytes_at-bytes_at T 0 32 16 8 16 (omega arith) refl)) in
    let k_is : k ≡ slice_index T 5 = key ∙ field 5 (omega arith) in
    let v_is : v ≡ slice_index T 6 = value ∙ field 6 (omega arith) in
    let entries : bytes_at T (32 + first * w) (16 * w) ≡ bytes_at B (start.at + 32 + first * w) (16 * w) =
    bytes_at-bytes_at B start.at start.len (32 + first * w) (16 * w) (start.at + 32 + first * w) (omega (arith, long, enough first s w low)) (omega arith) in
    let control : bytes_at T (32 + s * w + first) 16 ≡ bytes_at B (start.at + 32 + s * w + first) 16 =
    bytes_at-bytes_at B start.at start.len (32 + s * w + first) 16 (start.at + 32 + s * w + first) (omega (arith, long, low)) (omega arith) in
    group_disagrees T w s first counted (ap₂ (λ a b. a + b) (sym k_is) (sym v_is)) low h
    ((λ i. agrees (slots_parts (sym k_is i) (sym v_is i) (entries i) (control i)) h) ∙ e)
  where
    enough : (a b n : ℕ) → a + 16 ≤ b → a * n + 16 * n ≤ b * n
    enough a b n l = omega (arith, add-mul a 16 n, mul-le-mul_right n l)

-- the same of the place of its parts
pub left_place : (B : List ℕ) (start : Start) (p : ReadPlace) (first : ℕ) (h : Hash) → IsStartOf B start
    → p ≡ table_place start.at (header_slots start.header) (slice_index start.header 5) (slice_index start.header 6)
    → 32 + p.slots * (p.layout.key_len + p.layout.value_len) + p.slots + 16 ≡ start.len → first + 16 ≤ p.slots
    → agrees (slots_parts p.layout.key_len p.layout.value_len (bytes_at B (p.entries_at + first * (p.layout.key_len + p.layout.value_len)) (16 * (p.layout.key_len + p.layout.value_len))) (bytes_at B (p.control_at + first) 16)) h ≡ false
    → agrees (file_parts (bytes_at B start.at start.len)) h ≡ false
left_place B start p first h is e =
    subst
    (λ (q : ReadPlace). 32 + q.slots * (q.layout.key_len + q.layout.value_len) + q.slots + 16 ≡ start.len → first + 16 ≤ q.slots
    → agrees (slots_parts q.layout.key_len q.layout.value_len (bytes_at B (q.entries_at + first * (q.layout.key_len + q.layout.value_len)) (16 * (q.layout.key_len + q.layout.value_len))) (bytes_at B (q.control_at + first) 16)) h ≡ false
    → agrees (file_parts (bytes_at B start.at start.len)) h ≡ false)
    (sym e)
    (left_alone B start (header_slots start.header) (slice_index start.header 5) (slice_index start.header 6) first h is refl refl refl)

-- each of the hash functions that some slots do not fit disagrees with the slots P
pub record Excluded (P : DynParts) (fx unhash xxh64 : Bool) : Type 0 where
  pub by_fx : fx ≡ false → agrees P Fx ≡ false
  pub by_unhash : unhash ≡ false → agrees P Unhash ≡ false
  pub by_xxh64 : xxh64 ≡ false → agrees P Xxh64 ≡ false

pub none_excluded : (P : DynParts) → Excluded P true true true
none_excluded P = record {
  by_fx = λ e. absurd (true≢false e);
  by_unhash = λ e. absurd (true≢false e);
  by_xxh64 = λ e. absurd (true≢false e);
}

-- the parts of the sixteen slots from one on
abbrev group_parts : List ℕ → ReadPlace → ℕ → DynParts
group_parts B p first =
    slots_parts p.layout.key_len p.layout.value_len (bytes_at B (p.entries_at + first * (p.layout.key_len + p.layout.value_len)) (16 * (p.layout.key_len + p.layout.value_len))) (bytes_at B (p.control_at + first) 16)

-- what two tests exclude one of the two excludes
pub either_false : {X : Type 0} (a b c : Bool) → c ≡ (a && b) → (a ≡ false → X) → (b ≡ false → X) → c ≡ false → X
either_false false b c e f g h = f refl
either_false true b c e f g h = g (sym e ∙ h)

-- what sixteen slots exclude, and what was excluded before them
pub more_excluded : (B : List ℕ) (start : Start) (p : ReadPlace) (first : ℕ) (l m n : Fitting) → IsStartOf B start
    → p ≡ table_place start.at (header_slots start.header) (slice_index start.header 5) (slice_index start.header 6)
    → 32 + p.slots * (p.layout.key_len + p.layout.value_len) + p.slots + 16 ≡ start.len → first + 16 ≤ p.slots
    → (m.fx ≡ agrees (group_parts B p first) Fx) × (m.unhash ≡ agrees (group_parts B p first) Unhash) × (m.xxh64 ≡ agrees (group_parts B p first) Xxh64)
    → n.fx ≡ (l.fx && m.fx) → n.unhash ≡ (l.unhash && m.unhash) → n.xxh64 ≡ (l.xxh64 && m.xxh64)
    → Excluded (file_parts (bytes_at B start.at start.len)) l.fx l.unhash l.xxh64 → Excluded (file_parts (bytes_at B start.at start.len)) n.fx n.unhash n.xxh64
more_excluded B start p first l m n is place long low fitting fx unhash xxh64 before = record {
  by_fx = either_false l.fx m.fx n.fx fx before.by_fx (λ e. left_place B start p first Fx is place long low (sym fitting.0 ∙ e));
  by_unhash = either_false l.unhash m.unhash n.unhash unhash before.by_unhash (λ e. left_place B start p first Unhash is place long low (sym fitting.1 ∙ e));
  by_xxh64 = either_false l.xxh64 m.xxh64 n.xxh64 xxh64 before.by_xxh64 (λ e. left_place B start p first Xxh64 is place long low (sym fitting.2 ∙ e));
}

-- the one that is left, where the others are excluded
pub left_fx : (P : DynParts) (a b c : Bool) → Excluded P a b c → b ≡ false → c ≡ false → (g : Hash) → same_hash g Fx ≡ false → agrees P g ≡ false
left_fx P a b c x e f Fx s = absurd (true≢false s)
left_fx P a b c x e f Unhash s = x.by_unhash e
left_fx P a b c x e f Xxh64 s = x.by_xxh64 f

pub left_unhash : (P : DynParts) (a b c : Bool) → Excluded P a b c → a ≡ false → c ≡ false → (g : Hash) → same_hash g Unhash ≡ false → agrees P g ≡ false
left_unhash P a b c x e f Fx s = x.by_fx e
left_unhash P a b c x e f Unhash s = absurd (true≢false s)
left_unhash P a b c x e f Xxh64 s = x.by_xxh64 f

pub left_xxh64 : (P : DynParts) (a b c : Bool) → Excluded P a b c → a ≡ false → b ≡ false → (g : Hash) → same_hash g Xxh64 ≡ false → agrees P g ≡ false
left_xxh64 P a b c x e f Fx s = x.by_fx e
left_xxh64 P a b c x e f Unhash s = x.by_unhash f
left_xxh64 P a b c x e f Xxh64 s = absurd (true≢false s)

-- or none, where each of them is
pub left_none : (P : DynParts) (a b c : Bool) → Excluded P a b c → a ≡ false → b ≡ false → c ≡ false → (g : Hash) → agrees P g ≡ false
left_none P a b c x d e f Fx = x.by_fx d
left_none P a b c x d e f Unhash = x.by_unhash e
left_none P a b c x d e f Xxh64 = x.by_xxh64 f

-- how long a table is by its header
pub start_length : (k v len : ℕ) (header : List ℕ) → Ok tt ≡ checked (header_refusal (format_of k v (λ b. 0)) len header) → len ≡ 32 + header_slots header * (k + v) + header_slots header + 16
start_length k v len header e = (IsHeader-header_refusal (format_of k v (λ b. 0)) len header (Ok-checked _ e)).length_is

-- ---- the shape
some_none : {d : Hash} → ◌≡◌ {A = Option Hash} (Some d) None → ⊥
some_none e = cc

module _ (T H : List ℕ) (long : 32 ≤ length T) (is : H ≡ bytes_at T 0 32) where
  -- the header has the errors of all bytes that come first
  late : (B : List ℕ) → 32 ≤ length B → early_refusal B ≡ first_of (tag_refusal B ∷ version_refusal B ∷ wrong_size B 4 EntryMetadata 1 ∷ [])
  late B enough = ap (λ b. option_or (b gives TooShort (length B)) (first_of (tag_refusal B ∷ version_refusal B ∷ wrong_size B 4 EntryMetadata 1 ∷ []))) (le-ltb (length B) 32 enough)

  field : (i : ℕ) → i < 32 → slice_index H i ≡ slice_index T i
  field i l = ap (λ b. slice_index b i) is ∙ index-bytes_at T 0 32 i l ∙ ap (slice_index T) (zero-add i)

  part : (at n : ℕ) → at + n ≤ 32 → bytes_at H at n ≡ bytes_at T at n
  part at n l = ap (λ b. bytes_at b at n) is ∙ bytes_at-bytes_at T 0 32 at n at l (omega arith)

  early_same : early_refusal H ≡ early_refusal T
  early_same =
      late H (omega (arith, ap length is, length-bytes_at T 0 32 (omega (arith, long))))
      ∙ (λ i. first_of ((lists_differ (part 0 4 (omega arith) i) (79 ∷ 68 ∷ 72 ∷ 84 ∷ []) gives WrongTag (part 0 4 (omega arith) i))
      ∷ (lists_differ (part 24 4 (omega arith) i) (0 ∷ 0 ∷ 0 ∷ 2 ∷ []) gives WrongVersion (part 24 4 (omega arith) i))
      ∷ (differs (field 4 (omega arith) i) 1 gives WrongSizeOf EntryMetadata 1 (field 4 (omega arith) i)) ∷ []))
      ∙ sym (late T long)

  named_same : (g : Option Hash) → named_any H g ≡ named_any T g
  named_same g = λ i. if is_some (early_same i) then Ok (Ready U64ToU32) else any_of_sizes (Bytes (field 5 (omega arith) i)) (Bytes (field 6 (omega arith) i)) g

  no_items : (B : List ℕ) → header_count B ≡ 0 → found_any B None ≡ named_any B None
  no_items B e = ap (λ b. if b then fitting_any B else named_any B None) (ap (λ n. is_none (info_refusal B) && not (n == 0)) e ∙ and-false _)

  -- and the shape of all bytes, where a hash function is named that is to be
  pub found_same : (h d g : Option Hash) → IsNamed T h d g → found_any H (said_hash H g d) ≡ found_any T (said_hash T g d)
  found_same (Some h) d None named = cc
  found_same (Some h) d (Some g) named = named_same (Some g)
  found_same None None None none = no_items H (ap num (part 8 8 (omega arith)) ∙ none.0) ∙ named_same None ∙ sym (no_items T none.0)
  found_same None (Some d) None none = absurd (some_none none.1)
  found_same None d (Some g) left = named_same (Some g)

-- what is read first of a table
pub started : (B : List ℕ) (start : Start) → IsStartOf B start → 32 ≤ start.len → start.header ≡ bytes_at (bytes_at B start.at start.len) 0 32
started B start is long = is.header ∙ sym (bytes_at-bytes_at B start.at start.len 0 32 start.at (omega (arith, long)) (omega arith))

pub started_long : (B : List ℕ) (start : Start) → IsStartOf B start → 32 ≤ start.len → 32 ≤ length (bytes_at B start.at start.len)
started_long B start is long = omega (arith, long, length-bytes_at B start.at start.len is.held)

-- and counts the same items
pub counted : (B : List ℕ) (start : Start) → IsStartOf B start → 32 ≤ start.len → header_count start.header ≡ header_count (bytes_at B start.at start.len)
counted B start is long = ap header_count (started B start is long) ∙ ap num (bytes_at-bytes_at (bytes_at B start.at start.len) 0 32 8 8 8 (omega arith) refl)

-- and opens where its header has no error
pub start_opens : (B : List ℕ) (start : Start) → IsStartOf B start → 32 ≤ start.len
    → header_refusal (format_of (slice_index start.header 5) (slice_index start.header 6) (λ b. 0)) start.len start.header ≡ None
    → info_refusal (bytes_at B start.at start.len) ≡ None
start_opens B start is long e =
    let T = bytes_at B start.at start.len in
    let H = start.header in
    let same = started B start is long in
    let h = IsHeader-header_refusal _ start.len H e in
    let byte : (i : ℕ) → i < 32 → slice_index H i ≡ slice_index T i = field T H (started_long B start is long) same in
    let cut : (at n : ℕ) → at + n ≤ 32 → bytes_at H at n ≡ bytes_at T at n = part T H (started_long B start is long) same in
    opening_refusal-IsOpening _ T (record {
      long = started_long B start is long;
      header = record {
        tag_is = sym (cut 0 4 (omega arith)) ∙ h.tag_is;
        version_is = sym (cut 24 4 (omega arith)) ∙ h.version_is;
        metadata_is = sym (byte 4 (omega arith)) ∙ h.metadata_is;
        key_len_is = refl;
        value_len_is = refl;
        header_len_is = sym (byte 7 (omega arith)) ∙ h.header_len_is;
        slots = subst IsSlotCount (ap num (cut 16 8 (omega arith))) h.slots;
        length_is = length-bytes_at B start.at start.len is.held ∙ h.length_is
            ∙ (λ i. image_len (format_of (byte 5 (omega arith) i) (byte 6 (omega arith) i) (λ b. 0)) (num (cut 16 8 (omega arith) i)));
      };
    })

-- where its slots leave no hash function, its failure has the lengths of its header
pub none_left : (B : List ℕ) (start : Start) → IsStartOf B start → 32 ≤ start.len → info_refusal (bytes_at B start.at start.len) ≡ None
    → (a b c : Bool) → Excluded (file_parts (bytes_at B start.at start.len)) a b c → a ≡ false → b ≡ false → c ≡ false
    → (f : Failure) → f ≡ NoHash (slice_index start.header 5) (slice_index start.header 6) → AreNoneLeft (bytes_at B start.at start.len) f
none_left B start is long opens a b c x d e g f said = record {
  opens = opens;
  unfit = left_none (file_parts (bytes_at B start.at start.len)) a b c x d e g;
  said = said ∙ ap₂ NoHash (byte 5 (omega arith)) (byte 6 (omega arith));
}
  where
    byte : (i : ℕ) → i < 32 → slice_index start.header i ≡ slice_index (bytes_at B start.at start.len) i
    byte = field (bytes_at B start.at start.len) start.header (started_long B start is long) (started B start is long)

-- and it has no shape
module _ (T : List ℕ) (f : Failure) (none : AreNoneLeft T f) (some : header_count T ≡ 0 → ⊥) where
  no_fits : (ss : List Shape) → find (fits (slice_index T 5) (slice_index T 6) (file_parts T)) ss ≡ None
  no_fits [] = refl
  no_fits (s ∷ ss) =
      ap (λ b. cond b (Some s) (find (fits (slice_index T 5) (slice_index T 6) (file_parts T)) ss))
      (ap (λ b. is_shape_of (slice_index T 5) (slice_index T 6) None s && b) (none.unfit (shape_hash s)) ∙ and-false _)
      ∙ no_fits ss

  not_found : found_hash (file_parts T) ≡ None
  not_found =
      ap (λ b. cond b (Some Fx) (find (agrees (file_parts T)) (Unhash ∷ Xxh64 ∷ []))) (none.unfit Fx)
      ∙ ap (λ b. cond b (Some Unhash) (find (agrees (file_parts T)) (Xxh64 ∷ []))) (none.unfit Unhash) ∙ ap (λ b. cond b (Some Xxh64) None) (none.unfit Xxh64)

  no_first : first_hash (slice_index T 5) (slice_index T 6) (file_parts T) ≡ None
  no_first = ap (λ o. option_or (option_map shape_hash o) (found_hash (file_parts T))) (no_fits ready_shapes) ∙ not_found

  unsaid : (d : Option Hash) → said_hash T None d ≡ None
  unsaid None = refl
  unsaid (Some d) = ap (λ b. then_some b (settled_hash T d)) (ap (λ b. is_none (info_refusal T) && b) (none.unfit d) ∙ and-false _)

  has_some : (header_count T == 0) ≡ false
  has_some = false_from_ne_true _ (λ t. some (eqb-true _ _ t))

  pub no_shape : (d : Option Hash) → HasNoHash T d f
  no_shape d =
      ap (found_any T) (unsaid d)
      ∙ ap (λ b. if is_none (info_refusal T) && not b then fitting_any T else named_any T None) has_some
      ∙ ap (λ o. if is_none o && true then fitting_any T else named_any T None) none.opens
      ∙ ap (of_hash T) no_first ∙ ap Err (sym none.said)

-- what is left of bytes that were read are those from a later offset on
pub left_of : (B xs : List ℕ) (at skipped offset : ℕ) → xs ≡ bytes_at B at (length xs) → skipped ≤ length xs → at + skipped ≡ offset
    → take (length xs - skipped) (drop skipped xs) ≡ bytes_at B offset (length (take (length xs - skipped) (drop skipped xs)))
left_of B xs at skipped offset read within e =
    let n = length xs - skipped in
    let long : length (take n (drop skipped xs)) ≡ n = length-take-le n (drop skipped xs) (omega (arith, length-drop skipped xs)) in
    sym (bytes_at-take xs skipped n) ∙ ap (λ t. bytes_at t skipped n) read
    ∙ bytes_at-bytes_at B at (length xs) skipped n offset (omega (arith, within)) e
    ∙ ap (bytes_at B offset) (sym long)

-- where it counts no items, no hash function is to be named
pub counted_none : (B : List ℕ) (start : Start) → IsStartOf B start → 32 ≤ start.len → header_count start.header ≡ 0 → header_count (bytes_at B start.at start.len) ≡ 0
counted_none B start is long e = sym (counted B start is long) ∙ e

-- ---- valid bytes
-- no other hash function agrees
abbrev Excludes : DynParts → Hash → Type 0
Excludes P h = (g : Hash) → same_hash g h ≡ false → agrees P g ≡ false

-- a hash function that agrees is the one that is left
left_same : (P : DynParts) (h g : Hash) → agrees P g ≡ true → Excludes P h → g ≡ h
left_same P Fx Fx fit unfit = refl
left_same P Fx Unhash fit unfit = absurd (true≢false (sym fit ∙ unfit Unhash refl))
left_same P Fx Xxh64 fit unfit = absurd (true≢false (sym fit ∙ unfit Xxh64 refl))
left_same P Unhash Fx fit unfit = absurd (true≢false (sym fit ∙ unfit Fx refl))
left_same P Unhash Unhash fit unfit = refl
left_same P Unhash Xxh64 fit unfit = absurd (true≢false (sym fit ∙ unfit Xxh64 refl))
left_same P Xxh64 Fx fit unfit = absurd (true≢false (sym fit ∙ unfit Fx refl))
left_same P Xxh64 Unhash fit unfit = absurd (true≢false (sym fit ∙ unfit Unhash refl))
left_same P Xxh64 Xxh64 fit unfit = refl

-- the shape that fits first is one of it
module _ (P : DynParts) (k v : ℕ) (h : Hash) (fit : agrees P h ≡ true) (unfit : Excludes P h) where
  found_left : (h : Hash) → agrees P h ≡ true → Excludes P h → found_hash P ≡ Some h
  found_left Fx fit unfit = ap (λ b. cond b (Some Fx) (find (agrees P) (Unhash ∷ Xxh64 ∷ []))) fit
  found_left Unhash fit unfit =
      ap (λ b. cond b (Some Fx) (find (agrees P) (Unhash ∷ Xxh64 ∷ []))) (unfit Fx refl) ∙ ap (λ b. cond b (Some Unhash) (find (agrees P) (Xxh64 ∷ []))) fit
  found_left Xxh64 fit unfit =
      ap (λ b. cond b (Some Fx) (find (agrees P) (Unhash ∷ Xxh64 ∷ []))) (unfit Fx refl)
      ∙ ap (λ b. cond b (Some Unhash) (find (agrees P) (Xxh64 ∷ []))) (unfit Unhash refl) ∙ ap (λ b. cond b (Some Xxh64) None) fit

  found_fits : (ss : List Shape) (s : Shape) → find (fits k v P) ss ≡ Some s → fits k v P s ≡ true
  found_fits [] s e = absurd (none-some s e)
  found_fits (x ∷ ss) s e = at (fits k v P x) refl e (found_fits ss s)
    where
      at : (b : Bool) → fits k v P x ≡ b → cond b (Some x) (find (fits k v P) ss) ≡ Some s → (find (fits k v P) ss ≡ Some s → fits k v P s ≡ true) → fits k v P s ≡ true
      at true is e later = subst (λ (y : Shape). fits k v P y ≡ true) (some_same x s e) is
      at false is e later = later e

  first_left : first_hash k v P ≡ Some h
  first_left = go (fitting_shape k v P) refl
    where
      go : (o : Option Shape) → fitting_shape k v P ≡ o → option_or (option_map shape_hash o) (found_hash P) ≡ Some h
      go None e = found_left h fit unfit
      go (Some s) e = ap Some (left_same P h (shape_hash s) (and_parts (is_shape_of k v None s) _ (found_fits ready_shapes s e)).1 unfit)

-- and it decides
no_other : (P : DynParts) (h : Hash) → Excludes P h → other_hash P h ≡ None
no_other P Fx unfit = ap (λ b. cond b (Some Unhash) (find (is_other Fx P) (Xxh64 ∷ []))) (unfit Unhash refl) ∙ ap (λ b. cond b (Some Xxh64) None) (unfit Xxh64 refl)
no_other P Unhash unfit = ap (λ b. cond b (Some Fx) (find (is_other Unhash P) (Unhash ∷ Xxh64 ∷ []))) (unfit Fx refl) ∙ ap (λ b. cond b (Some Xxh64) None) (unfit Xxh64 refl)
no_other P Xxh64 unfit = ap (λ b. cond b (Some Fx) (find (is_other Xxh64 P) (Unhash ∷ Xxh64 ∷ []))) (unfit Fx refl) ∙ ap (λ b. cond b (Some Unhash) (find (is_other Xxh64 P) (Xxh64 ∷ []))) (unfit Unhash refl)

settled : (T : List ℕ) (h : Hash) → Excludes (file_parts T) h → settled_hash T h ≡ h
settled T h unfit = ap (λ o. if is_none o || is_valid_by T h then h else unwrap_or (valid_hash T) h) (no_other (file_parts T) h unfit)

left_shape : (T : List ℕ) (h : Hash) → agrees (file_parts T) h ≡ true → Excludes (file_parts T) h → fitting_any T ≡ any_of_sizes (Bytes (slice_index T 5)) (Bytes (slice_index T 6)) (Some h)
left_shape T h fit unfit =
    ap (of_hash T) (first_left (file_parts T) (slice_index T 5) (slice_index T 6) h fit unfit)
    ∙ ap (λ g. any_of_sizes (Bytes (slice_index T 5)) (Bytes (slice_index T 6)) (Some g)) (settled T h unfit)

-- all slots of valid bytes have the tags of their keys
pub valid_agrees : (T : List ℕ) (k v : ℕ) (h : Hash) → IsFormat (format_of k v (hash_of h)) → least_key_len h ≤ k → IsValidBytes (format_of k v (hash_of h)) T → agrees (file_parts T) h ≡ true
valid_agrees T k v h f long valid =
    let F : Format = format_of k v (hash_of h) in
    let accepted = IsAccepted-IsValidBytes F T valid in
    let sound = (IsSound-late_refusal F None T accepted (late_valid F None T f valid refl)).0 in
    let header = accepted_opening F T accepted in
    let key : slice_index T 5 ≡ k = header.header.key_len_is in
    let value : slice_index T 6 ≡ v = header.header.value_len_is in
    let size : length (controls_of F T) ≡ header_slots T + 16 = omega (arith, length-drop (32 + header_slots T * entry_len F) T, accepted_len F T accepted) in
    subst (λ a. agrees (record { key_len = a; value_len = slice_index T 6; slots = header_slots T; entries = bytes_at T 32 (header_slots T * (a + slice_index T 6)); control = drop (32 + header_slots T * (a + slice_index T 6)) T }) h ≡ true) (sym key)
    (subst (λ b. agrees (record { key_len = k; value_len = b; slots = header_slots T; entries = bytes_at T 32 (header_slots T * (k + b)); control = drop (32 + header_slots T * (k + b)) T }) h ≡ true) (sym value)
    (all_fit (record { key_len = k; value_len = v; slots = header_slots T; entries = entries_of F T; control = controls_of F T }) h long (λ i low. (sound.slots_fit i (omega (arith, size, low))).occupied_tag)))

-- so for valid bytes the shape is the same as by all slots
module _ (T : List ℕ) (k v : ℕ) (g : Hash) (f : IsFormat (format_of k v (hash_of g))) (long : least_key_len g ≤ k) (valid : IsValidBytes (format_of k v (hash_of g)) T) where
  opens : info_refusal T ≡ None
  unfolding opening_refusal header_refusal
  opens =
      let F : Format = format_of k v (hash_of g) in
      let accepted = IsAccepted-IsValidBytes F T valid in
      let header = accepted_opening F T accepted in
      subst (λ a. opening_refusal (format_of a (slice_index T 6) (hash_of Fx)) T ≡ None) (sym header.header.key_len_is)
      (subst (λ b. opening_refusal (format_of k b (hash_of Fx)) T ≡ None) (sym header.header.value_len_is) accepted)

  early : early_refusal T ≡ None
  early = early_passes T opens

  pub valid_found : (h d name : Option Hash) → IsNamed T h d name → found_any T (said_hash T name d) ≡ found_any T (said_hash T h d)
  valid_found (Some h) d name is = ap (λ n. found_any T (said_hash T n d)) is
  valid_found None d None none = refl
  valid_found None d (Some h) left = go (header_count T == 0) refl ∙ by_default d
    where
      unfit : Excludes (file_parts T) h
      unfit = left.1 opens

      same : g ≡ h
      same = left_same (file_parts T) h g (valid_agrees T k v g f long valid) unfit

      fit : agrees (file_parts T) h ≡ true
      fit = subst (λ x. agrees (file_parts T) x ≡ true) same (valid_agrees T k v g f long valid)

      named : named_any T (Some h) ≡ any_of_sizes (Bytes (slice_index T 5)) (Bytes (slice_index T 6)) (Some h)
      named = ap (λ o. if is_some o then Ok (Ready U64ToU32) else any_of_sizes (Bytes (slice_index T 5)) (Bytes (slice_index T 6)) (Some h)) early

      chosen : (d : Hash) (b : Bool) → (is_none (info_refusal T) && agrees (file_parts T) d) ≡ b → found_any T None ≡ found_any T (Some h) → found_any T None ≡ found_any T (then_some b (settled_hash T d))
      chosen d false e same_shape = refl
      chosen d true e same_shape =
          let is = left_same (file_parts T) h d (and_parts _ _ e).1 unfit in
          same_shape ∙ ap (λ x. found_any T (Some x)) (sym (ap (settled_hash T) is ∙ settled T h unfit))

      go : (b : Bool) → (header_count T == 0) ≡ b → found_any T (Some h) ≡ found_any T None
      go true e = absurd (left.0 (eqb-true _ _ e))
      go false e =
          named ∙ sym (left_shape T h fit unfit)
          ∙ sym (ap (λ b. if is_none (info_refusal T) && not b then fitting_any T else named_any T None) e
          ∙ ap (λ o. if is_none o && true then fitting_any T else named_any T None) opens)

      by_default : (d : Option Hash) → found_any T None ≡ found_any T (said_hash T None d)
      by_default None = refl
      by_default (Some d) = chosen d (is_none (info_refusal T) && agrees (file_parts T) d) refl (sym (go (header_count T == 0) refl))

-- ready shapes have keys that are long enough
pub ready_long : (s : Shape) → least_key_len (shape_hash s) ≤ typed_len (key_part s)
ready_long s = grind arith
