-- Bytes whose header and length fit: what the header says; writes to the count and behind the header leave them so.
use Rattle.std.proofs.Common.{◌≡◌, ◌<◌, ◌≤◌, ◌∙◌, ◌+◌, ◌*◌, ℕ, suc, not, sym, ap, subst, refl, List, [], ◌∷◌, ◌++◌, take, drop, set, cond, ltb, Bool, true, false, length, arith, length-set, get_or-take, lit<, lit≤, ltb-true, nat_lt}
use Rattle.odht_raw.proofs.lemmas.Below.{bytes_at-drop, bytes_at-take_front, drop-overwritten_at, drop-take, IsOpening, IsOpening-opening_refusal, IsSized, IsSized-IsPlaced, length-image, length-overwritten_at, mul-le-mul_right, num-le_bytes, opening_refusal-IsOpening, overwritten_at-single, slots_fit, take-overwritten_at}
use Rattle.std.specs.Prelude.{slice_index}
use Rattle.std.specs.Option.{option_or}
use Rattle.odht_raw.specs.Words.{bytes_at, count, differs, entry_len, first_of, Format, header_bytes, header_refusal, header_slots, image, image_len, is_power_of_two, IsSlotCount, IsValidBytes, le_bytes, lists_differ, num, opening_refusal, overwritten_at, parts, slot_count, SlotCountNotPowerOfTwo, SlotCountTooSmall, Table, tagged_at, TooShort, with_count, WrongLength, WrongSizeOf, WrongTag, WrongVersion, ◌gives◌}
use Rattle.odht_raw.specs.Frame.{IsAccepted}
use Rattle.odht_header.specs.declared.error.Part.TheVariants.{EntryMetadata, EncodedKey, EncodedValue, Header}

-- bytes with the same header except the count, and of the same length, have the same error
pub opening_refusal-same : (F : Format) (B C : List ℕ) → length B ≡ length C → take 8 B ≡ take 8 C → take 16 (drop 16 B) ≡ take 16 (drop 16 C) → opening_refusal F B ≡ opening_refusal F C
unfolding opening_refusal header_refusal
opening_refusal-same F B C n front back =
    λ i. option_or (nat_lt (n i) 32 gives TooShort (n i)) (first_of
    ((lists_differ (tag i) (79 ∷ 68 ∷ 72 ∷ 84 ∷ []) gives WrongTag (tag i))
    ∷ (lists_differ (version i) (0 ∷ 0 ∷ 0 ∷ 2 ∷ []) gives WrongVersion (version i))
    ∷ (differs (byte 4 (lit< tt) i) 1 gives WrongSizeOf EntryMetadata 1 (byte 4 (lit< tt) i))
    ∷ (differs (byte 5 (lit< tt) i) F.key_len gives WrongSizeOf EncodedKey F.key_len (byte 5 (lit< tt) i))
    ∷ (differs (byte 6 (lit< tt) i) F.value_len gives WrongSizeOf EncodedValue F.value_len (byte 6 (lit< tt) i))
    ∷ (differs (byte 7 (lit< tt) i) 32 gives WrongSizeOf Header 32 (byte 7 (lit< tt) i))
    ∷ (not (is_power_of_two (num (slots i))) gives SlotCountNotPowerOfTwo (num (slots i)))
    ∷ (nat_lt (num (slots i)) 16 gives SlotCountTooSmall (num (slots i)))
    ∷ (differs (n i) (image_len F (num (slots i))) gives WrongLength (num (slots i)) (n i) (image_len F (num (slots i))))
    ∷ []))
  where
    tag : bytes_at B 0 4 ≡ bytes_at C 0 4
    tag = sym (bytes_at-take_front B 0 4 8 (lit≤ tt)) ∙ ap (λ t. bytes_at t 0 4) front ∙ bytes_at-take_front C 0 4 8 (lit≤ tt)

    byte : (at : ℕ) → at < 8 → slice_index B at ≡ slice_index C at
    byte at h = sym (get_or-take 8 B at 0 h) ∙ ap (λ t. slice_index t at) front ∙ get_or-take 8 C at 0 h

    behind : (at m : ℕ) (k : ℕ) → at + k ≤ 16 → 16 + at ≡ m → bytes_at B m k ≡ bytes_at C m k
    behind at m k h e =
        sym (bytes_at-take_front (drop 16 B) at k 16 h ∙ bytes_at-drop B 16 at k m e)
        ∙ ap (λ t. bytes_at t at k) back ∙ bytes_at-take_front (drop 16 C) at k 16 h ∙ bytes_at-drop C 16 at k m e

    version : bytes_at B 24 4 ≡ bytes_at C 24 4
    version = behind 8 24 4 (lit≤ tt) refl

    slots : bytes_at B 16 8 ≡ bytes_at C 16 8
    slots = behind 0 16 8 (lit≤ tt) refl

-- ---- what accepted bytes are
module _ (F : Format) (B : List ℕ) (h : IsAccepted F B) where
  -- they open
  pub accepted_opening : IsOpening F B
  accepted_opening = IsOpening-opening_refusal F B h

  -- their slot count
  pub accepted_slots : IsSlotCount (header_slots B)
  accepted_slots = accepted_opening.header.slots

  -- and their length
  pub accepted_len : length B ≡ image_len F (header_slots B)
  accepted_len = accepted_opening.header.length_is

  -- ---- writes
  -- a changed count leaves them accepted
  pub IsAccepted-with_count : (n : ℕ) → IsAccepted F (with_count B n)
  IsAccepted-with_count n =
      let long : 16 ≤ length B = omega (arith, accepted_opening.long) in
      opening_refusal-same F (with_count B n) B (length-overwritten_at B 8 (le_bytes 8 n) long)
      (take-overwritten_at B 8 8 (le_bytes 8 n) (lit≤ tt) (omega (arith, long)))
      (ap (take 16) (drop-overwritten_at B 8 16 (le_bytes 8 n) (lit≤ tt) (omega (arith, long))))
      ∙ h

  -- and so does a write behind the header
  pub IsAccepted-overwritten_at : (at : ℕ) (d : List ℕ) → 32 ≤ at → at + length d ≤ length B → IsAccepted F (overwritten_at B at d)
  IsAccepted-overwritten_at at d low fits =
      let long = accepted_opening.long in
      opening_refusal-same F (overwritten_at B at d) B (length-overwritten_at B at d fits)
      (take-overwritten_at B at 8 d (omega arith) (omega arith))
      (sym (drop-take 16 16 (overwritten_at B at d)) ∙ ap (drop 16) (take-overwritten_at B at 32 d (omega arith) (omega arith)) ∙ drop-take 16 16 B)
      ∙ h

  -- and one of a single byte
  pub IsAccepted-set : (at c : ℕ) → 32 ≤ at → at < length B → IsAccepted F (set B at c)
  IsAccepted-set at c low fits = subst (IsAccepted F) (overwritten_at-single B at c fits) (IsAccepted-overwritten_at at (c ∷ []) low (omega arith))

  -- ---- entries
  -- the entry of a slot ends before the control bytes
  pub accepted_entry : (i : ℕ) → i < header_slots B → 32 + i * entry_len F + entry_len F + (header_slots B + 16) ≤ length B
  accepted_entry i low =
      let most : suc i * entry_len F ≤ header_slots B * entry_len F = mul-le-mul_right (entry_len F) low in
      omega (arith, most, accepted_len)

  -- the control byte of a slot ends within the bytes, and so does its mirror, in as many bytes
  pub accepted_control : (D : List ℕ) (i : ℕ) → length D ≡ length B → i < header_slots B → 32 + header_slots B * entry_len F + i < length D
  accepted_control D i long low = omega (arith, accepted_len)

  pub accepted_mirror : (D : List ℕ) (i : ℕ) → length D ≡ length B → i < 16 → 32 + header_slots B * entry_len F + i + header_slots B < length D
  accepted_mirror D i long low = omega (arith, accepted_len)

-- a control byte and its mirror, behind the header, leave bytes accepted
pub IsAccepted-tagged_at : (F : Format) (B : List ℕ) → IsAccepted F B → (at s i c : ℕ) → 32 ≤ at → at < length B → (i < 16 → at + s < length B) → IsAccepted F (tagged_at B at s i c)
IsAccepted-tagged_at F B h at s i c low fits mirror = go (ltb i 16) refl
  where
    once : IsAccepted F (set B at c)
    once = IsAccepted-set F B h at c low fits

    go : (t : Bool) → ltb i 16 ≡ t → IsAccepted F (cond t (set (set B at c) (at + s) c) (set B at c))
    go true e = IsAccepted-set F (set B at c) once (at + s) c (omega (arith, low)) (omega (arith, mirror (ltb-true i 16 e), length-set B at c))
    go false e = once

-- bytes that begin with the header of a slot count, and have the length for it, are accepted
pub IsAccepted-headed : (F : Format) (s c f : ℕ) (D : List ℕ) → IsSlotCount s → length (header_bytes F s c f ++ D) ≡ image_len F s → IsAccepted F (header_bytes F s c f ++ D)
IsAccepted-headed F s c f D count long =
    let by_header : header_slots (header_bytes F s c f ++ D) ≡ s = num-le_bytes 8 s (slots_fit s count) in
    opening_refusal-IsOpening F (header_bytes F s c f ++ D) (record {
      long = omega (arith, long);
      header = record {
        tag_is = refl;
        version_is = refl;
        metadata_is = refl;
        key_len_is = refl;
        value_len_is = refl;
        header_len_is = refl;
        slots = subst IsSlotCount (sym by_header) count;
        length_is = long ∙ ap (image_len F) (sym by_header);
      };
    })

-- the image of a table of a slot count is accepted
pub IsAccepted-image : (F : Format) (P : Table) → IsSlotCount (slot_count P) → IsSized F P → IsAccepted F (image F P)
unfolding image
IsAccepted-image F P slots sized = IsAccepted-headed F (slot_count P) (count P) P.factor (parts F P.cells) slots (length-image F P sized)

-- so valid bytes are
pub IsAccepted-IsValidBytes : (F : Format) (B : List ℕ) → IsValidBytes F B → IsAccepted F B
IsAccepted-IsValidBytes F B (P, is) = subst (IsAccepted F) (sym is.bytes) (IsAccepted-image F P is.valid.placed.slots (IsSized-IsPlaced F P is.valid.placed))
