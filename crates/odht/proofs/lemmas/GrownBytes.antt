-- The bytes that a table grows into: how many they are, and what their header says.
use Rattle.std.proofs.Common.{◌≡◌, ◌<◌, ◌≤◌, ◌∙◌, ◌*◌, ◌^◌, ◌++◌, ℕ, sym, ap, subst, refl, List, Option, Some, None, take, drop, length, arith, lt-ltb, le-ltb, take-append-drop}
use Rattle.std.specs.Prelude.{max, IfSome, IsNone, MatchOption}
use Rattle.std.specs.Bool.{then_some}
use Rattle.std.proofs.Math.Nat.{le-max_left, le-max_right, mul-le-mul_left}
use Rattle.odht_raw.specs.Words.{Format, header_bytes, header_count, header_factor, image_len, IsImage, IsSlotCount, Table}
use Rattle.odht_base.specs.Load.{slots_for}
use Rattle.odht_base.specs.Insert.{grown_slots}
use Rattle.odht_base.proofs.lemmas.Least.{slots_for-IsLeastSlots}
use Rattle.odht_base.proofs.lemmas.Numbers.{num-le_bytes}
use Rattle.odht_base.proofs.lemmas.Options.{some_same}
use Rattle.odht_base.proofs.lemmas.SlotCounts.{few_slots}
use Rattle.odht_raw.specs.Frame.{IsAccepted}
use Rattle.odht_header.specs.Layouts.{IsLayout}
use Rattle.odht_header.specs.Refusals.{IsTooLarge}
use Rattle.odht_raw.proofs.lemmas.Accepted.{IsAccepted-headed}
use Rattle.odht.specs.Growths.{table_len, grown_slots_of, grown_len}
use Rattle.odht.proofs.lemmas.ViewInserts.{count_header, factor_header}

-- ---- the length
-- the length of a layout for that many items is that of the table
pub table_len-layout : (F : Format) (n f s len : ℕ) → IsLayout F n f s len → table_len F (slots_for n f) ≡ Some len
table_len-layout F n f s len layout =
    let short : image_len F s < 2 ^ 64 = omega (arith, layout.long, layout.fits) in
    ap (table_len F) layout.slots ∙ ap (λ t. then_some t (image_len F s)) (lt-ltb (image_len F s) (2 ^ 64) short) ∙ ap Some (sym layout.long)

-- so it is the length of the grown table
pub grown_len-layout : (F : Format) (B : List ℕ) (s len : ℕ) → IsLayout F (max 1 (2 * header_count B)) (header_factor B) s len → grown_len F B ≡ Some len
unfolding grown_len
grown_len-layout F B s len layout = table_len-layout F (max 1 (2 * header_count B)) (header_factor B) s len layout

-- and another length is the same
pub asked_len : (F : Format) (B : List ℕ) (s len n : ℕ) → IsLayout F (max 1 (2 * header_count B)) (header_factor B) s len → grown_len F B ≡ Some n → n ≡ image_len F s
asked_len F B s len n layout is = some_same n len (sym is ∙ grown_len-layout F B s len layout) ∙ layout.long

-- where that many items are too many there is none
pub grown_len-large : (F : Format) (B : List ℕ) → IsTooLarge F (max 1 (2 * header_count B)) (header_factor B) → grown_len F B ≡ None
unfolding grown_len
grown_len-large F B large = go (grown_slots_of B) refl
  where
    go : (o : Option ℕ) → grown_slots_of B ≡ o → table_len F o ≡ None
    go None e = refl
    go (Some s) e = ap (λ t. then_some t (image_len F s)) (le-ltb (image_len F s) (2 ^ 64) (large s e))

-- the result of a call for the layout for that many items
pub asked_layout : (F : Format) (B : List ℕ) (n f : ℕ) → n ≡ max 1 (2 * header_count B) → f ≡ header_factor B
    → (r : Option (ℕ × ℕ)) → IfSome r (λ l. IsLayout F n f l.0 l.1) → (IsNone r → IsTooLarge F n f)
    → MatchOption r (grown_len F B ≡ None) (λ l. IsLayout F (max 1 (2 * header_count B)) (header_factor B) l.0 l.1)
asked_layout F B n f items factor (Some l) some none = subst (λ m. IsLayout F m (header_factor B) l.0 l.1) items (subst (λ t. IsLayout F n t l.0 l.1) factor some)
asked_layout F B n f items factor None some none = grown_len-large F B (subst (λ m. IsTooLarge F m (header_factor B)) items (subst (IsTooLarge F n) factor (none refl)))

-- at the load factor 0 there is none
pub none_at_zero : (F : Format) (B : List ℕ) → header_factor B ≡ 0 → grown_len F B ≡ None
none_at_zero F B zero = grown_len-large F B (λ s e. (
    let least = slots_for-IsLeastSlots _ _ s e in
    let holds : 65536 * max 1 (2 * header_count B) ≤ s * 0 = subst (λ f. 65536 * max 1 (2 * header_count B) ≤ s * f) zero least.holds in
    absurd (omega (arith, holds, le-max_left 1 (2 * header_count B)))))

-- there is none where twice the count passes 64 bits
pub none_of_many : (F : Format) (B : List ℕ) → header_factor B ≤ 65535 → 2 ^ 64 ≤ 2 * header_count B → grown_len F B ≡ None
none_of_many F B few many = grown_len-large F B (λ s e. (
    let least = slots_for-IsLeastSlots _ _ s e in
    let most : s * header_factor B ≤ s * 65535 = mul-le-mul_left s few in
    absurd (omega (arith, least.holds, most, few_slots s least.is_count, le-max_right 1 (2 * header_count B), many))))

-- of a valid table's bytes the slots are those of the table
pub grown_header : (F : Format) (P : Table) (B : List ℕ) → IsImage F P B → grown_slots_of B ≡ grown_slots P
grown_header F P B is = λ i. slots_for (max 1 (2 * count_header F P B is i)) (factor_header F P B is i)

pub grown_len-image : (F : Format) (P : Table) (B : List ℕ) → IsImage F P B → grown_len F B ≡ table_len F (grown_slots P)
unfolding grown_len
grown_len-image F P B is = ap (table_len F) (grown_header F P B is)

-- ---- the header
module _ (F : Format) (T : List ℕ) (s c f : ℕ) (front : take 32 T ≡ header_bytes F s c f) where
  split : T ≡ header_bytes F s c f ++ drop 32 T
  split = sym (take-append-drop 32 T) ∙ ap (λ h. h ++ drop 32 T) front

  -- the item count of the header
  pub headed_count : c < 2 ^ 64 → header_count T ≡ c
  headed_count fits = ap header_count split ∙ num-le_bytes 8 c fits

  -- the load factor
  pub headed_factor : f < 2 ^ 16 → header_factor T ≡ f
  headed_factor fits = ap header_factor split ∙ num-le_bytes 2 f fits

  -- and the slot count, so bytes of the length for it are accepted
  pub headed_accepted : IsSlotCount s → length T ≡ image_len F s → IsAccepted F T
  headed_accepted count long = subst (IsAccepted F) (sym split) (IsAccepted-headed F s c f (drop 32 T) count (ap length (sym split) ∙ long))
