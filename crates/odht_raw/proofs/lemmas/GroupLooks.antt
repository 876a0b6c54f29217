-- A look at some positions of the probe order: the matches that are taken in turn, then the first free slot.
use Rattle.std.proofs.Common.{◌≡◌, ◌⊎◌, ℕ, zero, suc, ◌+◌, ◌-◌, ◌*◌, ◌/◌, ◌%◌, ◌<◌, ◌≤◌, inl, inr, sym, ap, ◌∙◌, subst, refl, arith, true, false, true≢false, List, [], ◌∷◌, length, drop, slice_get, slice_index, Contains, Option, Some, None, leb-true, lt-ltb, get_or, position, Bool, add-mul, mul-le-mul_right}
use Rattle.odht_raw.proofs.lemmas.Below.{AllArrive-IsPlaced, AllPairs-from_increasing, cases_lt, contains_cases, counts_as_free-control_byte, div-mul-le_self, div-mul_cancel, dvd_of_mod-eq-zero, fails_before_first, false_from_ne_true, find-order_some, index-bytes_at, key_pair, length-bytes_at, none-some, or_from, or_left, position-order, position-Some, probe_slot-apart, probe_slot-lt, search_end-at, some_same}
use Rattle.std.specs.List.{position_or_len}
use Rattle.std.specs.List.Sorted.{IsStrictlyIncreasing}
use Rattle.std.specs.Prelude.{is_some, IfSome, IsFalse}
use Rattle.odht_raw.specs.Words.{bytes_at, cell_at, control_byte, controls, counts_as_free, first_free, Format, has_key, home, is_free, IsFormat, IsPartsOf, IsReport, IsSlotCount, reach, search_end, slot_count, slot_key, stops_at, Table, tag}
use Rattle.odht_raw.specs.SearchResults.{answer}
use Rattle.odht_raw.specs.ControlBytes.{HasNoFree, IsOther}
use Rattle.odht_raw.specs.Parts.{EntryBytes}
use Rattle.odht_raw.specs.SearchEnds.{Among, IsOtherAmong, GoesOnAmong, IsEndAmong}
use Rattle.odht_raw.specs.SearchSteps.{slot_of, Passed, IsGroupAt, EndsWithin, IsLook}
use Rattle.odht_raw.specs.declared.raw_table.search_result.Search.{Search}
use Rattle.odht_raw.specs.declared.raw_table.search_result.Search.TheVariants.{Found, Free, Neither}
use Rattle.odht_raw.proofs.lemmas.PartCells.{byte_is as control_is, key_is, cell_occupied}

-- ---- matches that are taken in turn
-- of the matches `all` those of `left` are not taken, and of each other T holds
pub record IsTaken (all left : List ℕ) (T : ℕ → Type 0) : Type 0 where
  pub part : (i : ℕ) → Contains left i → Contains all i
  pub others : (i : ℕ) → Contains all i → Contains left i ⊎ T i

-- the first that is left is one of all
pub taken-first : (all left : List ℕ) (T : ℕ → Type 0) (x : ℕ) → IsTaken all left T → Some x ≡ slice_get left 0 → Contains all x
taken-first all [] T x t e = absurd (none-some x (sym e))
taken-first all (y ∷ left) T x t e = t.part x (0, omega arith, sym (some_same x y e))

-- once it is taken, T holds of it
pub taken-next : (all left rest : List ℕ) (T : ℕ → Type 0) (x : ℕ) → IsTaken all left T → Some x ≡ slice_get left 0 → rest ≡ drop 1 left → T x → IsTaken all rest T
taken-next all [] rest T x t e d h = absurd (none-some x (sym e))
taken-next all (y ∷ left) rest T x t e d h = record {
  part = λ i c. let m = subst (λ ys. Contains ys i) d c in t.part i (suc m.0, omega (arith, m.1), m.2);
  others = λ i c. elim (t.others i c) [
    | inl more ↦ elim (contains_cases y left i more) [
      | inl same ↦ inr (subst T (some_same x y e ∙ same) h)
      | inr later ↦ inl (subst (λ ys. Contains ys i) (sym d) later)
    ]
    | inr gone ↦ inr gone
  ];
}

-- where none is left, T holds of each
pub taken-all : (all left : List ℕ) (T : ℕ → Type 0) → IsTaken all left T → None ≡ slice_get left 0 → (i : ℕ) → Contains all i → T i
taken-all all [] T t e i c = elim (t.others i c) [ inl more ↦ absurd (omega (arith, more.1)) | inr gone ↦ gone ]
taken-all all (y ∷ left) T t e i c = absurd (none-some y e)

-- of rising matches the first is the least
pub rising-first : (xs : List ℕ) (x i : ℕ) → IsStrictlyIncreasing xs → Some x ≡ slice_get xs 0 → Contains xs i → x ≤ i
rising-first [] x i h e c = absurd (none-some x (sym e))
rising-first (y ∷ xs) x i h e (zero, l, at) = omega (arith, some_same x y e, at)
rising-first (y ∷ xs) x i h e (suc k, l, at) =
    let less : y < get_or xs k i = AllPairs-from_increasing (y ∷ xs) h 0 (suc k) i (omega arith) l in
    omega (arith, some_same x y e, at, less)

-- and those behind it rise
pub rising-rest : (xs ys : List ℕ) → ys ≡ drop 1 xs → IsStrictlyIncreasing xs → IsStrictlyIncreasing ys
rising-rest [] ys e h = subst IsStrictlyIncreasing (sym e) h
rising-rest (x ∷ xs) ys e h = subst IsStrictlyIncreasing (sym e) (λ k l. let next : suc k + 1 ≡ suc (k + 1) = omega arith in subst (λ n. get_or xs k 0 < get_or (x ∷ xs) n 0) next (h (suc k) (omega arith)))

-- where no item is the first that passes, each fails
pub position-None : (t : ℕ → Bool) (xs : List ℕ) (d : ℕ) → position t xs ≡ None → (i : ℕ) → i < length xs → t (get_or xs i d) ≡ false
position-None t xs d e i l = elim (cases_lt (position_or_len t xs) (length xs)) [
  | inl within ↦ absurd (none-some (position_or_len t xs) (sym e ∙ (rw (lt-ltb (position_or_len t xs) (length xs) within) refl)))
  | inr past ↦ fails_before_first t xs i d (omega arith)
]

-- what holds of the first bytes and of the first of those behind them, holds of all these
pub among-more : (T : ℕ → ℕ → Type 0) (bs : List ℕ) (b at n size : ℕ) → n ≤ size → Among T bs b at → Among T (bytes_at bs at size) (b + at) n → Among T bs b (at + n)
among-more T bs b at n size fits before here i l = elim (cases_lt i at) [
  | inl low ↦ before i low
  | inr past ↦
      let j : ℕ = i - at in
      let is : at + j ≡ i = omega arith in
      let slot : b + at + j ≡ b + i = omega arith in
      let byte = index-bytes_at bs at size j (omega arith) ∙ ap (slice_index bs) is in
      subst (λ (x : ℕ × ℕ). T x.0 x.1) (λ t. (slot t, byte t)) (here j (omega arith))
]

-- pieces, and one more
pub among-pieces : (T : ℕ → ℕ → Type 0) (bs : List ℕ) (b n size : ℕ) → Among T bs b (n * size) → Among T (bytes_at bs (n * size) size) (b + n * size) size → Among T bs b ((n + 1) * size)
among-pieces T bs b n size before here =
    let sum : n * size + size ≡ (n + 1) * size = (let one : n * size + size ≡ n * size + 1 * size = omega arith in one) ∙ sym (add-mul n 1 size) in
    subst (Among T bs b) sum (among-more T bs b (n * size) size size (omega arith) before here)

-- pieces without a free byte, and one more
pub no_free-more : (bs : List ℕ) (n size : ℕ) → HasNoFree bs (n * size) → HasNoFree (bytes_at bs (n * size) size) size → HasNoFree bs ((n + 1) * size)
no_free-more bs n size before here = among-pieces (λ x c. counts_as_free c ≡ false) bs 0 n size before here

-- before the first that is left no byte is the tag with the key in its slot
pub other-before : (F : Format) (E : EntryBytes) (bs : List ℕ) (b : ℕ) (k all left : List ℕ) (x : ℕ) → IsReport bs (tag F k) all
    → IsTaken all left (λ i. slot_key F E.bytes ((b + i) % E.slots) ≡ k → ⊥) → IsStrictlyIncreasing left → Some x ≡ slice_get left 0 → IsOtherAmong F E bs b k x
other-before F E bs b k all left x report taken rising e j l is same =
    let inside = (report.occupied x (taken-first all left _ x taken e)).0 in
    elim (taken.others j (report.complete j (omega arith) is)) [
      | inl more ↦ omega (arith, rising-first left x j rising e more)
      | inr gone ↦ gone same
    ]

-- ---- where a search in a placed table ends
module _ (F : Format) (P : Table) (k : List ℕ) (slots : IsSlotCount (slot_count P)) where
  -- a search that ends at the slot of a position reaches this position
  pub reach-at : (n : ℕ) → n < slot_count P → search_end F P.cells k ≡ Some (slot_of F P k n) → reach F P.cells k ≡ Some n
  unfolding search_end reach
  reach-at n l e =
      let b = home F k (slot_count P) in
      let f = find-order_some (stops_at P.cells k) b (slot_count P) (slot_of F P k n) e in
      let same : f.position ≡ n = probe_slot-apart b (slot_count P) f.position n slots f.within l f.slot_is in
      position-order (stops_at P.cells k) b (slot_count P) f.position f.within (ap (stops_at P.cells k) f.slot_is ∙ f.passes) f.before ∙ ap Some same

-- ---- a look at the positions from p on
module _ (F : Format) (P : Table) (E : EntryBytes) (k : List ℕ) (p start : ℕ) (bs : List ℕ) (f : IsFormat F) (at : IsGroupAt F P E k p start bs) where
  whole : IsPartsOf F P E.bytes (controls F P.cells)
  whole = record { placed = at.placed; entries_are = at.entries_are; controls_are = refl }

  abbrev slot : ℕ → ℕ
  slot i = slot_of F P k (p + i)

  slot_low : (i : ℕ) → slot i < slot_count P
  slot_low i = probe_slot-lt (home F k (slot_count P)) (slot_count P) (p + i) (let n = at.placed.slots.least in omega arith)

  -- a byte of a free slot is free, and no other
  byte_is : (i : ℕ) → i < length bs → counts_as_free (slice_index bs i) ≡ is_free P.cells (slot i)
  byte_is i l = ap counts_as_free (at.bytes_are i l) ∙ counts_as_free-control_byte F P.cells (slot i) f at.placed.pairs

  -- a slot ends the search where its position is the reach
  ends : (i : ℕ) → i < length bs → search_end F P.cells k ≡ Some (slot i) → EndsWithin F P k p (length bs)
  ends i l e = (p + i, omega arith, omega arith, reach-at F P k at.placed.slots (p + i) (let w = at.within in omega arith) e)

  module _ (xs : List ℕ) (report : IsReport bs (tag F k) xs) where
    -- a slot with the key is among the matches
    matched : (i : ℕ) → i < length bs → has_key k (cell_at P.cells (slot i)) ≡ true → Contains xs i
    matched i l h =
        let q = key_pair k (cell_at P.cells (slot i)) h in
        report.complete i l (at.bytes_are i l ∙ ap (control_byte F) q.1 ∙ ap (tag F) (sym q.2))

    -- and its entry has the key
    entry_key : (i : ℕ) → i < length bs → has_key k (cell_at P.cells (slot i)) ≡ true → slot_key F E.bytes ((start + i) % E.slots) ≡ k
    entry_key i l h =
        let q = key_pair k (cell_at P.cells (slot i)) h in
        ap (slot_key F E.bytes) (at.slots_are i l) ∙ key_is F f P E.bytes (controls F P.cells) whole (slot i) q.0 q.1 ∙ sym q.2

    -- a match whose entry has the key ends the search
    pub look_found : (i : ℕ) → Contains xs i → slot_key F E.bytes ((start + i) % E.slots) ≡ k → (Found ((start + i) % E.slots) ≡ answer F P.cells k) × EndsWithin F P k p (length bs)
    unfolding answer
    look_found i c same =
        let b = report.occupied i c in
        let occupied : is_free P.cells (slot i) ≡ false = sym (byte_is i b.0) ∙ false_from_ne_true _ (λ t. let m = leb-true 128 (slice_index bs i) t in omega (arith, b.1)) in
        let cell = cell_occupied F f P E.bytes (controls F P.cells) whole (slot i) (slot_low i) (control_is F f P E.bytes (controls F P.cells) whole (slot i) (slot_low i) ∙ occupied) in
        let key : slot_key F E.bytes (slot i) ≡ k = ap (slot_key F E.bytes) (sym (at.slots_are i b.0)) ∙ same in
        let e : search_end F P.cells k ≡ Some (slot i) = ap (search_end F P.cells) (sym key) ∙ AllArrive-IsPlaced F P at.placed (slot i) _ cell in
        (rw (at.slots_are i b.0, e, occupied) refl, ends i b.0 e)

    module _ (others : (i : ℕ) → Contains xs i → slot_key F E.bytes ((start + i) % E.slots) ≡ k → ⊥) where
      -- where no match has the key, no slot has
      no_key : (i : ℕ) → i < length bs → has_key k (cell_at P.cells (slot i)) ≡ false
      no_key i l = false_from_ne_true _ (λ h. others i (matched i l h) (entry_key i l h))

      -- so the positions up to a free one are passed
      passed_to : (n : ℕ) → n ≤ length bs → ((i : ℕ) → i < n → counts_as_free (slice_index bs i) ≡ false) → Passed F P k (p + n)
      passed_to n l occupied q lq = elim (cases_lt q p) [
        | inl before ↦ at.passed q before
        | inr here ↦
            let i : ℕ = q - p in
            let e : p + i ≡ q = omega arith in
            subst (λ m. stops_at P.cells k (slot_of F P k m) ≡ false) e (or_from _ _ (sym (byte_is i (omega arith)) ∙ occupied i (omega arith)) (no_key i (omega arith)))
      ]

      -- the first free slot ends the search
      pub look_free : (i : ℕ) → first_free bs ≡ Some i → (Free ((start + i) % E.slots) ≡ answer F P.cells k) × EndsWithin F P k p (length bs)
      unfolding answer
      look_free i e =
          let q = position-Some counts_as_free bs i 0 e in
          let free : is_free P.cells (slot i) ≡ true = sym (byte_is i q.0) ∙ q.1 in
          let w = at.within in
          let d = search_end-at F P.cells k (p + i) (omega (arith, q.0)) (passed_to i (omega (arith, q.0)) q.2) (or_left _ _ free) in
          (rw (at.slots_are i q.0, d, free) refl, ends i q.0 d)

      -- where none is free, the search goes on
      pub look_on : first_free bs ≡ None → Passed F P k (p + length bs)
      look_on e = passed_to (length bs) (omega arith) (position-None counts_as_free bs 0 e)

-- ---- pieces of a group of sixteen
-- a piece fits the group
pub piece-fits : (g n : ℕ) → n < 16 / g → n * g + g ≤ 16
piece-fits g n l =
    let within : 16 / g * g ≤ 16 = div-mul-le_self 16 g in
    let h : (n + 1) * g ≤ 16 / g * g = mul-le-mul_right g (omega arith) in
    let sum : (n + 1) * g ≡ n * g + g = add-mul n 1 g ∙ (let one : n * g + 1 * g ≡ n * g + g = omega arith in one) in
    omega arith

-- and all pieces are the group
pub pieces-all : (g n : ℕ) → 16 % g ≡ 0 → n ≡ 16 / g → n * g ≡ 16
pieces-all g n e l = ap (λ m. m * g) l ∙ div-mul_cancel g (dvd_of_mod-eq-zero g e)

-- the search is at a piece once it passed those before
pub IsGroupAt-piece : (F : Format) (P : Table) (E : EntryBytes) (k : List ℕ) (p start : ℕ) (bs : List ℕ) (at n : ℕ) → at + n ≤ length bs → IsGroupAt F P E k p start bs → Passed F P k (p + at)
    → IsGroupAt F P E k (p + at) (start + at) (bytes_at bs at n)
IsGroupAt-piece F P E k p start bs at n l s passed =
    let len = length-bytes_at bs at n l in
    let w = s.within in
    record {
      placed = s.placed;
      slots = s.slots;
      entries_are = s.entries_are;
      passed = passed;
      within = omega arith;
      slots_are = λ i h.
          let here : start + at + i ≡ start + (at + i) = omega arith in
          let there : p + (at + i) ≡ p + at + i = omega arith in
          ap (λ x. x % E.slots) here ∙ s.slots_are (at + i) (omega arith) ∙ ap (slot_of F P k) there;
      bytes_are = λ i h.
          let there : p + (at + i) ≡ p + at + i = omega arith in
          index-bytes_at bs at n i (omega arith) ∙ s.bytes_are (at + i) (omega arith) ∙ ap (λ q. control_byte F (cell_at P.cells (slot_of F P k q))) there;
    }

-- an answer of a piece is one of the group
pub look-piece : (F : Format) (P : Table) (k : List ℕ) (p at n : ℕ) (r : Option Search) → at + n ≤ 16 → is_some r ≡ true → IsLook F P k (p + at) n r → IsLook F P k p 16 r
look-piece F P k p at n None l some look = absurd (true≢false (sym some))
look-piece F P k p at n (Some a) l some look = (look.0, (look.1.0, omega (arith, look.1.1), omega (arith, look.1.2), look.1.3))

-- where a look at a part of a group ends, after one at the parts before, is where one at the group ends
pub end-piece : (F : Format) (E : EntryBytes) (bs : List ℕ) (start at n : ℕ) (k : List ℕ) (r : Option Search) → at + n ≤ 16 → GoesOnAmong F E bs start k at
    → IfSome r (IsEndAmong F E (bytes_at bs at n) (start + at) n k) → IfSome r (IsEndAmong F E bs start 16 k)
end-piece F E bs start at n k None l on end = end
end-piece F E bs start at n k (Some (Found i)) l on (j, below, place, key, other) =
    let sum : start + at + j ≡ start + (at + j) = omega arith in (
      at + j,
      omega (arith, below),
      place ∙ ap (λ q. q % E.slots) sum,
      key,
      among-more (λ x c. IsOther F E k (x % E.slots) c) bs start at j n (omega (arith, below)) (λ m h. (on m h).1) other,
    )
end-piece F E bs start at n k (Some (Free i)) l on (j, below, place, free, more) =
    let sum : start + at + j ≡ start + (at + j) = omega arith in (
      at + j,
      omega (arith, below),
      place ∙ ap (λ q. q % E.slots) sum,
      ap counts_as_free (sym (index-bytes_at bs at n j below)) ∙ free,
      among-more (λ x c. IsFalse (counts_as_free c) × IsOther F E k (x % E.slots) c) bs start at j n (omega (arith, below)) on more,
    )
end-piece F E bs start at n k (Some Neither) l on end = end

-- without an answer its positions are passed
pub look-none : (F : Format) (P : Table) (k : List ℕ) (p n : ℕ) (r : Option Search) → is_some r ≡ false → IsLook F P k p n r → Passed F P k (p + n)
look-none F P k p n None none look = look
look-none F P k p n (Some a) none look = absurd (true≢false none)
