-- The list of all occupied slots, as it is made, a span at a time.
use Rattle.std.proofs.Common.{◌≡◌, ◌<◌, ◌≤◌, ◌+◌, ◌^◌, ◌∙◌, inl, inr, ℕ, zero, suc, Bool, true, false, not, cond, nat_lt, sym, ap, ap₂, subst, refl, List, [], ◌∷◌, ◌++◌, Option, Some, None, map, filter, length, take, drop, set, slice_index, slice_get, Contains, append_assoc, lt-ltb, le-ltb, le-leb, arith}
use Rattle.std.specs.Prelude.{is_some, is_none}
use Rattle.std.specs.List.{range_with_len}
use Rattle.odht_raw.proofs.lemmas.Below.{cases_lt, filter-append, index-bytes_at, length-bytes_at, length-map, length-occupied, length-set, length-take, length-take-le, lt-leb, map-append, map-map, take-append-le, take_all, take_more_set}
use native.Mathlib.Decide.{dec_le}
use Rattle.odht_raw.specs.Words.{bytes_at, cell_at, count, counts_as_free, is_free, occupied, Pair, slot_count, Table}
use Rattle.odht_base.specs.Groups.{occupied as occupied_of}
use Rattle.odht_raw.specs.Waiting.{waiting}
use Rattle.odht_raw.proofs.lemmas.SpanLooks.{kept_low}
use Rattle.odht_raw.proofs.lemmas.Walks.{range-append, list-first}

-- ---- the occupied slots below a slot
-- tests that agree below a + n keep the same numbers of the n from a on
filter_agree_below : (p q : ℕ → Bool) (a n : ℕ) → ((i : ℕ) → i < a + n → p i ≡ q i) → filter p (range_with_len a n) ≡ filter q (range_with_len a n)
filter_agree_below p q a zero h = refl
filter_agree_below p q a (suc n) h =
    ap₂ (λ b xs. cond b (a ∷ xs) xs) (h a (omega arith)) (filter_agree_below p q (a + 1) n (λ i l. h i (omega (arith, l))))

-- the slots below n whose control bytes do not count as free
abbrev pub taken_below : List ℕ → ℕ → List ℕ
taken_below ctrl n = filter (λ i. not (counts_as_free (slice_index ctrl i))) (range_with_len 0 n)

-- numbers of a range that are kept, and those that are kept of the range from n on
kept_behind : (p q : ℕ → Bool) (n a k : ℕ) → ((i : ℕ) → i < a + k → p (n + i) ≡ q i) → filter p (range_with_len (n + a) k) ≡ map (λ i. n + i) (filter q (range_with_len a k))
kept_behind p q n a zero same = refl
kept_behind p q n a (suc k) same =
    let next : n + a + 1 ≡ n + (a + 1) = omega arith in
    let rest = ap (λ b. filter p (range_with_len b k)) next ∙ kept_behind p q n (a + 1) k (λ i l. same i (omega (arith, l))) in
    ap₂ (λ b xs. cond b ((n + a) ∷ xs) xs) (same a (omega arith)) rest ∙ go (q a)
  where
    go : (b : Bool) → cond b ((n + a) ∷ map (λ i. n + i) (filter q (range_with_len (a + 1) k))) (map (λ i. n + i) (filter q (range_with_len (a + 1) k)))
        ≡ map (λ i. n + i) (cond b (a ∷ filter q (range_with_len (a + 1) k)) (filter q (range_with_len (a + 1) k)))
    go true = refl
    go false = refl

-- a byte does not count as free exactly where it is below 128
other_byte : (x : ℕ) → not (counts_as_free x) ≡ nat_lt x 128
other_byte x = elim (dec_le 128 x) [
  | yes p ↦ ap not (le-leb 128 x p) ∙ sym (le-ltb x 128 p)
  | no p ↦ let low : x < 128 = omega (arith, p) in ap not (lt-leb 128 x low) ∙ sym (lt-ltb x 128 low)
]

-- the index of such a byte is one of its group
pub occupied_low : (g : List ℕ) (i : ℕ) → Contains (occupied_of g) i → i < length g
occupied_low g i c = omega (arith, kept_low (λ j. nat_lt (slice_index g j) 128) 0 (length g) i c)

-- those of a span more
taken_more : (ctrl : List ℕ) (n k : ℕ) → n + k ≤ length ctrl → taken_below ctrl (n + k) ≡ taken_below ctrl n ++ map (λ i. n + i) (occupied_of (bytes_at ctrl n k))
taken_more ctrl n k inside =
    let t : ℕ → Bool = λ i. not (counts_as_free (slice_index ctrl i)) in
    let u : ℕ → Bool = λ i. nat_lt (slice_index (bytes_at ctrl n k) i) 128 in
    let start : 0 + n ≡ n + 0 = omega arith in
    ap (filter t) (range-append 0 n k)
    ∙ filter-append t (range_with_len 0 n) (range_with_len (0 + n) k)
    ∙ ap (λ xs. taken_below ctrl n ++ xs)
    (ap (λ b. filter t (range_with_len b k)) start
    ∙ kept_behind t u n 0 k (λ i l. other_byte (slice_index ctrl (n + i)) ∙ ap (λ x. nat_lt x 128) (sym (index-bytes_at ctrl n k i (omega (arith, l)))))
    ∙ ap (λ m. map (λ i. n + i) (filter u (range_with_len 0 m))) (sym (length-bytes_at ctrl n k inside)))

-- the first n of a list whose own first n are taken before
take_twice : (n : ℕ) (xs ys : List ℕ) → take n (take n xs ++ ys) ≡ take n (xs ++ ys)
take_twice n xs ys = elim (cases_lt n (length xs)) [
  | inl many ↦
      let all : length (take n xs) ≡ n = length-take-le n xs (omega (arith, many)) in
      take-append-le n (take n xs) ys (omega (arith, all)) ∙ take_all n (take n xs) (omega (arith, all)) ∙ sym (take-append-le n xs ys (omega (arith, many)))
  | inr few ↦ ap (λ zs. take n (zs ++ ys)) (take_all n xs few)
]

-- ---- the list of them
-- the first m of `out` list the taken slots below n, as far as there is room
pub record IsListedBelow (ctrl : List ℕ) (n : ℕ) (out : List ℕ) (m : ℕ) : Type 0 where
  pub room : m ≤ length out
  pub listed : take m out ≡ take (length out) (map waiting (taken_below ctrl n))

module _ (ctrl : List ℕ) where
  -- with those of a span behind them, as far as there is room
  pub listed_span : (n k : ℕ) (out new : List ℕ) (m r : ℕ) → n + k ≤ length ctrl → length new ≡ length out → r ≤ length new
      → take r new ≡ take (length new) (take m out ++ map (λ i. waiting (n + i)) (occupied_of (bytes_at ctrl n k)))
      → IsListedBelow ctrl n out m → IsListedBelow ctrl (n + k) new r
  listed_span n k out new m r inside same room more h = record {
    room = room;
    listed =
        more
        ∙ ap (λ xs. take (length new) (xs ++ map (λ i. waiting (n + i)) marks)) (h.listed ∙ ap (λ l. take l (map waiting (taken_below ctrl n))) (sym same))
        ∙ take_twice (length new) (map waiting (taken_below ctrl n)) (map (λ i. waiting (n + i)) marks)
        ∙ ap (take (length new)) (sym all);
  }
    where
      marks : List ℕ
      marks = occupied_of (bytes_at ctrl n k)

      all : map waiting (taken_below ctrl (n + k)) ≡ map waiting (taken_below ctrl n) ++ map (λ i. waiting (n + i)) marks
      all =
          ap (map waiting) (taken_more ctrl n k inside)
          ∙ map-append waiting (taken_below ctrl n) (map (λ i. n + i) marks)
          ∙ ap (λ xs. map waiting (taken_below ctrl n) ++ xs) (map-map waiting (λ i. n + i) marks)

  -- at the end, where there is room for as many as P has pairs
  pub listed_all : (P : Table) (out : List ℕ) (m : ℕ)
      → ((i : ℕ) → i < slot_count P → counts_as_free (slice_index ctrl i) ≡ is_free P.cells i)
      → length out ≡ count P
      → IsListedBelow ctrl (slot_count P) out m
      → out ≡ map waiting (occupied P)
  listed_all P out m same room h =
      sym (take_all m out (omega (arith, whole)))
      ∙ h.listed
      ∙ ap (λ xs. take (length out) (map waiting xs)) all
      ∙ take_all (length out) (map waiting (occupied P)) (omega (arith, long))
    where
      ws : List ℕ
      ws = map waiting (occupied P)

      agree : (c : Option Pair) (b : Bool) → b ≡ is_none c → not b ≡ is_some c
      agree None b e = ap not e
      agree (Some p) b e = ap not e

      all : taken_below ctrl (slot_count P) ≡ occupied P
      all = filter_agree_below _ _ 0 (slot_count P) (λ i l. agree (cell_at P.cells i) _ (same i (omega (arith, l))))

      long : length ws ≡ length out
      long = length-map (occupied P) waiting ∙ length-occupied P ∙ sym room

      whole : m ≡ length out
      whole =
          let at = length-take-le m out h.room in
          let same = ap length (h.listed ∙ ap (λ xs. take (length out) (map waiting xs)) all) in
          let least = length-take (length out) ws in
          omega (arith, at, same, least, long)

-- ---- marked slots, as they are listed
-- that many of `out` list what was listed before, and the marked slots but those that are left, as far as there is room
pub record IsListing (start : ℕ) (before marks left out : List ℕ) (listed : ℕ) : Type 0 where
  pub room : listed ≤ length out
  pub low : (i : ℕ) → Contains left i → start + i < 2 ^ 63
  pub same : take (length out) (take listed out ++ map (λ i. waiting (start + i)) left) ≡ take (length out) (before ++ map (λ i. waiting (start + i)) marks)

module _ (start : ℕ) (before marks left out : List ℕ) (listed x : ℕ) (h : IsListing start before marks left out listed) (first : Some x ≡ slice_get left 0) where
  abbrev listed_as : ℕ → ℕ
  listed_as i = waiting (start + i)

  left_is : left ≡ x ∷ drop 1 left
  left_is = list-first left x first

  -- the next one is a slot
  pub listing_low : start + x < 2 ^ 63
  listing_low = h.low x (subst (λ xs. Contains xs x) (sym left_is) (0, omega arith, refl))

  later : (i : ℕ) → Contains (drop 1 left) i → start + i < 2 ^ 63
  later i c = h.low i (subst (λ xs. Contains xs i) (sym left_is) (suc c.0, omega (arith, c.1), c.2))

  -- it is listed
  pub listing_next : listed < length out → IsListing start before marks (drop 1 left) (set out listed (listed_as x)) (listed + 1)
  listing_next l = record {
    room = omega (arith, l, long);
    low = later;
    same =
        ap (λ n. take n (take (listed + 1) (set out listed (listed_as x)) ++ map listed_as (drop 1 left))) long
        ∙ ap (λ xs. take (length out) (xs ++ map listed_as (drop 1 left))) (take_more_set out listed (listed_as x) l)
        ∙ ap (take (length out)) (append_assoc (take listed out) (listed_as x ∷ []) (map listed_as (drop 1 left)))
        ∙ ap (λ xs. take (length out) (take listed out ++ map listed_as xs)) (sym left_is)
        ∙ h.same
        ∙ ap (λ n. take n (before ++ map listed_as marks)) (sym long);
  }
    where
      long : length (set out listed (listed_as x)) ≡ length out
      long = length-set out listed (listed_as x)

  -- or there is no room for it
  pub listing_full : length out ≤ listed → IsListing start before marks (drop 1 left) out listed
  listing_full full = record {
    room = h.room;
    low = later;
    same =
        let all : length out ≤ length (take listed out) = omega (arith, length-take-le listed out h.room, full) in
        take-append-le (length out) (take listed out) (map listed_as (drop 1 left)) all
        ∙ sym (take-append-le (length out) (take listed out) (map listed_as left) all)
        ∙ h.same;
  }
