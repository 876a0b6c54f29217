-- A look at a span of slots: first at the free ones, which have no error, and then at the others in turn.
use Rattle.std.proofs.Common.{◌≡◌, ◌∙◌, ℕ, zero, suc, ◌+◌, ◌-◌, ◌<◌, ◌≤◌, Bool, true, false, true≢false, cond, nat_lt, List, ◌∷◌, length, filter, drop, slice_get, slice_index, Contains, Option, Some, None, inl, inr, refl, sym, ap, ap₂, subst, arith}
use Rattle.std.specs.List.{range_with_len}
use Rattle.odht_raw.proofs.lemmas.Below.{cases_eq, contains_cases, contains_filter, get_or-range_with_len, index-bytes_at, length-bytes_at, length-range_with_len, none-some, some_same}
use native.Mathlib.Decide.{dec_le}
use borrow.Author.Tests.{le-leb, lt-leb, lt-ltb, le-ltb}
use Rattle.odht_raw.specs.Words.{bytes_at, counts_as_free, Format, free_in, slot_refusal_at}
use Rattle.odht_base.specs.Groups.{occupied as occupied_of}
use Rattle.odht_raw.specs.Parts.{TableParts}
use Rattle.odht_raw.specs.Summaries.{IsSummary, AreRight}
use Rattle.odht_raw.proofs.lemmas.SlotSummary.{summary_run}

-- ---- numbers of a range that are kept
module _ (t : ℕ → Bool) where
  -- those that are kept of the n numbers behind a
  abbrev behind : ℕ → ℕ → List ℕ
  behind a n = filter t (range_with_len (a + 1) n)

  -- what is said of the first that is kept, x
  pub record IsFirstKept (a n x : ℕ) (rest : List ℕ) : Type 0 where
    pub low : a ≤ x
    pub high : x < a + n
    pub kept : t x ≡ true
    pub before : (i : ℕ) → a ≤ i → i < x → t i ≡ false
    pub after : rest ≡ filter t (range_with_len (x + 1) (a + n - (x + 1)))

  pub first_kept : (a n x : ℕ) → Some x ≡ slice_get (filter t (range_with_len a n)) 0 → IsFirstKept a n x (drop 1 (filter t (range_with_len a n)))
  first_kept a zero x e = absurd (none-some x (sym e))
  first_kept a (suc n) x e = go (λ f. first_kept (a + 1) n x f) (t a) refl e
    where
      go : (Some x ≡ slice_get (behind a n) 0 → IsFirstKept (a + 1) n x (drop 1 (behind a n))) → (b : Bool) → t a ≡ b → Some x ≡ slice_get (cond b (a ∷ behind a n) (behind a n)) 0 → IsFirstKept a (suc n) x (drop 1 (cond b (a ∷ behind a n) (behind a n)))
      go later true f e =
          let is : x ≡ a = some_same x a e in
          let start : a + 1 ≡ x + 1 = omega (arith, is) in
          let many : n ≡ a + suc n - (x + 1) = omega (arith, is) in
          record {
            low = omega (arith, is);
            high = omega (arith, is);
            kept = ap t is ∙ f;
            before = λ i low high. absurd (omega (arith, low, high, is));
            after = ap₂ (λ b m. filter t (range_with_len b m)) start many;
          }
      go search false f e =
          let later = search e in
          let many : a + 1 + n - (x + 1) ≡ a + suc n - (x + 1) = omega arith in
          record {
            low = omega (arith, later.low);
            high = omega (arith, later.high);
            kept = later.kept;
            before = λ i low high. elim (cases_eq i a) [
              | inl same ↦ ap t same ∙ f
              | inr other ↦ later.before i (omega (arith, low, other)) high
            ];
            after = later.after ∙ ap (λ m. filter t (range_with_len (x + 1) m)) many;
          }

  -- where there is no first, none is kept
  pub none_kept : (a n : ℕ) → None ≡ slice_get (filter t (range_with_len a n)) 0 → (i : ℕ) → a ≤ i → i < a + n → t i ≡ false
  none_kept a zero e i low high = absurd (omega (arith, low, high))
  none_kept a (suc n) e i low high = go (λ f from. none_kept (a + 1) n f i from (omega (arith, high))) (t a) refl e
    where
      go : (None ≡ slice_get (behind a n) 0 → a + 1 ≤ i → t i ≡ false) → (b : Bool) → t a ≡ b → None ≡ slice_get (cond b (a ∷ behind a n) (behind a n)) 0 → t i ≡ false
      go later true f e = absurd (none-some a e)
      go later false f e = elim (cases_eq i a) [
        | inl same ↦ ap t same ∙ f
        | inr other ↦ later e (omega (arith, low, other))
      ]

  -- each that is kept is one of them
  pub kept_low : (a n i : ℕ) → Contains (filter t (range_with_len a n)) i → i < a + n
  kept_low a zero i c = absurd (omega (arith, c.1))
  kept_low a (suc n) i c = go (λ d. kept_low (a + 1) n i d) (t a) c
    where
      go : (Contains (behind a n) i → i < a + 1 + n) → (b : Bool) → Contains (cond b (a ∷ behind a n) (behind a n)) i → i < a + suc n
      go low true c = elim (contains_cases a (behind a n) i c) [ inl same ↦ omega (arith, same) | inr later ↦ omega (arith, low later) ]
      go low false c = omega (arith, low c)

-- so a free byte is one of its group
pub free_low : (g : List ℕ) (i : ℕ) → Contains (free_in g) i → i < length g
free_low g i c = omega (arith, kept_low (λ i. counts_as_free (slice_index g i)) 0 (length g) i c)

-- a byte that is not below 128 counts as free
is_free : (x : ℕ) → nat_lt x 128 ≡ false → counts_as_free x ≡ true
is_free x e = elim (dec_le 128 x) [ yes p ↦ le-leb 128 x p | no p ↦ absurd (true≢false (sym (lt-ltb x 128 (omega arith)) ∙ e)) ]

-- any other does not
is_other : (x : ℕ) → nat_lt x 128 ≡ true → counts_as_free x ≡ false
is_other x e = elim (dec_le 128 x) [ yes p ↦ absurd (true≢false (sym e ∙ le-ltb x 128 p)) | no p ↦ lt-leb 128 x (omega arith) ]

-- ---- the span of `size` slots from b on
module _ (F : Format) (T : TableParts) (searches : Bool) (b size : ℕ) where
  abbrev es : List ℕ
  es = T.entries.bytes

  abbrev ctrl : List ℕ
  ctrl = T.control

  abbrev group : List ℕ
  group = bytes_at ctrl b size

  abbrev other : ℕ → Bool
  other i = nat_lt (slice_index group i) 128

  -- the others of `left` are not taken yet, and of the slots before these m are occupied, and o is the first unreachable
  pub record IsSpan (left : List ℕ) (m : ℕ) (o : Option ℕ) : Type 0 where
    pub position : ℕ
    pub low : position ≤ size
    pub left_is : left ≡ filter other (range_with_len position (size - position))
    pub known : IsSummary F T searches (b + position) m o

module _ (F : Format) (T : TableParts) (searches : Bool) (b size : ℕ) (inside : b + size ≤ length T.control) where
  abbrev Span : List ℕ → ℕ → Option ℕ → Type 0
  Span left m o = IsSpan F T searches b size left m o

  abbrev bytes : List ℕ
  bytes = group F T searches b size

  long : length bytes ≡ size
  long = length-bytes_at T.control b size inside

  byte : (i : ℕ) → i < size → slice_index bytes i ≡ slice_index T.control (b + i)
  byte i l = index-bytes_at T.control b size i l

  abbrev is_occupied : ℕ → Bool
  is_occupied i = other F T searches b size i

  -- at the start
  pub span_start : (m : ℕ) (o : Option ℕ) (left : List ℕ) → IsSummary F T searches b m o → left ≡ occupied_of bytes → Span left m o
  span_start m o left known is =
      let here : b ≡ b + 0 = omega arith in
      let many : length bytes ≡ size - 0 = omega (arith, long) in
      record { position = 0; low = omega arith; left_is = is ∙ ap (λ n. filter is_occupied (range_with_len 0 n)) many; known = subst (λ n. IsSummary F T searches n m o) here known }

  module _ (right : AreRight F T b (free_in bytes)) where
    -- a slot that is none of the others has no error
    passed : (i : ℕ) → i < size → is_occupied i ≡ false → (slot_refusal_at F T.entries.bytes T.control (b + i) ≡ None) × (counts_as_free (slice_index T.control (b + i)) ≡ true)
    passed i l e =
        let free : counts_as_free (slice_index bytes i) ≡ true = is_free (slice_index bytes i) e in
        let among : i < length bytes = omega (arith, l, long) in (
          right i (contains_filter (λ j. counts_as_free (slice_index bytes j)) (range_with_len 0 (length bytes)) i
              (i, omega (arith, among, length-range_with_len 0 (length bytes)), get_or-range_with_len 0 (length bytes) i i among ∙ omega arith) free),
          ap counts_as_free (sym (byte i l)) ∙ free,
        )

    -- so the slots up to x are known where none of them is one of the others
    known_to : (p x m : ℕ) (o : Option ℕ) → p ≤ x → x ≤ size → ((i : ℕ) → p ≤ i → i < x → is_occupied i ≡ false) → IsSummary F T searches (b + p) m o → IsSummary F T searches (b + x) m o
    known_to p x m o low high none known =
        let sum : b + p + (x - p) ≡ b + x = omega (arith, low) in
        subst (λ n. IsSummary F T searches n m o) sum (summary_run F T searches (x - p) (b + p) m o known (λ i from to.
        let j : ℕ = i - b in
        let is : b + j ≡ i = omega (arith, from) in
        let here = passed j (omega (arith, to, low, high, from)) (none j (omega (arith, from)) (omega (arith, to, low, from))) in
        subst (λ k. (slot_refusal_at F T.entries.bytes T.control k ≡ None) × (counts_as_free (slice_index T.control k) ≡ true)) is here))

    -- what is known at the next of the others, x, and after it
    pub record IsNext (left : List ℕ) (m : ℕ) (o : Option ℕ) (x : ℕ) : Type 0 where
      pub within : x < size
      pub occupied : counts_as_free (slice_index T.control (b + x)) ≡ false
      pub known : IsSummary F T searches (b + x) m o
      pub after : (n : ℕ) (q : Option ℕ) → IsSummary F T searches (b + x + 1) n q → Span (drop 1 left) n q

    pub span_next : (left : List ℕ) (m : ℕ) (o : Option ℕ) (x : ℕ) → Span left m o → Some x ≡ slice_get left 0 → IsNext left m o x
    span_next left m o x span e =
        let p = span.position in
        let first = first_kept is_occupied p (size - p) x (e ∙ ap (λ xs. slice_get xs 0) span.left_is) in
        let within : x < size = omega (arith, first.high, span.low) in
        let many : p + (size - p) - (x + 1) ≡ size - (x + 1) = omega (arith, span.low) in
        record {
          within = within;
          occupied = ap counts_as_free (sym (byte x within)) ∙ is_other (slice_index bytes x) first.kept;
          known = known_to p x m o first.low (omega (arith, within)) first.before span.known;
          after = λ n q known.
              let next : b + x + 1 ≡ b + (x + 1) = omega arith in
              record {
                position = x + 1;
                low = omega (arith, within);
                left_is = ap (drop 1) span.left_is ∙ first.after ∙ ap (λ k. filter is_occupied (range_with_len (x + 1) k)) many;
                known = subst (λ k. IsSummary F T searches k n q) next known;
              };
        }

    -- and at the end
    pub span_end : (left : List ℕ) (m : ℕ) (o : Option ℕ) → Span left m o → None ≡ slice_get left 0 → IsSummary F T searches (b + size) m o
    span_end left m o span e =
        let p = span.position in
        known_to p size m o span.low (omega arith) (λ i low high. none_kept is_occupied p (size - p) (e ∙ ap (λ xs. slice_get xs 0) span.left_is) i low (omega (arith, high, span.low))) span.known
