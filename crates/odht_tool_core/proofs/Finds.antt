-- The search for tables inside some bytes.
use Rattle.std.proofs.Common.{◌≡◌, ◌∙◌, inl, inr, ℕ, zero, suc, ◌+◌, ◌-◌, ◌<◌, ◌≤◌, true, false, true≢false, not, ◌&&◌, is_none, List, [], ◌∷◌, ◌++◌, Option, Some, None, length, length-drop, take, drop, map, sum, get_or, append_assoc, append-nil, sym, ap, ap₂, subst, refl, arith, if◌then◌else◌}
use Rattle.std.specs.List.{range_with_len}
use Rattle.std.proofs.lemmas.Bool.{and_parts, cases_lt}
use Rattle.std.proofs.lemmas.List.{get_or-take, get_or-drop, get_or_past, map-append}
use Rattle.std.proofs.lemmas.List.Sums.{fold-append}
use Rattle.odht_base.specs.Bytes.{bytes_at}
use Rattle.odht_base.specs.Decoded.{header_slots}
use Rattle.odht_header.specs.Refusals.{lists_differ}
use Rattle.odht_header.specs.declared.error.Error.{Error}
use Rattle.odht_header.specs.declared.error.Error.TheVariants.{WrongTag}
use Rattle.odht_header.proofs.lemmas.FirstErrors.{gives-None, lists_differ-false}
use Rattle.odht_tool_core.specs.Finds.{has_fields, has_front, has_controls, is_table, is_false, AreNone, AreTables, false_slots_at, false_between, false_slots}
use Rattle.odht_tool_core.specs.InfoNumbers.{info_refusal}
use Rattle.odht_tool_core.specs.Fronts.{stated_len, front_refusal, table_front}
use Rattle.odht_tool_core.proofs.Fronts.{front_tag}
use Rattle.odht_tool_core.proofs.Counting.{range_more}

-- ---- what bytes begin with
pub no_front : (B : List ℕ) → has_front B ≡ false → (is_table B ≡ false) × (is_false B ≡ false)
unfolding is_table is_false
no_front B e = (ap (λ b. b && has_controls (take (stated_len B) B)) e, ap (λ b. b && not (has_controls (take (stated_len B) B))) e)

pub a_table : (B : List ℕ) → has_front B ≡ true → has_controls (take (stated_len B) B) ≡ true → is_table B ≡ true
unfolding is_table
a_table B e f = ap₂ (λ a b. a && b) e f

pub not_table : (B : List ℕ) → has_front B ≡ true → has_controls (take (stated_len B) B) ≡ false → (is_table B ≡ false) × (is_false B ≡ true)
unfolding is_table is_false
not_table B e f = (ap₂ (λ a b. a && b) e f, ap₂ (λ a b. a && not b) e f)

-- where the first byte is another there is no table
pub other_first : (B : List ℕ) (at : ℕ) → (get_or B at 0 ≡ 79 → ⊥) → (is_table (drop at B) ≡ false) × (is_false (drop at B) ≡ false)
other_first B at other = no_front (drop at B) (ap (λ b. b && has_fields (drop at B)) (go (front_refusal (drop at B)) refl))
  where
    go : (o : Option Error) → front_refusal (drop at B) ≡ o → is_none (front_refusal (drop at B)) ≡ false
    go (Some x) e = ap is_none e
    go None e =
        let tag = front_tag (drop at B) e in
        let word = bytes_at (drop at B) 0 4 in
        let same = lists_differ-false word (79 ∷ 68 ∷ 72 ∷ 84 ∷ []) (gives-None (lists_differ word (79 ∷ 68 ∷ 72 ∷ 84 ∷ [])) (WrongTag word) tag) in
        let here : at + 0 ≡ at = omega arith in
        absurd (other (sym (ap (λ i. get_or B i 0) here) ∙ sym (get_or-drop at B 0 0) ∙ sym (get_or-take 4 (drop at B) 0 0 (omega arith)) ∙ ap (λ w. get_or w 0 0) same))

-- ---- the slots of false headers
-- one place more
between_more : (B : List ℕ) (p q : ℕ) → p ≤ q → false_between B p (q + 1) ≡ false_between B p q + false_slots_at B q
between_more B p q l =
    let count : q + 1 - p ≡ q - p + 1 = omega (arith, l) in
    let last : p + (q - p) ≡ q = omega (arith, l) in
    ap (λ n. sum (map (false_slots_at B) (range_with_len p n))) count
    ∙ ap (λ is. sum (map (false_slots_at B) is)) (range_more p (q - p) ∙ ap (λ k. range_with_len p (q - p) ++ (k ∷ [])) last)
    ∙ ap sum (map-append (false_slots_at B) (range_with_len p (q - p)) (q ∷ []))
    ∙ sum_end (map (false_slots_at B) (range_with_len p (q - p))) (false_slots_at B q)
  where
    sum_end : (xs : List ℕ) (x : ℕ) → sum (xs ++ (x ∷ [])) ≡ sum xs + x
    sum_end xs x = fold-append ◌+◌ 0 xs (x ∷ [])

-- no place at all
between_none : (B : List ℕ) (p q : ℕ) → q ≤ p → false_between B p q ≡ 0
between_none B p q l = let none : q - p ≡ 0 = omega (arith, l) in ap (λ n. sum (map (false_slots_at B) (range_with_len p n))) none

-- they are no fewer further on
between_up : (B : List ℕ) (p q k : ℕ) → p ≤ q → false_between B p q ≤ false_between B p (q + k)
between_up B p q zero l = let e : q + 0 ≡ q = omega arith in let s = ap (false_between B p) e in omega (arith, s)
between_up B p q (suc k) l =
    let e : q + suc k ≡ (q + k) + 1 = omega arith in
    let s = ap (false_between B p) e ∙ between_more B p (q + k) (omega (arith, l)) in
    omega (arith, s, between_up B p q k l)

false_at : (B : List ℕ) (n : ℕ) → is_false (drop n B) ≡ true → false_slots_at B n ≡ header_slots (drop n B)
false_at B n e = ap (λ b. if b then header_slots (drop n B) else 0) e

no_false_at : (B : List ℕ) (n : ℕ) → is_false (drop n B) ≡ false → false_slots_at B n ≡ 0
no_false_at B n e = ap (λ b. if b then header_slots (drop n B) else 0) e

-- ---- the search of all tables the ones from p on: their headers that are false, before `at` and after it, are all
-- that the file has except those that are counted
pub record AreLeft (B : List ℕ) (at next slots : ℕ) (all : List ℕ) : Type 0 where
  pub left : List ℕ
  pub tables : AreTables B next left
  pub counted : false_slots B 0 all + false_between B next at ≡ slots + false_slots B next left

-- the bytes before `at` are searched: `next` is where the last table ends, and `slots` are those of false headers so far
pub record IsSearched (B : List ℕ) (at next slots : ℕ) (found : List ℕ) : Type 0 where
  pub tables : (ts : List ℕ) → AreTables B next ts → AreTables B 0 (found ++ ts)
  pub none : AreNone B next at
  pub rest : (all : List ℕ) → AreTables B 0 all → AreLeft B at next slots all
  pub few : slots ≤ length B
  pub within : next ≤ length B

pub none_searched : (B found : List ℕ) → found ≡ [] → IsSearched B 0 0 0 found
none_searched B found e = record {
  tables = λ ts h. subst (λ f. AreTables B 0 (f ++ ts)) (sym e) h;
  none = λ i l m. absurd (omega (arith, m));
  rest = λ all h. record { left = all; tables = h; counted = omega (arith, between_none B 0 0 (omega arith)) };
  few = omega arith;
  within = omega arith;
}

-- the same of equal numbers and lists
pub same_searched : (B : List ℕ) (at next slots n s : ℕ) (found f : List ℕ) → n ≡ next → s ≡ slots → f ≡ found → IsSearched B at next slots found → IsSearched B at n s f
same_searched B at next slots n s found f p q r h = rw p (rw q (rw r h))

-- behind the last byte no table begins
pub none_past : (B : List ℕ) (t : ℕ) → length B ≤ t → is_table (drop t B) ≡ false
none_past B t l = (other_first B t (λ e. absurd (let past : get_or B t 0 ≡ 0 = get_or_past B t 0 l in omega (arith, past, e)))).0

module _ (B : List ℕ) (at next slots : ℕ) (found : List ℕ) (h : IsSearched B at next slots found) where
  -- the next byte is inside the last table
  pub inside_searched : at < next → IsSearched B (at + 1) next slots found
  inside_searched l = record {
    tables = h.tables;
    none = λ i m n. absurd (omega (arith, l, m, n));
    rest = λ all g. let r = h.rest all g in record {
      left = r.left;
      tables = r.tables;
      counted = omega (arith, r.counted, between_none B next at (omega (arith, l)), between_none B next (at + 1) (omega (arith, l)));
    };
    few = h.few;
    within = h.within;
  }

  none_more : is_table (drop at B) ≡ false → AreNone B next (at + 1)
  none_more e i m n = elim (cases_lt i at) [
    | inl low ↦ h.none i m low
    | inr high ↦ (let same : i ≡ at = omega (arith, high, n) in ap (λ k. is_table (drop k B)) same ∙ e)
  ]

  -- those that are left where that many slots more are counted
  left_more : (n : ℕ) → next ≤ at → false_slots_at B at ≡ n → (all : List ℕ) → AreTables B 0 all → AreLeft B (at + 1) next (slots + n) all
  left_more n l is all g = let r = h.rest all g in record { left = r.left; tables = r.tables; counted = omega (arith, r.counted, between_more B next at l, is) }

  -- nothing begins at it
  pub nothing_searched : next ≤ at → is_table (drop at B) ≡ false → is_false (drop at B) ≡ false → IsSearched B (at + 1) next slots found
  nothing_searched l e f = record {
    tables = h.tables;
    none = none_more e;
    rest = λ all g. let same : slots + 0 ≡ slots = omega arith in subst (λ s. AreLeft B (at + 1) next s all) same (left_more 0 l (no_false_at B at f) all g);
    few = h.few;
    within = h.within;
  }

  -- a header begins at it, and no table
  module _ (n : ℕ) (l : next ≤ at) (e : is_table (drop at B) ≡ false) (f : is_false (drop at B) ≡ true) (is : n ≡ header_slots (drop at B)) where
    false_left : (all : List ℕ) → AreTables B 0 all → AreLeft B (at + 1) next (slots + n) all
    false_left = left_more n l (false_at B at f ∙ sym is)

    pub false_searched : slots + n ≤ length B → IsSearched B (at + 1) next (slots + n) found
    false_searched few = record { tables = h.tables; none = none_more e; rest = false_left; few = few; within = h.within }

    -- no fewer slots are those of all false headers
    pub too_many : at < length B → length B < slots + n → (all : List ℕ) → AreTables B 0 all → length B < false_slots B 0 all
    too_many low many all g = let r = false_left all g in omega (arith, many, r.counted, up r.left r.tables)
      where
        up : (ts : List ℕ) → AreTables B next ts → false_between B next (at + 1) ≤ false_slots B next ts
        up [] g = let s : at + 1 + (length B - (at + 1)) ≡ length B = omega (arith, low) in omega (arith, ap (false_between B next) s, between_up B next (at + 1) (length B - (at + 1)) (omega (arith, l)))
        up (t ∷ ts) g = elim (cases_lt at t) [
          | inl later ↦ (let s : at + 1 + (t - (at + 1)) ≡ t = omega (arith, later) in omega (arith, ap (false_between B next) s, between_up B next (at + 1) (t - (at + 1)) (omega (arith, l))))
          | inr early ↦ absurd (true≢false (sym g.2 ∙ none_more e t g.0 (omega (arith, early))))
        ]

  -- a table begins at it
  pub table_searched : (n : ℕ) (more : List ℕ) → next ≤ at → is_table (drop at B) ≡ true → n ≡ stated_len (drop at B) → at + n ≤ length B → more ≡ found ++ (at ∷ []) → IsSearched B (at + 1) (at + n) slots more
  table_searched n more l e is most added = record {
    tables = λ ts g. subst (λ f. AreTables B 0 (f ++ ts)) (sym added)
        (subst (AreTables B 0) (sym (append_assoc found (at ∷ []) ts)) (h.tables (at ∷ ts) (l, h.none, e, subst (λ k. AreTables B (at + k) ts) is g)));
    none = λ i m k. absurd (omega (arith, m, k, some));
    rest = λ all g. let r = h.rest all g in next_left all r.left r.tables r.counted;
    few = h.few;
    within = most;
  }
    where
      some : 1 ≤ n
      some = omega (arith, is)

      -- it is the first of those that are left
      next_left : (all ts : List ℕ) → AreTables B next ts → false_slots B 0 all + false_between B next at ≡ slots + false_slots B next ts → AreLeft B (at + 1) (at + n) slots all
      next_left all [] g counted = absurd (true≢false (sym e ∙ g at l (omega (arith, some, most))))
      next_left all (t ∷ ts) g counted = elim (cases_lt t at) [
        | inl early ↦ absurd (true≢false (sym g.2 ∙ h.none t g.0 early))
        | inr late ↦ elim (cases_lt at t) [
          | inl later ↦ absurd (true≢false (sym e ∙ g.1 at l later))
          | inr same ↦ (
              let here : t ≡ at = omega (arith, late, same) in
              let end : t + stated_len (drop t B) ≡ at + n = ap (λ k. k + stated_len (drop k B)) here ∙ ap (λ k. at + k) (sym is) in
              record {
                left = ts;
                tables = subst (λ k. AreTables B k ts) end g.3;
                counted = omega (arith, counted, ap (false_between B next) here, ap (λ k. false_slots B k ts) end, between_none B (at + n) (at + 1) (omega (arith, some)));
              })
        ]
      ]

  -- all is searched
  pub all_searched : length B ≤ at → AreTables B 0 found
  all_searched l = subst (AreTables B 0) (append-nil found) (h.tables [] (λ i m n. h.none i m (omega (arith, l, n))))

  -- and the slots of all false headers are counted
  pub all_counted : length B ≡ at → false_slots B 0 found ≤ length B
  all_counted l = let r = h.rest found (all_searched (omega (arith, l))) in go r.left r.tables r.counted
    where
      go : (ts : List ℕ) → AreTables B next ts → false_slots B 0 found + false_between B next at ≡ slots + false_slots B next ts → false_slots B 0 found ≤ length B
      go [] g counted = omega (arith, counted, ap (false_between B next) l, h.few)
      go (t ∷ ts) g counted = elim (cases_lt t at) [
        | inl early ↦ absurd (true≢false (sym g.2 ∙ h.none t g.0 early))
        | inr late ↦ absurd (true≢false (sym g.2 ∙ none_past B t (omega (arith, l, late))))
      ]

-- ---- several bytes further
-- inside of the last table
pub inside_further : (B : List ℕ) (at next slots : ℕ) (found : List ℕ) (k : ℕ) → at + k ≤ next → IsSearched B at next slots found → IsSearched B (at + k) next slots found
inside_further B at next slots found zero l h = let e : at ≡ at + 0 = omega arith in subst (λ a. IsSearched B a next slots found) e h
inside_further B at next slots found (suc k) l h =
    let e : at + k + 1 ≡ at + suc k = omega arith in
    subst (λ a. IsSearched B a next slots found) e
    (inside_searched B (at + k) next slots found (inside_further B at next slots found k (omega (arith, l)) h) (omega (arith, l)))

-- past bytes with which no table begins
pub others_passed : (B : List ℕ) (at next slots : ℕ) (found : List ℕ) (k : ℕ) → next ≤ at → ((i : ℕ) → at ≤ i → i < at + k → get_or B i 0 ≡ 79 → ⊥)
    → IsSearched B at next slots found → IsSearched B (at + k) next slots found
others_passed B at next slots found zero l others h = let e : at ≡ at + 0 = omega arith in subst (λ a. IsSearched B a next slots found) e h
others_passed B at next slots found (suc k) l others h =
    let before = others_passed B at next slots found k l (λ i m n. others i m (omega (arith, n))) h in
    let none = other_first B (at + k) (others (at + k) (omega arith) (omega arith)) in
    let e : at + k + 1 ≡ at + suc k = omega arith in
    subst (λ a. IsSearched B a next slots found) e (nothing_searched B (at + k) next slots found before (omega (arith, l)) none.0 none.1)

-- ---- the search goes on behind the last table: where all bytes before `at` are searched
pub record IsSearchedTo (B : List ℕ) (at slots : ℕ) (found : List ℕ) : Type 0 where
  pub next : ℕ
  pub before : next ≤ at
  pub within : at ≤ length B
  pub searched : IsSearched B at next slots found

-- the same of equal numbers and lists
pub same_searched_to : (B : List ℕ) (at slots a s : ℕ) (found f : List ℕ) → a ≡ at → s ≡ slots → f ≡ found → IsSearchedTo B at slots found → IsSearchedTo B a s f
same_searched_to B at slots a s found f p q r h = rw p (rw q (rw r h))

module _ (B : List ℕ) (at slots : ℕ) (found : List ℕ) (h : IsSearchedTo B at slots found) where
  -- a table begins at the byte: the search goes on at its end
  pub table_further : (n : ℕ) (more : List ℕ) → is_table (drop at B) ≡ true → n ≡ stated_len (drop at B) → at + n ≤ length B → more ≡ found ++ (at ∷ []) → IsSearchedTo B (at + n) slots more
  table_further n more e is most added =
      let first = table_searched B at h.next slots found h.searched n more h.before e is most added in
      let some : 1 ≤ n = omega (arith, is) in
      let end : at + 1 + (n - 1) ≡ at + n = omega (arith, some) in
      record {
        next = at + n;
        before = omega arith;
        within = most;
        searched = subst (λ a. IsSearched B a (at + n) slots more) end (inside_further B (at + 1) (at + n) slots more (n - 1) (omega (arith, end)) first);
      }

  -- else at the next byte with which one may begin
  module _ (to : ℕ) (l : at + 1 ≤ to) (m : to ≤ length B) (others : (i : ℕ) → at + 1 ≤ i → i < to → get_or B i 0 ≡ 79 → ⊥) where
    passed_to : (s : ℕ) → IsSearched B (at + 1) h.next s found → IsSearchedTo B to s found
    passed_to s one =
        let end : at + 1 + (to - (at + 1)) ≡ to = omega (arith, l) in
        record {
          next = h.next;
          before = omega (arith, h.before, l);
          within = m;
          searched = subst (λ a. IsSearched B a h.next s found) end
              (others_passed B (at + 1) h.next s found (to - (at + 1)) (omega (arith, h.before)) (λ i a b. others i a (omega (arith, b, end))) one);
        }

    pub nothing_further : is_table (drop at B) ≡ false → is_false (drop at B) ≡ false → IsSearchedTo B to slots found
    nothing_further e f = passed_to slots (nothing_searched B at h.next slots found h.searched h.before e f)

    pub false_further : (n : ℕ) → is_table (drop at B) ≡ false → is_false (drop at B) ≡ true → n ≡ header_slots (drop at B) → slots + n ≤ length B → IsSearchedTo B to (slots + n) found
    false_further n e f is few = passed_to (slots + n) (false_searched B at h.next slots found h.searched n h.before e f is few)

-- a table that begins inside of some bytes ends inside of them
pub inside : (B : List ℕ) (at n : ℕ) → at < length B → n ≤ length (drop at B) → at + n ≤ length B
inside B at n l m = omega (arith, l, m, length-drop at B)

-- ---- the tables that are found
-- each begins before the last byte
pub within_bytes : (B : List ℕ) (at : ℕ) → is_table (drop at B) ≡ true → at < length B
within_bytes B at e = elim (cases_lt at (length B)) [ inl low ↦ low | inr past ↦ absurd (true≢false (sym e ∙ none_past B at past)) ]

-- and opens
pub table_opens : (B : List ℕ) → is_table B ≡ true → info_refusal (table_front B) ≡ None
unfolding is_table
table_opens B e =
    let parts = and_parts (has_front B) (has_controls (take (stated_len B) B)) e in
    let front = and_parts (is_none (front_refusal B)) (has_fields B) parts.0 in
    let T = take (stated_len B) B in
    let rest = and_parts _ _ parts.1 in
    let more = and_parts _ _ rest.0 in
    let opens = and_parts (is_none (info_refusal T)) _ more.0 in
    ap (λ b. info_refusal (if b then T else B)) front.0 ∙ none (info_refusal T) opens.0
  where
    none : (o : Option Error) → is_none o ≡ true → o ≡ None
    none None e = refl
    none (Some x) e = cc

-- one that is in the list is a table
pub each_table : (B : List ℕ) (p : ℕ) (ts : List ℕ) (i : ℕ) → AreTables B p ts → i < length ts → is_table (drop (get_or ts i 0) B) ≡ true
each_table B p [] i h low = absurd (omega (arith, low))
each_table B p (t ∷ ts) zero h low = h.2
each_table B p (t ∷ ts) (suc i) h low = each_table B (t + stated_len (drop t B)) ts i h.3 (omega (arith, low))
