-- How many groups a search may read, for the control bytes ctrl of s slots.
use Rattle.std.proofs.Common.{◌≡◌, ◌∙◌, ℕ, ◌+◌, ◌-◌, ◌*◌, ◌/◌, ◌%◌, ◌<◌, ◌≤◌, refl, sym, ap, arith, Bool, true, false, true≢false, not, List, length, length-drop, drop, get_or, min, Option, Some, None, is_some}
use Rattle.std.specs.Prelude.{option_map}
use Rattle.std.specs.Option.{option_or}
use Rattle.odht_raw.proofs.lemmas.Below.{All-from_get_or, bytes_at-take, find_is, find_none, get_or-drop, get_or-range_with_len, get_or-take, length-bytes_at, length-range_with_len, list_any_at, list_any_none, mod-add-mod, mod-eq_of_lt, position-Some}
use Rattle.std.specs.List.{range_with_len}
use Rattle.odht_raw.specs.Words.{bytes_at, counts_as_free, ends_within, first_free, first_longer, group_of, late_free, probe_slot}
use Rattle.odht_raw.proofs.lemmas.GroupLooks.{position-None}

-- an index of a range is itself
item : (n i : ℕ) → i < n → get_or (range_with_len 0 n) i 0 ≡ i
item n i l = get_or-range_with_len 0 n i 0 l ∙ omega arith

-- ---- a free byte that is late in a group
-- it is one of the group
late-found : (bs : List ℕ) (k : ℕ) → late_free bs ≡ Some k → (k < length bs) × (counts_as_free (get_or bs k 0) ≡ true)
late-found bs k = go (first_free (drop 8 bs)) refl
  where
    found : (i : ℕ) → first_free bs ≡ Some i → (i < length bs) × (counts_as_free (get_or bs i 0) ≡ true)
    found i e = let at = position-Some counts_as_free bs i 0 e in (at.0, at.1)

    go : (o : Option ℕ) → first_free (drop 8 bs) ≡ o → option_or (option_map (λ i. i + 8) o) (first_free bs) ≡ Some k → (k < length bs) × (counts_as_free (get_or bs k 0) ≡ true)
    go None e h = found k h
    go (Some i) e h =
        let is : i + 8 ≡ k = cc in
        let at = position-Some counts_as_free (drop 8 bs) i 0 e in
        let place : 8 + i ≡ k = omega (arith, is) in
        (omega (arith, at.0, length-drop 8 bs, is), ap (λ j. counts_as_free (get_or bs j 0)) (sym place) ∙ ap counts_as_free (sym (get_or-drop 8 bs i 0)) ∙ at.1)

-- where there is none, no byte is free
pub late-none : (bs : List ℕ) → late_free bs ≡ None → first_free bs ≡ None
late-none bs = go (first_free (drop 8 bs))
  where
    go : (o : Option ℕ) → option_or (option_map (λ i. i + 8) o) (first_free bs) ≡ None → first_free bs ≡ None
    go None h = h
    go (Some i) h = cc

-- a byte of a group
at_byte : (ctrl : List ℕ) (start i : ℕ) → i < 16 → get_or (bytes_at ctrl start 16) i 0 ≡ get_or ctrl (start + i) 0
at_byte ctrl start i l = ap (λ b. get_or b i 0) (bytes_at-take ctrl start 16) ∙ get_or-take 16 (drop start ctrl) i 0 l ∙ get_or-drop start ctrl i 0

-- the groups that begin up to it have it too
pub late-further : (ctrl : List ℕ) (start i k : ℕ) → late_free (bytes_at ctrl start 16) ≡ Some k → i ≤ k → start + i + 16 ≤ length ctrl → is_some (first_free (bytes_at ctrl (start + i) 16)) ≡ true
late-further ctrl start i k e low within = go (first_free (bytes_at ctrl (start + i) 16)) refl
  where
    go : (o : Option ℕ) → first_free (bytes_at ctrl (start + i) 16) ≡ o → is_some o ≡ true
    go (Some j) n = refl
    go None n =
        let found = late-found (bytes_at ctrl start 16) k e in
        let few : k < 16 = omega (arith, found.0, length-bytes_at ctrl start 16 (omega (arith, within))) in
        let later : k - i < length (bytes_at ctrl (start + i) 16) = omega (arith, few, length-bytes_at ctrl (start + i) 16 within) in
        let place : start + i + (k - i) ≡ start + k = omega (arith, low) in
        let here : get_or (bytes_at ctrl (start + i) 16) (k - i) 0 ≡ get_or ctrl (start + k) 0 = at_byte ctrl (start + i) (k - i) (omega (arith, few)) ∙ ap (λ j. get_or ctrl j 0) place in
        let there : get_or (bytes_at ctrl start 16) k 0 ≡ get_or ctrl (start + k) 0 = at_byte ctrl start k few in
        let free : counts_as_free (get_or (bytes_at ctrl (start + i) 16) (k - i) 0) ≡ true = ap counts_as_free (here ∙ sym there) ∙ found.1 in
        absurd (true≢false (sym free ∙ position-None counts_as_free (bytes_at ctrl (start + i) 16) 0 n (k - i) later))

-- the group of a home that is i slots further begins i slots further
pub probe_slot-further : (b s p i : ℕ) → probe_slot b s p + i < s → probe_slot (b + i) s p ≡ probe_slot b s p + i
probe_slot-further b s p i low =
    let t : ℕ = 8 * (p / 16) * (p / 16 + 1) in
    ap (λ x. x % s) (sum t (p % 16)) ∙ sym (mod-add-mod (b + t + p % 16) s i) ∙ mod-eq_of_lt {n = probe_slot b s p + i} {m = s} low
  where
    sum : (x y : ℕ) → b + i + x + y ≡ b + x + y + i
    sum x y = omega arith

module _ (ctrl : List ℕ) (g : ℕ) where
  -- ---- the groups that a search from the home b reads
  module _ (b : ℕ) where
    abbrev pub has_free : ℕ → Bool
    has_free j = is_some (first_free (group_of ctrl b j))

    abbrev n : ℕ
    n = min g ((length ctrl - 16) / 16)

    -- a byte in the first of them that counts as free ends each such search
    pub ends_at : (j : ℕ) → j < n → has_free j ≡ true → ends_within ctrl g b ≡ true
    ends_at j l free = list_any_at has_free (range_with_len 0 n) j 0 (omega (arith, l, length-range_with_len 0 n)) (ap has_free (item n j l) ∙ free)

    -- where none counts as free, one may go on
    pub goes_on : ((j : ℕ) → j < n → has_free j ≡ false) → ends_within ctrl g b ≡ false
    goes_on none =
        list_any_none has_free (range_with_len 0 n)
        (All-from_get_or (λ j. has_free j ≡ false) (range_with_len 0 n) 0 (λ i l. let low : i < n = omega (arith, l, length-range_with_len 0 n) in ap has_free (item n i low) ∙ none i low))

  -- ---- the homes
  abbrev slots : ℕ
  slots = length ctrl - 16

  abbrev test : ℕ → Bool
  test b = not (ends_within ctrl g b)

  -- the first from which a search may be longer
  pub first_longer-at : (b : ℕ) → b < slots → ((a : ℕ) → a < b → ends_within ctrl g a ≡ true) → ends_within ctrl g b ≡ false → first_longer ctrl g ≡ Some b
  unfolding first_longer
  first_longer-at b low before here =
      find_is test (range_with_len 0 slots) b 0 (omega (arith, low, length-range_with_len 0 slots))
      (λ k l. ap test (item slots k (omega (arith, l, low))) ∙ ap not (before k l)) (ap test (item slots b low) ∙ ap not here)
      ∙ ap Some (item slots b low)

  -- where each search ends in time there is none
  pub first_longer-none : ((b : ℕ) → b < slots → ends_within ctrl g b ≡ true) → first_longer ctrl g ≡ None
  unfolding first_longer
  first_longer-none all =
      find_none test (range_with_len 0 slots) 0
      (λ k l. let low : k < slots = omega (arith, l, length-range_with_len 0 slots) in ap test (item slots k low) ∙ ap not (all k low))
