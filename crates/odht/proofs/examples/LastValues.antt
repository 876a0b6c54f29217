-- Worked examples: the last value of a key in a list of items.
use Rattle.std.proofs.Common.{◌≡◌, ◌≢◌, ◌∙◌, ◌++◌, ℕ, Bool, true, false, refl, ap, arith, length, length-append, List, [], ◌∷◌, Some, None, option_map, if◌then◌else◌, bytes_eq, subst, ◌⊎◌, inl, inr, lit<}
use Rattle.std.proofs.lemmas.List.Elements.{All-nil, All-cons}
use Rattle.odht_raw.specs.Words.{le_bytes, map_of, Pair, Table}
use Rattle.odht_base.proofs.examples.Configs.{pair64}
use Rattle.odht_header.proofs.examples.Opened.{opened}
use Rattle.odht.specs.LastValues.{HasNoKey, IsLastItem, IsLastValue, HasLastValues}
use Rattle.odht_header.proofs.examples.Apart.{some_unequal_lists}
use Rattle.odht.proofs.examples.SmallTables.{number_coding, one_pair, bytes_of, one_pair_image, the_table}

-- the items of the examples
abbrev items : List (ℕ × ℕ)
items = (1, 2) ∷ (3, 4) ∷ []

abbrev twice : List (ℕ × ℕ)
twice = (1, 2) ∷ (1, 5) ∷ []

abbrev in_turn : List (ℕ × ℕ)
in_turn = (1, 2) ∷ (3, 4) ∷ (1, 5) ∷ (3, 6) ∷ []

-- ---- keys that no item has
abbrev Lacks : ℕ → ℕ × ℕ → Type 0
Lacks k item = item.0 ≢ k

-- no item has it
pub without_key : HasNoKey items 2
without_key =
    All-cons (Lacks 2) (1, 2) ((3, 4) ∷ []) (λ e. omega (arith, e)) (All-cons (Lacks 2) (3, 4) [] (λ e. omega (arith, e)) (All-nil (Lacks 2)))

-- the last item has it
pub without_second : HasNoKey items 3 → ⊥
without_second h = h 1 (0, 0) (lit< tt) refl

-- ---- last items
-- an item of the same key comes before
pub a_last_item : IsLastItem in_turn 1 5
a_last_item = record {
  before = (1, 2) ∷ (3, 4) ∷ [];
  after = (3, 6) ∷ [];
  items_are = refl;
  latest = All-cons (Lacks 1) (3, 6) [] (λ e. omega (arith, e)) (All-nil (Lacks 1));
}

-- an item of two is the first one or the second one
abbrev IsOneOfTwo : ℕ × ℕ → ℕ × ℕ → ℕ → ℕ → List (ℕ × ℕ) → Type 0
IsOneOfTwo x y k v after = ((x.0 ≡ k) × (x.1 ≡ v) × (after ≡ y ∷ [])) ⊎ ((y.0 ≡ k) × (y.1 ≡ v))

one_of_two : (x y : ℕ × ℕ) (k v : ℕ) (before after : List (ℕ × ℕ)) → x ∷ y ∷ [] ≡ before ++ (k, v) ∷ after
    → IsOneOfTwo x y k v after
one_of_two x y k v [] after e = inl (cc, cc, cc)
one_of_two x y k v (a ∷ []) after e = inr (cc, cc)
one_of_two x y k v (a ∷ b ∷ before) after e = absurd (omega (arith, ap length e, length-append before ((k, v) ∷ after)))

-- a value that the key does not have
pub other_value : IsLastItem items 1 4 → ⊥
other_value h = go h.after (one_of_two _ _ _ _ h.before h.after h.items_are)
  where
    go : (after : List (ℕ × ℕ)) → IsOneOfTwo (1, 2) (3, 4) 1 4 after → ⊥
    go after (inl k) = omega (arith, k.1)
    go after (inr k) = omega (arith, k.0)

-- a value that is not its last
pub earlier_value : IsLastItem twice 1 2 → ⊥
earlier_value h = go h.after h.latest (one_of_two _ _ _ _ h.before h.after h.items_are)
  where
    go : (after : List (ℕ × ℕ)) → HasNoKey after 1 → IsOneOfTwo (1, 2) (1, 5) 1 2 after → ⊥
    go after latest (inl k) = subst (λ l. HasNoKey l 1) k.2 latest 0 (0, 0) (lit< tt) refl
    go after latest (inr k) = omega (arith, k.1)

-- ---- last values
-- the value of the last item, or none
pub last_values : IsLastValue in_turn 1 (Some 5) × IsLastValue items 2 None
last_values = (a_last_item, without_key)

-- a value of another key, one that is not the last, and none for a present key
pub no_last_values : (IsLastValue items 1 (Some 4) → ⊥)
    × (IsLastValue twice 1 (Some 2) → ⊥)
    × (IsLastValue items 3 None → ⊥)
no_last_values = (other_value, earlier_value, without_second)

-- ---- bytes of a table of last values
-- the later value of the one key
pub a_table : HasLastValues number_coding ((1, 2) ∷ (1, 3) ∷ []) (bytes_of (one_pair 3))
unfolding opened
a_table = record { table = one_pair 3; image = one_pair_image.1; maps = λ k. go (bytes_eq k (le_bytes 8 1)) }
  where
    go : (b : Bool) → option_map (λ (p : Pair). p.value) (if b then Some (pair64 1 3) else None)
        ≡ option_map (λ (p : Pair). p.value) (if b then Some (pair64 1 3) else (if b then Some (pair64 1 2) else None))
    go true = refl
    go false = refl

-- the table of the first value
pub first_value : HasLastValues number_coding ((1, 2) ∷ (1, 3) ∷ []) (bytes_of (one_pair 2)) → ⊥
unfolding opened
first_value h =
    some_unequal_lists _ _ refl (ap (λ T. map_of T (le_bytes 8 1)) (the_table h.table _ h.image) ∙ h.maps (le_bytes 8 1))

-- bytes with the right map, but with a load factor that no valid table has
abbrev no_factor : Table
no_factor = record { factor = 0; cells = (one_pair 3).cells }

pub not_valid : HasLastValues number_coding ((1, 2) ∷ (1, 3) ∷ []) (bytes_of no_factor) → ⊥
unfolding opened
not_valid h = omega (arith, h.image.valid.factor_low, ap (λ (T : Table). T.factor) (the_table h.table _ h.image))
