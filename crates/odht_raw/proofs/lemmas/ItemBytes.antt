-- Items that are slices of bytes, as the lists of their bytes.
use Rattle.std.proofs.Common.{◌≡◌, ◌∙◌, ◌<◌, ◌==◌, ℕ, Bor, List, inl, inr, true, true≢false, sym, ap, subst, arith, length, map, Some, slice_get, get_or}
use Rattle.std.specs.Prelude.{option_map}
use Rattle.odht_raw.proofs.lemmas.Below.{eqb_tells, length-map, slice_get-get_or, slice_get-map, some_same}
use Rattle.odht_raw.specs.DynParts.{HasLengthsOf}
use Rattle.odht_raw.specs.Runs.{HasLengthsAt}

-- the bytes of an item
abbrev pub bytes_of : Bor (List ℕ) × Bor (List ℕ) → List ℕ × List ℕ
bytes_of item = (item.0.now, item.1.now)

-- numbers that are told to be equal are, and the other way round
pub told_equal : (a b : ℕ) → (a == b) ≡ true → a ≡ b
told_equal a b e = elim (eqb_tells a b) [ inl same ↦ same.1 | inr other ↦ absurd (true≢false (sym e ∙ other.0)) ]

pub equal_told : (a b : ℕ) → a ≡ b → (a == b) ≡ true
equal_told a b e = elim (eqb_tells a b) [ inl same ↦ same.0 | inr other ↦ absurd (other.1 e) ]

module _ (items : List (Bor (List ℕ) × Bor (List ℕ))) (i : ℕ) (d : Bor (List ℕ) × Bor (List ℕ)) (within : i < length (map bytes_of items)) where
  -- the bytes of the item at an index
  pub item_at : slice_get (map bytes_of items) i ≡ Some (bytes_of (get_or items i d))
  item_at = slice_get-map bytes_of items i ∙ ap (option_map bytes_of) (slice_get-get_or items i d (omega (arith, within, length-map items bytes_of)))

  -- it fits where its key and its value do
  pub fits_at : (kl vl : ℕ) → length (get_or items i d).0.now ≡ kl → length (get_or items i d).1.now ≡ vl → HasLengthsAt kl vl (map bytes_of items) i
  fits_at kl vl key value item at =
      subst (λ (x : List ℕ × List ℕ). HasLengthsOf kl vl (record { key = x.0; value = x.1 })) (some_same _ _ (sym item_at ∙ at)) (record { key = key; value = value })

  -- and only there
  pub lengths_at : (kl vl : ℕ) → HasLengthsAt kl vl (map bytes_of items) i → HasLengthsOf kl vl (record { key = (get_or items i d).0.now; value = (get_or items i d).1.now })
  lengths_at kl vl fits = fits (bytes_of (get_or items i d)) item_at
