-- Worked examples: what a search of a group may report.
use Rattle.std.proofs.Common.{◌≡◌, ◌<◌, ◌+◌, ◌⊎◌, ℕ, zero, suc, inl, inr, [], ◌∷◌, refl, subst, lit<, arith}
use Rattle.std.specs.Prelude.{Contains, slice_index, bit_xor}
use Rattle.odht_base.specs.Groups.{IsReport, IsWordReport, free_in, occupied}
use Rattle.odht_base.specs.Masks.{bits_from, set_bits, set_bytes}

-- 128 and 255 count as free, 0 and 127 do not
pub free_bytes : (free_in (0 ∷ 255 ∷ 127 ∷ 128 ∷ []) ≡ 1 ∷ 3 ∷ []) × (free_in (127 ∷ []) ≡ []) × (occupied (0 ∷ 255 ∷ 127 ∷ 128 ∷ []) ≡ 0 ∷ 2 ∷ [])
free_bytes = (refl, refl, refl)

-- of 2 ^ 63 + 22 the bits 1, 2, 4 and 63 are set, which are bits of the bytes 0, 0, 0 and 7
pub bits : (set_bits 9223372036854775830 ≡ 1 ∷ 2 ∷ 4 ∷ 63 ∷ []) × (set_bytes 9223372036854775830 ≡ 0 ∷ 0 ∷ 0 ∷ 7 ∷ []) × (set_bits 0 ≡ [])
unfolding bits_from
bits = (refl, refl, refl)

-- the numbers are equal
abbrev Equal : ℕ → ℕ → Type 0
Equal m n = m ≡ n

-- of the bytes 3 and 255 the first is the tag 3
pub report : IsReport (3 ∷ 255 ∷ []) 3 (0 ∷ [])
report = record { rising = λ k l. absurd (omega (arith, l)); complete = complete; occupied = occupied }
  where
    complete : (i : ℕ) → i < 2 → slice_index (3 ∷ 255 ∷ []) i ≡ 3 → Contains (0 ∷ []) i
    complete zero l e = (0, lit< tt, refl)
    complete (suc zero) l e = absurd (omega (arith, e))
    complete (suc (suc i)) l e = absurd (omega (arith, l))

    occupied : (i : ℕ) → Contains (0 ∷ []) i → (i < 2) × (slice_index (3 ∷ 255 ∷ []) i < 128)
    occupied i (zero, low, is) = subst (λ j. (j < 2) × (slice_index (3 ∷ 255 ∷ []) j < 128)) is (lit< tt, lit< tt)
    occupied i (suc k, low, is) = absurd (omega (arith, low))

-- a report leaves out no byte with the tag, has no index of a free byte or behind the group, and rises
pub other_reports_refused : (IsReport (3 ∷ []) 3 [] → ⊥)
    × (IsReport (255 ∷ []) 3 (0 ∷ []) → ⊥)
    × (IsReport (3 ∷ []) 3 (0 ∷ 1 ∷ []) → ⊥)
    × (IsReport (3 ∷ 3 ∷ []) 3 (1 ∷ 0 ∷ []) → ⊥)
other_reports_refused = (
  λ h. let known = h.complete 0 (lit< tt) refl in omega (arith, known.1),
  λ h. let known = h.occupied 0 (0, lit< tt, refl) in omega (arith, known.1),
  λ h. let known = h.occupied 1 (1, lit< tt, refl) in omega (arith, known.0),
  λ h. let known = h.rising 0 (lit< tt) in omega (arith, known),
)

-- a search by words may report a byte that differs from the tag in its lowest bit, where it reports the byte before,
-- and no other byte without the tag
pub other_word_reports_refused : (IsWordReport (3 ∷ 4 ∷ []) 3 (0 ∷ 1 ∷ []) → ⊥) × (IsWordReport (2 ∷ []) 3 (0 ∷ []) → ⊥)
other_word_reports_refused = (λ h. other (h.others 1 (1, lit< tt, refl)), λ h. first (h.others 0 (0, lit< tt, refl)))
  where
    other : Equal 4 3 ⊎ (Equal 4 (bit_xor 3 1) × ((j : ℕ) × (j + 1 ≡ 1) × Contains (0 ∷ 1 ∷ []) j)) → ⊥
    other (inl e) = omega (arith, e)
    other (inr (e, before)) = omega (arith, e)

    first : Equal 2 3 ⊎ (Equal 2 (bit_xor 3 1) × ((j : ℕ) × (j + 1 ≡ 0) × Contains (0 ∷ []) j)) → ⊥
    first (inl e) = omega (arith, e)
    first (inr (e, (j, next, known))) = omega (arith, next)
