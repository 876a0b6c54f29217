-- Worked examples: how a table is copied into bytes of the caller, here into up to three bytes. The bytes 1
-- and 2 take the part of a table.
use Rattle.std.proofs.Common.{◌≡◌, ◌≤◌, ◌<◌, ◌∙◌, ℕ, refl, sym, ap, arith, List, [], ◌∷◌, length}
use Rattle.odht_calls.specs.Builds.{IsHandedOut}
use Rattle.odht_header.proofs.examples.Apart.{unequal, unequal_lists}

-- the bytes that take the part of a table
abbrev AreOneTwo : List ℕ → Type 0
AreOneTwo B = B ≡ 1 ∷ 2 ∷ []

-- no other bytes are copied
pub other_copied_refused : IsHandedOut AreOneTwo (9 ∷ 9 ∷ 9 ∷ []) 0 (1 ∷ 3 ∷ 9 ∷ []) 2 → ⊥
other_copied_refused h = unequal_lists (1 ∷ 3 ∷ []) (1 ∷ 2 ∷ []) refl (h.built refl)

-- and no more than there is room for
pub overrun_refused : IsHandedOut AreOneTwo (9 ∷ []) 0 (1 ∷ 2 ∷ []) 2 → ⊥
overrun_refused h = let fits : 2 ≤ 1 = h.fits refl in omega (arith, fits)

-- the bytes after them are unchanged
pub behind_refused : IsHandedOut AreOneTwo (9 ∷ 9 ∷ 9 ∷ []) 0 (1 ∷ 2 ∷ 0 ∷ []) 2 → ⊥
behind_refused h = unequal_lists (0 ∷ []) (9 ∷ []) refl (h.rest refl)

-- no other length is written as needed
pub other_needed_refused : IsHandedOut AreOneTwo (9 ∷ []) 36 (9 ∷ []) 3 → ⊥
other_needed_refused h = let made = h.needed refl in unequal 2 3 refl (sym (ap length made.2) ∙ made.1)

-- where the table fits the answer is not `too_small`
pub roomy_as_small_refused : IsHandedOut AreOneTwo (9 ∷ 9 ∷ []) 36 (9 ∷ 9 ∷ []) 2 → ⊥
roomy_as_small_refused h = let less : 2 < 2 = (h.too_small refl).0 in omega (arith, less)

-- and where it does not fit, all is unchanged
pub small_written_refused : IsHandedOut AreOneTwo (9 ∷ []) 36 (1 ∷ []) 2 → ⊥
small_written_refused h = unequal_lists (1 ∷ []) (9 ∷ []) refl (h.too_small refl).1
