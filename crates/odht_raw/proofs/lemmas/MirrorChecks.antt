-- A look at the mirror, byte by byte: at its end, and at the first byte that differs.
use Rattle.std.proofs.Common.{◌≡◌, ◌<◌, ◌+◌, ◌-◌, ℕ, not, ap, List, Some, None, length, slice_index, eqb-true}
use Rattle.odht_raw.proofs.lemmas.Below.{false_from_ne_true, first_slot-at, gives-Some, None-first_slot}
use Rattle.odht_raw.specs.Words.{mirror_refusal, mirror_refusal_at, MirrorMismatch}

-- the mirror has no error where no byte has one
pub mirror_refusal-None : (ctrl : List ℕ) → ((i : ℕ) → i < 16 → mirror_refusal_at ctrl i ≡ None) → mirror_refusal ctrl ≡ None
unfolding mirror_refusal
mirror_refusal-None ctrl h = None-first_slot (mirror_refusal_at ctrl) 16 h

-- otherwise that of the first that differs
pub mirror_refusal-at : (ctrl : List ℕ) (i : ℕ) → i < 16 → ((k : ℕ) → k < i → mirror_refusal_at ctrl k ≡ None)
    → (slice_index ctrl (length ctrl - 16 + i) ≡ slice_index ctrl i → ⊥) → mirror_refusal ctrl ≡ Some (MirrorMismatch i)
unfolding mirror_refusal
mirror_refusal-at ctrl i l below other =
    first_slot-at (mirror_refusal_at ctrl) 16 i (MirrorMismatch i) l below (gives-Some _ _ (ap not (false_from_ne_true _ (λ t. other (eqb-true _ _ t)))))
