-- Worked examples: items that are inserted in turn, and what that may not do.
use Rattle.std.proofs.Common.{◌≡◌, ◌<◌, ◌⊎◌, ℕ, inl, List, [], ◌∷◌, Option, Some, None, Result, Ok, Err, All, length, refl, subst, arith, lit≤}
use Rattle.std.specs.Prelude.{true, ⊤}
use Rattle.std.specs.List.{slice_range}
use Rattle.odht_raw.proofs.lemmas.Below.{All-nil, some_same}
use Rattle.odht_raw.specs.Words.{Coding, Error, IsImage, IsPairOf, Table}
use Rattle.odht_base.proofs.examples.Configs.{direct_config, pair32}
use Rattle.odht_header.proofs.examples.Apart.{unequal}
use Rattle.odht_raw.specs.DynParts.{HasLengthsOf}
use Rattle.odht_raw.specs.Frame.{IsAccepted}
use Rattle.odht_raw.specs.Runs.{encoded_all, HasLengthsAt, IsAllPlaced, IsEncodedRun, IsFramedRun, IsStoppedAt}
use Rattle.odht_raw.specs.Steps.{adds, IsCountedStep, IsStepFramed, IsStepWhere}
use Rattle.odht_raw.proofs.examples.FrameRefusals.{no_entries, occupied_controls}
use Rattle.odht_raw.proofs.examples.Placings.{added_frame_refused}
use Rattle.odht_raw.proofs.lemmas.Steps.{step_accepted}

-- ---- the lengths of an item
abbrev items : List (List ℕ × List ℕ)
items = (1 ∷ [], 2 ∷ 3 ∷ []) ∷ (1 ∷ 4 ∷ [], 2 ∷ 3 ∷ []) ∷ (1 ∷ [], 2 ∷ []) ∷ []

-- a key of one byte and a value of two
pub fits : HasLengthsAt 1 2 items 0
fits item at = subst (λ (x : List ℕ × List ℕ). HasLengthsOf 1 2 (record { key = x.0; value = x.1 })) (some_same (1 ∷ [], 2 ∷ 3 ∷ []) item at) (record { key = refl; value = refl })

pub other_lengths_refused : (HasLengthsAt 1 2 items 1 → ⊥) × (HasLengthsAt 1 2 items 2 → ⊥)
other_lengths_refused = (λ h. unequal 2 1 refl (h (1 ∷ 4 ∷ [], 2 ∷ 3 ∷ []) refl).key, λ h. unequal 1 2 refl (h (1 ∷ [], 2 ∷ []) refl).value)

-- ---- whether an insert adds an entry
module _ (m : ℕ) (A : Table → Type 0) where
  -- it tells so of a new pair
  pub new_counted : (t t' : List ℕ × List ℕ) → IsStepWhere A direct_config (λ b. b) m t (pair32 5 7) (Ok None) t' → IsCountedStep A direct_config m t (pair32 5 7) (Some true) t'
  new_counted t t' step = record { answer = Ok None; told = refl; step = step }

  -- and not where each slot is occupied by another key
  added : (a : Result (Option (List ℕ)) Error) (es' ctrl' : List ℕ) → Some true ≡ adds a → IsStepFramed direct_config (λ b. b) m no_entries occupied_controls (pair32 5 7) a es' ctrl' → ⊥
  added (Ok None) es' ctrl' told frame = added_frame_refused es' ctrl' (step_accepted direct_config (λ b. b) m (pair32 5 7) (Ok None) no_entries occupied_controls es' ctrl' None refl frame)
  added (Ok (Some v)) es' ctrl' told frame = absurd cc
  added (Err e) es' ctrl' told frame = absurd cc

  pub counted_where_occupied_refused : (t' : List ℕ × List ℕ) → IsCountedStep A direct_config m (no_entries, occupied_controls) (pair32 5 7) (Some true) t' → ⊥
  counted_where_occupied_refused t' h = added h.answer t'.0 t'.1 h.told h.step.any.frame

-- ---- a list of items
-- no items leave accepted bytes as they are
pub none_inserted : (c : Coding (List ℕ) (List ℕ)) (B : List ℕ) → IsAccepted c.format B → IsEncodedRun (λ _. ⊤) c B [] 0 0 B
none_inserted c B accepted = record {
  after = lit≤ tt;
  within = lit≤ tt;
  fit = All-nil (IsPairOf c.format);
  placed = λ P is. record { fits = All-nil (IsPairOf c.format); table = P; placed = refl; image = is };
  framed = IsFramedRun.start;
  accepted = accepted;
  len = refl;
  stopped = inl refl;
}

module _ (fits : ℕ → Type 0) (c : Coding (List ℕ) (List ℕ)) (B : List ℕ) (items : List (List ℕ × List ℕ)) (from i : ℕ) (B' : List ℕ) where
  -- it ends at an index from the first one on, and not behind the last item
  pub other_index_refused : ((i < from) → IsEncodedRun fits c B items from i B' → ⊥) × ((length items < i) → IsEncodedRun fits c B items from i B' → ⊥)
  other_index_refused = (λ before h. omega (arith, before, h.after), λ behind h. omega (arith, behind, h.within))

  -- no item of other lengths is inserted
  pub other_pair_refused : (All (IsPairOf c.format) (encoded_all c (slice_range items from i)) → ⊥) → IsEncodedRun fits c B items from i B' → ⊥
  other_pair_refused other h = other h.fit

  -- a table gets the pairs of the items, and any bytes change as these inserts may change them
  pub other_table_refused : (P : Table) → IsImage c.format P B → (IsAllPlaced c.format P (encoded_all c (slice_range items from i)) B' → ⊥) → IsEncodedRun fits c B items from i B' → ⊥
  other_table_refused P is other h = other (h.placed P is)

  pub other_bytes_refused : (IsFramedRun c B (slice_range items from i) B' → ⊥) → IsEncodedRun fits c B items from i B' → ⊥
  other_bytes_refused other h = other h.framed

  -- header and length still fit
  pub unaccepted_refused : (IsAccepted c.format B' → ⊥) → IsEncodedRun fits c B items from i B' → ⊥
  unaccepted_refused other h = other h.accepted

  pub longer_refused : (length B' ≡ length B → ⊥) → IsEncodedRun fits c B items from i B' → ⊥
  longer_refused other h = other h.len

  -- it does not stop before an item that fits and is not rejected
  pub early_stop_refused : ((i ≡ length items) ⊎ ((fits i → ⊥) ⊎ IsStoppedAt c items i B') → ⊥) → IsEncodedRun fits c B items from i B' → ⊥
  early_stop_refused other h = other h.stopped
