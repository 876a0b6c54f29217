-- Pairs placed in turn, and the grown table.
use Rattle.std.proofs.Common.{◌≡◌, ◌<◌, ◌≤◌, ◌+◌, ◌*◌, ◌∙◌, ℕ, Bool, true, false, cond, sym, ap, subst, refl, List, [], ◌∷◌, ◌++◌, Some, None, length, arith, bytes_eq, All, IsPermutation, append-nil}
use Rattle.std.specs.Prelude.{max, option_and_then, if◌then◌else◌}
use Rattle.std.specs.Option.{option_or}
use Rattle.std.proofs.lemmas.Option.{none-some}
use Rattle.std.proofs.Math.Nat.{le-max_left, le-max_right}
use Rattle.std.proofs.lemmas.List.Elements.{All-head, All-tail}
use Rattle.std.proofs.lemmas.List.Sorted.{IsPermutation-refl, IsPermutation-trans, IsPermutation-append_right, IsPermutation-middle, length_permutation}
use Rattle.odht_base.specs.Format.{Format}
use Rattle.odht_base.specs.Insert.{place, place_all, grown, grown_slots, run}
use Rattle.odht_base.specs.Load.{max_items, IsLeastSlots}
use Rattle.odht_base.specs.Map.{value_in, map_of, last, KeysApart}
use Rattle.odht_base.specs.Table.{Pair, Table, slot_count, walk, count, empty}
use Rattle.odht_base.specs.Valid.{IsPairOf, IsPlaced, IsValid}
use Rattle.odht_base.proofs.lemmas.DistinctKeys.{last-apart, walk-KeysApart, walk-IsPairOf}
use Rattle.odht_base.proofs.lemmas.Keys.{same_bytes, key_itself}
use Rattle.odht_base.proofs.lemmas.Least.{slots_for-IsLeastSlots}
use Rattle.odht_base.proofs.lemmas.Options.{and_then_some, some_same, option_or-none_right}
use Rattle.odht_base.proofs.lemmas.Pairs.{value_in-cons}
use Rattle.odht_base.proofs.lemmas.Places.{place-IsPlaced, slot_count-place, factor-place, count-place, count-place_le, map_of-place, walk-place}
use Rattle.odht_base.proofs.lemmas.FreeSlots.{max_items-holds, place-fits, slot_count-empty, walk-empty, map_of-empty, empty-IsPlaced}
use Rattle.odht_base.proofs.lemmas.InsertRuns.{IsInsert, run-keeps, factor-run, map_of-run}

-- `place` is an insert of placed tables
pub place-IsInsert : (F : Format) → IsInsert F (IsPlaced F) (place F)
place-IsInsert F = record {
  keeps = λ P Q p ok fit e. place-IsPlaced F P Q p ok e fit;
  factor = λ P Q p ok e. factor-place F P Q p ok e;
  counts = λ P Q p ok e. count-place F P Q p ok e;
  maps = λ P Q p ok e. map_of-place F P Q p ok e;
}

-- the slot count of a table stays
pub slot_count-place_all : (F : Format) (P Q : Table) (ps : List Pair) → IsPlaced F P → All (IsPairOf F) ps → place_all F P ps ≡ Some Q → slot_count Q ≡ slot_count P
slot_count-place_all F P Q [] ok fit e = ap slot_count (sym (some_same P Q e))
slot_count-place_all F P Q (p ∷ ps) ok fit e =
    let t = and_then_some (λ R. run (place F) R ps) (place F P p) Q e in
    slot_count-place_all F t.0 Q ps (place-IsPlaced F P t.0 p ok t.1 (All-head (IsPairOf F) p ps fit)) (All-tail (IsPairOf F) p ps fit) t.2
    ∙ slot_count-place F P t.0 p ok t.1

-- pairs are placed where there are slots for them
pub place_all-fits : (F : Format) (P : Table) (ps : List Pair) → IsPlaced F P → All (IsPairOf F) ps → count P + length ps ≤ slot_count P → (Q : Table) × (place_all F P ps ≡ Some Q)
place_all-fits F P [] ok fit room = (P, refl)
place_all-fits F P (p ∷ ps) ok fit room =
    let t = place-fits F P p ok (omega arith) in
    let more = count-place_le F P t.0 p ok t.1 in
    let len = slot_count-place F P t.0 p ok t.1 in
    let rest = place_all-fits F t.0 ps (place-IsPlaced F P t.0 p ok t.1 (All-head (IsPairOf F) p ps fit)) (All-tail (IsPairOf F) p ps fit) (omega arith) in
    (rest.0, ap (option_and_then (λ R. run (place F) R ps)) t.1 ∙ rest.1)

-- no key of the list is in the table
abbrev pub AreNew : Table → List Pair → Type 0
AreNew P ps = (k : List ℕ) (v : List ℕ) → value_in ps k ≡ Some v → map_of P k ≡ None

-- the first key is new
pub new-head : (P : Table) (p : Pair) (ps : List Pair) → AreNew P (p ∷ ps) → map_of P p.key ≡ None
new-head P p ps new = new p.key p.value (value_in-cons p ps p.key ∙ rw (key_itself p.key) refl)

-- the others stay new once it is placed
pub new-tail : (P Q : Table) (p : Pair) (ps : List Pair) → KeysApart (p ∷ ps) → AreNew P (p ∷ ps) → ((k : List ℕ) → map_of Q k ≡ (if bytes_eq k p.key then Some p.value else map_of P k)) → AreNew Q ps
new-tail P Q p ps apart new maps k v e = maps k ∙ go (bytes_eq k p.key) refl
  where
    go : (b : Bool) → bytes_eq k p.key ≡ b → cond b (Some p.value) (map_of P k) ≡ None
    go true t = absurd (none-some v (sym apart.0 ∙ ap (value_in ps) (sym (same_bytes k p.key t)) ∙ e))
    go false t = new k v (value_in-cons p ps k ∙ ap (λ b. cond b (Some p.value) (value_in ps k)) t ∙ e)

-- pairs of new and different keys are added to the walk
pub walk-place_all : (F : Format) (P Q : Table) (ps : List Pair) → IsPlaced F P → All (IsPairOf F) ps → KeysApart ps → AreNew P ps → place_all F P ps ≡ Some Q → IsPermutation (walk Q) (ps ++ walk P)
walk-place_all F P Q [] ok fit apart new e = subst (λ (x : Table). IsPermutation (walk x) (walk P)) (some_same P Q e) (IsPermutation-refl (walk P))
walk-place_all F P Q (p ∷ ps) ok fit apart new e =
    let t = and_then_some (λ R. run (place F) R ps) (place F P p) Q e in
    let ih = walk-place_all F t.0 Q ps (place-IsPlaced F P t.0 p ok t.1 (All-head (IsPairOf F) p ps fit)) (All-tail (IsPairOf F) p ps fit) apart.1 (new-tail P t.0 p ps apart new (map_of-place F P t.0 p ok t.1)) t.2 in
    IsPermutation-trans _ _ _ ih
    (IsPermutation-trans _ _ _
    (IsPermutation-append_right ps _ _ (walk-place F P t.0 p ok t.1 (new-head P p ps new)))
    (IsPermutation-middle ps p (walk P)))

-- ---- the grown table
-- Q is a valid table of the pairs of P, each once, with room for more
pub record IsGrown (F : Format) (P Q : Table) : Type 0 where
  pub valid : IsValid F Q
  pub factor : Q.factor ≡ P.factor
  pub walks : IsPermutation (walk Q) (walk P)
  pub counts : count Q ≡ count P
  pub maps : (k : List ℕ) → map_of Q k ≡ map_of P k
  pub room : count Q < max_items (slot_count Q) Q.factor

module _ (F : Format) (P : Table) (ok : IsValid F P) (s : ℕ) (least : IsLeastSlots (max 1 (2 * count P)) P.factor s) where
  -- the grown slots have room for more below their maximum
  pub room_above : count P < max_items s P.factor
  room_above =
      let h = max_items-holds (max 1 (2 * count P)) s P.factor least.holds in
      omega (arith, le-max_left 1 (2 * count P), le-max_right 1 (2 * count P))

  -- and placing the pairs there gives the grown table
  pub grows-IsGrown : (Q : Table) → place_all F (empty s P.factor) (walk P) ≡ Some Q → IsGrown F P Q
  grows-IsGrown Q e =
      let from = empty-IsPlaced s P.factor F least.is_count in
      let fit = walk-IsPairOf F P ok.placed in
      let apart = walk-KeysApart F P ok.placed in
      let placed = run-keeps F (IsPlaced F) (place F) (place-IsInsert F) (empty s P.factor) Q (walk P) from fit e in
      let factor : Q.factor ≡ P.factor = factor-run F (IsPlaced F) (place F) (place-IsInsert F) (empty s P.factor) Q (walk P) from fit e in
      let slots : slot_count Q ≡ s = slot_count-place_all F (empty s P.factor) Q (walk P) from fit e ∙ slot_count-empty s P.factor in
      let perm = walk-place_all F (empty s P.factor) Q (walk P) from fit apart (λ k v h. map_of-empty s P.factor k) e in
      let walks : IsPermutation (walk Q) (walk P) = subst (λ xs. IsPermutation (walk Q) xs) (ap (λ xs. walk P ++ xs) (walk-empty s P.factor) ∙ append-nil (walk P)) perm in
      let counts : count Q ≡ count P = sym (length_permutation (walk Q) (walk P) walks) in
      let room : count Q < max_items (slot_count Q) Q.factor = subst (λ n. count Q < max_items n Q.factor) (sym slots) (subst (λ f. count Q < max_items s f) (sym factor) (omega (arith, room_above, counts))) in
      record {
        valid = record { placed = placed; factor_low = omega (arith, ok.factor_low, factor); factor_high = omega (arith, ok.factor_high, factor); room = omega (arith, room) };
        factor = factor;
        walks = walks;
        counts = counts;
        maps = λ k.
            map_of-run F (IsPlaced F) (place F) (place-IsInsert F) (empty s P.factor) Q (walk P) from fit e k
            ∙ ap (option_or (last (walk P) k)) (map_of-empty s P.factor k)
            ∙ option_or-none_right (last (walk P) k)
            ∙ last-apart (walk P) apart k;
        room = room;
      }

module _ (F : Format) (P : Table) (ok : IsValid F P) where
  -- a grown table is valid, with the same pairs and room for more
  pub grown-IsGrown : (Q : Table) → grown F P ≡ Some Q → IsGrown F P Q
  unfolding grown
  grown-IsGrown Q e =
      let t = and_then_some (λ s. place_all F (empty s P.factor) (walk P)) (grown_slots P) Q e in
      grows-IsGrown F P ok t.0 (slots_for-IsLeastSlots _ _ t.0 t.1) Q t.2
