-- A growth: the pairs of a table, placed in slot order in the grown slots.
use Rattle.std.proofs.Common.{◌≡◌, ◌∙◌, ℕ, Bool, true, false, cond, bytes_eq, sym, ap, refl, List, [], ◌∷◌, Some, None, Result, Ok, Err, OnOk, OnErr, All, arith, inl}
use Rattle.std.proofs.lemmas.List.Elements.{All-head, All-tail}
use Rattle.std.proofs.lemmas.Option.{none-some}
use Rattle.std.specs.Prelude.{option_and_then}
use Rattle.odht_raw.specs.Words.{Error, Format, Full, IsPartsOf, IsValid, map_of, Pair, place, place_all, Table}
use Rattle.odht_base.specs.Insert.{grown, insert_owned, insert_view, run, IsFullFor}
use Rattle.odht_base.specs.Map.{value_in, KeysApart}
use Rattle.odht_base.proofs.lemmas.Grown.{AreNew, new-head, new-tail, grown-IsGrown}
use Rattle.odht_base.proofs.lemmas.Keys.{same_bytes}
use Rattle.odht_base.proofs.lemmas.Options.{and_then_some, some_same}
use Rattle.odht_base.proofs.lemmas.Pairs.{value_in-cons}
use Rattle.odht_base.proofs.lemmas.Places.{map_of-place}
use Rattle.odht_base.proofs.lemmas.TableInserts.{insert_view-takes, insert_owned-full}
use Rattle.odht_raw.specs.PartsInserts.{ArePartsPlaced}
use Rattle.odht_raw.specs.PartsPlacings.{IsNewTo}

-- what holds of an Ok result holds where the result is not `Full`
pub accepted_holds : {T : Type 0} (X : Type 0) (r : Result T Error) → OnErr r (r ≡ Err Full) → (r ≡ Err Full → ⊥) → OnOk r X → X
accepted_holds X (Ok t) only never x = x
accepted_holds X (Err e) only never x = absurd (never only)

-- ---- placing a walk
-- pairs each of which is new have no key of the table
pub all_new : (P : Table) (ps : List Pair) → All (IsNewTo P) ps → AreNew P ps
all_new P [] new k v e = absurd (none-some v e)
all_new P (p ∷ ps) new k v e = go (bytes_eq k p.key) refl (all_new P ps (All-tail (IsNewTo P) p ps new) k v)
  where
    go : (b : Bool) → bytes_eq k p.key ≡ b → (value_in ps k ≡ Some v → map_of P k ≡ None) → map_of P k ≡ None
    go true t rest = ap (map_of P) (same_bytes k p.key t) ∙ All-head (IsNewTo P) p ps new
    go false t rest = rest (sym (ap (λ b. cond b (Some p.value) (value_in ps k)) t) ∙ sym (value_in-cons p ps k) ∙ e)

-- placing the pairs that are left in the parts of some table gives Q; their keys are pairwise distinct and new to it
pub record LeadsTo (F : Format) (Q : Table) (ps : List Pair) (es ctrl : List ℕ) : Type 0 where
  pub table : Table
  pub parts : IsPartsOf F table es ctrl
  pub apart : KeysApart ps
  pub new : AreNew table ps
  pub placed : place_all F table ps ≡ Some Q

module _ (F : Format) (Q : Table) (p : Pair) (ps : List Pair) (es ctrl : List ℕ) (at : LeadsTo F Q (p ∷ ps) es ctrl) where
  next : (R : Table) × (place F at.table p ≡ Some R) × (place_all F R ps ≡ Some Q)
  next = and_then_some (λ R. run (place F) R ps) (place F at.table p) Q at.placed

  -- the next pair is new
  pub leads_new : IsNewTo at.table p
  leads_new = new-head at.table p ps at.new

  -- there is a slot for it
  pub leads_fits : place F at.table p ≡ None → ⊥
  leads_fits none = none-some next.0 (sym none ∙ next.1)

  -- and once it is placed, placing the pairs after it gives Q
  pub leads_on : (es' ctrl' : List ℕ) → ArePartsPlaced F at.table p es' ctrl' → LeadsTo F Q ps es' ctrl'
  leads_on es' ctrl' insert = record {
    table = insert.0;
    parts = insert.2;
    apart = at.apart.1;
    new = new-tail at.table insert.0 p ps at.apart at.new (map_of-place F at.table insert.0 p at.parts.placed insert.1);
    placed = ap (λ R. place_all F R ps) (some_same insert.0 next.0 (sym insert.1 ∙ next.1)) ∙ next.2;
  }

-- ---- the insert of the owned table, by that of the view
module _ (F : Format) (P : Table) (p : Pair) (ok : IsValid F P) where
  -- where the table is full for the key it is the insert into the grown table
  pub insert_owned-grown : (Q : Table) → IsFullFor P p.key → grown F P ≡ Some Q → insert_owned F P p ≡ insert_view F Q p
  insert_owned-grown Q full e =
      let is = grown-IsGrown F P ok Q e in
      insert_owned-full F P p full ∙ ap (option_and_then (λ R. place F R p)) e ∙ sym (insert_view-takes F Q p (inl is.room))

  -- which has room, and the same values
  pub grown_below : (Q : Table) → grown F P ≡ Some Q → (k : List ℕ) → IsFullFor Q k → ⊥
  grown_below Q e k full = let is = grown-IsGrown F P ok Q e in omega (arith, is.room, full.0)

  pub grown_maps : (Q : Table) → grown F P ≡ Some Q → (k : List ℕ) → map_of Q k ≡ map_of P k
  grown_maps Q e = (grown-IsGrown F P ok Q e).maps
