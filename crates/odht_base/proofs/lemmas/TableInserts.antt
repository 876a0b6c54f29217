-- The inserts of both tables, on valid tables.
use Rattle.std.proofs.Common.{◌≡◌, ◌<◌, ◌≤◌, ◌+◌, ◌∙◌, ◌⊎◌, inl, inr, ℕ, Bool, true, false, true≢false, cond, sym, ap, ap₂, subst, refl, List, Option, Some, None, arith, bytes_eq, eq-eqb, eqb-true}
use Rattle.std.specs.Prelude.{is_none, option_and_then, if◌then◌else◌, ◌↔◌, ◌&&◌}
use Rattle.std.proofs.lemmas.Bool.{eqb-false, false_from_ne_true}
use Rattle.std.proofs.lemmas.Option.{none-some}
use Rattle.odht_base.specs.Format.{Format}
use Rattle.odht_base.specs.Insert.{place, grown, is_full, is_full_for, IsFullFor, insert_owned, insert_view}
use Rattle.odht_base.specs.Load.{max_items}
use Rattle.odht_base.specs.Map.{map_of}
use Rattle.odht_base.specs.Table.{Pair, Table, slot_count, count}
use Rattle.odht_base.specs.Valid.{IsPairOf, IsValid}
use Rattle.odht_base.proofs.lemmas.Grown.{IsGrown, grown-IsGrown}
use Rattle.odht_base.proofs.lemmas.Options.{and_then_some}
use Rattle.odht_base.proofs.lemmas.Places.{place-IsPlaced, slot_count-place, factor-place, count-place, count-place_le, map_of-place}
use Rattle.odht_base.proofs.lemmas.FreeSlots.{place-IsValid_fits}
use Rattle.odht_base.proofs.lemmas.InsertRuns.{IsInsert}

-- ---- room
-- the table is below its maximum
abbrev pub HasRoom : Table → Type 0
HasRoom P = count P < max_items (slot_count P) P.factor

-- an insert of the key stays within the maximum: there is room, or the table has the key
abbrev pub TakesKey : Table → List ℕ → Type 0
TakesKey P k = HasRoom P ⊎ (is_none (map_of P k) ≡ false)

-- where the table takes the key, a placed pair leaves a valid table
pub place-IsValid : (F : Format) (P Q : Table) (p : Pair) → IsValid F P → TakesKey P p.key → IsPairOf F p → place F P p ≡ Some Q → IsValid F Q
place-IsValid F P Q p ok takes fit e =
    let len = slot_count-place F P Q p ok.placed e in
    let factor = factor-place F P Q p ok.placed e in
    record {
      placed = place-IsPlaced F P Q p ok.placed e fit;
      factor_low = omega (arith, ok.factor_low, factor);
      factor_high = omega (arith, ok.factor_high, factor);
      room = subst (λ n. count Q ≤ max_items n Q.factor) (sym len) (subst (λ f. count Q ≤ max_items (slot_count P) f) (sym factor) few);
    }
  where
    few : count Q ≤ max_items (slot_count P) P.factor
    few = elim takes [
      | inl room ↦ let more = count-place_le F P Q p ok.placed e in omega (arith, more, room)
      | inr there ↦ let same = count-place F P Q p ok.placed e ∙ ap (λ b. cond b (count P + 1) (count P)) there in omega (arith, same, ok.room)
    ]

-- a key with a value is in the table
pub there : (P : Table) (k v : List ℕ) → map_of P k ≡ Some v → is_none (map_of P k) ≡ false
there P k v e = ap is_none e

module _ (P : Table) (k : List ℕ) where
  -- full for a key, as it is computed
  pub IsFullFor-true : is_full_for P k ≡ true → IsFullFor P k
  IsFullFor-true e = go (is_full P) (map_of P k) refl refl e
    where
      go : (b : Bool) (o : Option (List ℕ)) → is_full P ≡ b → map_of P k ≡ o → (b && is_none o) ≡ true → IsFullFor P k
      go true None full absent h = (eqb-true (count P) (max_items (slot_count P) P.factor) full, absent)
      go true (Some v) full absent h = absurd (true≢false (sym h))
      go false o full absent h = absurd (true≢false (sym h))

  -- and the converse
  pub true-IsFullFor : IsFullFor P k → is_full_for P k ≡ true
  true-IsFullFor full = ap₂ (λ a b. a && is_none b) (eq-eqb (count P) (max_items (slot_count P) P.factor) full.0) full.1

  -- a table that takes the key is not full for it
  pub TakesKey-false : TakesKey P k → is_full_for P k ≡ false
  TakesKey-false takes = false_from_ne_true _ (λ e.
      let full = IsFullFor-true e in elim takes [
        | inl room ↦ omega (arith, full.0, room)
        | inr held ↦ absurd (true≢false (sym (ap is_none full.1) ∙ held))
      ])

  -- and a valid one that is not full for it takes it
  pub false-TakesKey : count P ≤ max_items (slot_count P) P.factor → is_full_for P k ≡ false → TakesKey P k
  false-TakesKey most e = go (is_full P) refl e
    where
      go : (b : Bool) → is_full P ≡ b → (b && is_none (map_of P k)) ≡ false → TakesKey P k
      go true full h = inr h
      go false low h = inl (let ne = eqb-false (count P) (max_items (slot_count P) P.factor) low in omega (arith, most, ne))

-- ---- an accepted insert places its pair in the table or in the grown table, which takes its key
-- R is P or the grown P: valid, with the factor, the count and the map of P
pub record IsBase (F : Format) (P R : Table) : Type 0 where
  pub is : (R ≡ P) ⊎ (grown F P ≡ Some R)
  pub valid : IsValid F R
  pub factor : R.factor ≡ P.factor
  pub counts : count R ≡ count P
  pub maps : (k : List ℕ) → map_of R k ≡ map_of P k

-- the pair is placed in such a table, which takes its key, and leaves Q
abbrev pub IsPlacedIn : Format → Table → Table → Pair → Type 0
IsPlacedIn F P Q p = (R : Table) × IsBase F P R × TakesKey R p.key × (place F R p ≡ Some Q)

-- so does each accepted insert
abbrev pub IsBased : Format → (Table → Pair → Option Table) → Type 0
IsBased F insert = (P Q : Table) (p : Pair) → IsValid F P → insert P p ≡ Some Q → IsPlacedIn F P Q p

-- the table itself
base_self : (F : Format) (P : Table) → IsValid F P → IsBase F P P
base_self F P ok = record { is = inl refl; valid = ok; factor = refl; counts = refl; maps = λ k. refl }

-- the grown table
base_grown : (F : Format) (P R : Table) → grown F P ≡ Some R → IsGrown F P R → IsBase F P R
base_grown F P R e g = record { is = inr e; valid = g.valid; factor = g.factor; counts = g.counts; maps = g.maps }

-- which branch gave the answer
pub cond_cases : {X : Type 0} (b : Bool) (x y z : X) → cond b x y ≡ z → ((b ≡ true) × (x ≡ z)) ⊎ ((b ≡ false) × (y ≡ z))
cond_cases true x y z e = inl (refl, e)
cond_cases false x y z e = inr (refl, e)

module _ (F : Format) (P Q : Table) (p : Pair) (ok : IsValid F P) where
  -- an insert after a growth
  pub after_growth : option_and_then (λ R. place F R p) (grown F P) ≡ Some Q → IsPlacedIn F P Q p
  after_growth e =
      let t = and_then_some (λ R. place F R p) (grown F P) Q e in
      let g = grown-IsGrown F P ok t.0 t.1 in
      (t.0, base_grown F P t.0 t.1 g, inl g.room, t.2)

  -- an insert without one
  pub at_once : TakesKey P p.key → place F P p ≡ Some Q → IsPlacedIn F P Q p
  at_once takes e = (P, base_self F P ok, takes, e)

-- the owned table
pub insert_owned-IsBased : (F : Format) → IsBased F (insert_owned F)
unfolding insert_owned
insert_owned-IsBased F P Q p ok e = elim (cond_cases (is_full_for P p.key) _ _ _ e) [
  | inl full ↦ after_growth F P Q p ok full.1
  | inr low ↦ at_once F P Q p ok (false-TakesKey P p.key ok.room low.0) low.1
]

-- the view
pub insert_view-IsBased : (F : Format) → IsBased F (insert_view F)
unfolding insert_view
insert_view-IsBased F P Q p ok e = elim (cond_cases (is_full_for P p.key) _ _ _ e) [
  | inl full ↦ absurd (none-some Q full.1)
  | inr low ↦ at_once F P Q p ok (false-TakesKey P p.key ok.room low.0) low.1
]

-- all such inserts keep a table valid
pub IsBased-IsInsert : (F : Format) (insert : Table → Pair → Option Table) → IsBased F insert → IsInsert F (IsValid F) insert
IsBased-IsInsert F insert based = record {
  keeps = λ P Q p ok fit e. let b = based P Q p ok e in place-IsValid F b.0 Q p b.1.valid b.2 fit b.3;
  factor = λ P Q p ok e. let b = based P Q p ok e in factor-place F b.0 Q p b.1.valid.placed b.3 ∙ b.1.factor;
  counts = λ P Q p ok e.
      let b = based P Q p ok e in
      count-place F b.0 Q p b.1.valid.placed b.3
      ∙ ap (λ n. if is_none (map_of b.0 p.key) then n + 1 else n) b.1.counts
      ∙ ap (λ o. if is_none o then count P + 1 else count P) (b.1.maps p.key);
  maps = λ P Q p ok e k.
      let b = based P Q p ok e in
      map_of-place F b.0 Q p b.1.valid.placed b.3 k
      ∙ ap (λ o. if bytes_eq k p.key then Some p.value else o) (b.1.maps k);
}

-- both keep a table valid and overwrite its map at the key
module _ (F : Format) where
  pub insert_owned-IsInsert : IsInsert F (IsValid F) (insert_owned F)
  insert_owned-IsInsert = IsBased-IsInsert F (insert_owned F) (insert_owned-IsBased F)

  -- the view
  pub insert_view-IsInsert : IsInsert F (IsValid F) (insert_view F)
  insert_view-IsInsert = IsBased-IsInsert F (insert_view F) (insert_view-IsBased F)

-- ---- inserts that answer None
module _ (F : Format) (P : Table) (p : Pair) where
  -- placing a pair in a valid table never answers None
  never_none : IsValid F P → place F P p ≡ None → ⊥
  never_none ok e = let q = place-IsValid_fits F P p ok in none-some q.0 (sym e ∙ q.1)

  -- the view answers None exactly where it is full for the key
  pub insert_view-None : IsValid F P → (insert_view F P p ≡ None) ↔ IsFullFor P p.key
  unfolding insert_view
  insert_view-None ok = (
    (λ e. elim (cond_cases (is_full_for P p.key) _ _ _ e) [
      | inl full ↦ IsFullFor-true P p.key full.0
      | inr low ↦ absurd (never_none ok low.1)
    ]),
    (λ full. ap (λ b. cond b None (place F P p)) (true-IsFullFor P p.key full)),
  )

  -- where the table takes the key, both inserts place the pair
  module _ (takes : TakesKey P p.key) where
    -- the owned table
    pub insert_owned-takes : insert_owned F P p ≡ place F P p
    unfolding insert_owned
    insert_owned-takes = ap (λ b. cond b (option_and_then (λ R. place F R p) (grown F P)) (place F P p)) (TakesKey-false P p.key takes)

    -- the view
    pub insert_view-takes : insert_view F P p ≡ place F P p
    unfolding insert_view
    insert_view-takes = ap (λ b. cond b None (place F P p)) (TakesKey-false P p.key takes)

  -- where it is full for the key the owned table grows
  pub insert_owned-full : IsFullFor P p.key → insert_owned F P p ≡ option_and_then (λ R. place F R p) (grown F P)
  unfolding insert_owned
  insert_owned-full full = ap (λ b. cond b (option_and_then (λ R. place F R p) (grown F P)) (place F P p)) (true-IsFullFor P p.key full)

  -- and elsewhere it inserts as the view does
  pub insert_owned-view : (IsFullFor P p.key → ⊥) → insert_owned F P p ≡ insert_view F P p
  unfolding insert_owned insert_view
  insert_owned-view other = go (is_full_for P p.key) (false_from_ne_true _ (λ e. other (IsFullFor-true P p.key e)))
    where
      go : (b : Bool) → b ≡ false → cond b (option_and_then (λ R. place F R p) (grown F P)) (place F P p) ≡ cond b None (place F P p)
      go true e = absurd (true≢false e)
      go false e = refl
