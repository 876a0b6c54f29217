-- Lookups of many keys by a lookup of each, as what each of them answers.
use Rattle.std.proofs.Common.{◌≡◌, ◌<◌, ◌∙◌, ◌+◌, inl, inr, ℕ, suc, sym, ap, subst, refl, arith, List, [], ◌∷◌, Option, Some, None, IfSome, length, map, set, slice_get}
use Rattle.std.specs.Prelude.{option_map}
use Rattle.std.proofs.Math.Nat.{eq-or-lt_of_le}
use Rattle.std.proofs.lemmas.Option.{slice_get-map, slice_get_within}
use Rattle.odht_base.proofs.lemmas.Options.{some_same}
use Rattle.odht_raw.specs.Words.{Coding, value_for}
use Rattle.odht_header.specs.Coding.{HasStored}
use Rattle.odht.specs.Gets.{IsGet, AreGot}
use Rattle.odht.specs.Lookups.{HaveStored}
use Rattle.odht.proofs.lemmas.Lookups.{slice_get-set_same, slice_get-set_other}

-- what an option has, where a function of it is known
mapped_some : {X Y : Type 0} (f : X → Y) (o : Option X) (y : Y) → option_map f o ≡ Some y → (x : X) × (o ≡ Some x) × (f x ≡ y)
mapped_some f None y e = absurd (let none : None ≡ Some y = e in cc)
mapped_some f (Some x) y e = (x, refl, some_same (f x) y e)

-- a list whose elements are f of those of another
listed : {X Y Z K : Type 0} (f : X → K) (h : Y → Z) (g : K → Z) (xs : List X) (ys : List Y) → length ys ≡ length xs
    → ((j : ℕ) (x : X) → slice_get xs j ≡ Some x → (y : Y) × (slice_get ys j ≡ Some y) × (h y ≡ g (f x))) → map h ys ≡ map g (map f xs)
listed f h g [] [] l known = refl
listed f h g [] (y ∷ ys) l known = absurd (omega (arith, l))
listed f h g (x ∷ xs) [] l known = absurd (omega (arith, l))
listed f h g (x ∷ xs) (y ∷ ys) l known =
    let here = known 0 x refl in
    let first : h y ≡ g (f x) = ap h (some_same y here.0 here.1) ∙ here.2 in
    let rest = listed f h g xs ys (omega (arith, l)) (λ j. known (suc j)) in
    λ i. first i ∷ rest i

-- keys, each read as f of what it is in xs, and answers, each read as h of what it is in ys
module _ {X Y K V : Type 0} (c : Coding K V) (B : List ℕ) (f : X → K) (h : Y → Option V) (xs : List X) where
  -- those of the first i keys
  abbrev pub AreKnown : List Y → ℕ → Type 0
  AreKnown ys i = (j : ℕ) (x : X) → j < i → slice_get xs j ≡ Some x → (y : Y) × (slice_get ys j ≡ Some y) × IsGet c B (f x) (h y)

  pub known_none : (ys : List Y) → AreKnown ys 0
  known_none ys j x low at = absurd (omega (arith, low))

  -- and of one more
  pub known_more : (ys : List Y) (i : ℕ) (x : X) (y : Y) → i < length ys → slice_get xs i ≡ Some x → IsGet c B (f x) (h y) → AreKnown ys i → AreKnown (set ys i y) (i + 1)
  known_more ys i x y within here got known j z low at =
      elim (eq-or-lt_of_le (omega (arith, low))) [
        | inl e ↦ (
          y,
          subst (λ n. slice_get (set ys i y) n ≡ Some y) (sym e) (slice_get-set_same ys i y within),
          subst (λ k. IsGet c B (f k) (h y)) (some_same x z (sym here ∙ ap (slice_get xs) (sym e) ∙ at)) got,
        )
        | inr less ↦ (
            let was = known j z less at in
            (was.0, slice_get-set_other ys i j y (λ e. omega (arith, e, less)) ∙ was.1, was.2))
      ]

  -- those of all keys are what many lookups answer
  pub known_all : (ys : List Y) → length ys ≡ length xs → AreKnown ys (length xs) → AreGot c B (map f xs) (map h ys)
  known_all ys long known = record {
    on_valid = λ P is. listed f h (value_for c P) xs ys long (λ j x at. let was = known j x (slice_get_within xs j x at) at in (was.0, was.1, was.2.on_valid P is));
    on_any = stored;
  }
    where
      stored : HaveStored c B (map f xs) (map h ys)
      stored i k v at found =
          let key = mapped_some f (slice_get xs i) k (sym (slice_get-map f xs i) ∙ at) in
          let was = known i key.0 (slice_get_within xs i key.0 key.1) key.1 in
          let value : h was.0 ≡ Some v = some_same (h was.0) (Some v) (sym (slice_get-map h ys i ∙ ap (option_map h) was.1) ∙ found) in
          subst (λ q. HasStored c B q v) key.2 (subst (λ o. IfSome o (HasStored c B (f key.0))) value was.2.on_any)
