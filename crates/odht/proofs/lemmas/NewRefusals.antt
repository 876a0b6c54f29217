-- The errors of a new table, case by case.
use Rattle.std.proofs.Common.{◌≡◌, ◌≢◌, ◌≤◌, ◌<◌, ◌^◌, ◌∙◌, ℕ, Bool, true, false, not, nat_le, ap, sym, refl, [], ◌∷◌, Option, Some, None, Result, Ok, Err, OnErr, ◌⊎◌, inl, inr, arith, leb-true, le-leb, le-ltb, ltb-false, ne_eqb}
use Rattle.std.proofs.lemmas.Result.{IfErr-at_err}
use Rattle.odht_raw.specs.Words.{Coding, differs, Error, factor_of, first_of, Format, image_len, ◌gives◌}
use Rattle.odht_base.specs.Load.{slots_for}
use Rattle.std.specs.Option.{option_map_or}
use Rattle.std.specs.Bool.{then_some}
use Rattle.std.specs.Prelude.{nat_lt, ◌↔◌}
use Rattle.std.proofs.lemmas.Option.{none-some}
use Rattle.odht_base.proofs.lemmas.Options.{some_same}
use Rattle.odht_header.specs.Refusals.{IsTooLarge, new_refusal, slots_new_refusal}
use Rattle.odht_header.specs.declared.error.Error.TheVariants.{Capacity, InitLength, Memory}
use Rattle.odht_header.proofs.lemmas.FirstErrors.{false-differs}
use Rattle.odht.specs.Growths.{table_len}
use Rattle.odht.specs.NewTables.{FailsAsNew}

-- what is not below is no less
not_le : (a b : ℕ) → b < a → nat_le a b ≡ false
not_le a b h = go (nat_le a b) refl
  where
    go : (t : Bool) → nat_le a b ≡ t → t ≡ false
    go false e = refl
    go true e = let le = leb-true a b e in absurd (omega (arith, le, h))

module _ (F : Format) (n f len : ℕ) where
  -- no slot count is enough
  pub new_refusal-none : slots_for n f ≡ None → new_refusal F n f len ≡ Some Capacity
  unfolding new_refusal
  new_refusal-none e = ap (λ o. option_map_or (slots_new_refusal F len) o (Some Capacity)) e

  module _ (s : ℕ) (e : slots_for n f ≡ Some s) where
    -- the bytes are those of the slot count
    some_slots : new_refusal F n f len ≡ slots_new_refusal F len s
    unfolding new_refusal
    some_slots = ap (λ o. option_map_or (slots_new_refusal F len) o (Some Capacity)) e

    -- they pass the largest length
    pub new_refusal-too_long : 2 ^ 64 ≤ image_len F s → new_refusal F n f len ≡ Some Capacity
    new_refusal-too_long h =
        some_slots ∙ ap (λ c. first_of ((c gives Capacity) ∷ (differs len (image_len F s) gives InitLength len (image_len F s)) ∷ [])) (le-leb (2 ^ 64) (image_len F s) h)

    -- there are more or fewer
    pub new_refusal-wrong : image_len F s < 2 ^ 64 → len ≢ image_len F s → new_refusal F n f len ≡ Some (InitLength len (image_len F s))
    new_refusal-wrong low other =
        let short = not_le (2 ^ 64) (image_len F s) low in
        let wrong = ap not (ne_eqb len (image_len F s) other) in
        some_slots ∙ (λ i. first_of ((short i gives Capacity) ∷ (wrong i gives InitLength len (image_len F s)) ∷ []))

    -- there are as many
    pub new_refusal-fits : image_len F s < 2 ^ 64 → len ≡ image_len F s → new_refusal F n f len ≡ None
    new_refusal-fits low same =
        let short = not_le (2 ^ 64) (image_len F s) low in
        let right = false-differs len (image_len F s) same in
        some_slots ∙ (λ i. first_of ((short i gives Capacity) ∷ (right i gives InitLength len (image_len F s)) ∷ []))

  -- there is no such table
  pub new_refusal-large : IsTooLarge F n f → new_refusal F n f len ≡ Some Capacity
  new_refusal-large large = go (slots_for n f) refl
    where
      go : (o : Option ℕ) → slots_for n f ≡ o → new_refusal F n f len ≡ Some Capacity
      go None e = new_refusal-none e
      go (Some s) e = new_refusal-too_long s e (large s e)

-- ---- the length of a new table
module _ (F : Format) (n f : ℕ) where
  -- a length is that of the slots for that many items
  pub new_len-some : (len : ℕ) → Some len ≡ table_len F (slots_for n f) → (s : ℕ) × (slots_for n f ≡ Some s) × (len ≡ image_len F s)
  new_len-some len e = go (slots_for n f) refl e
    where
      fits : (s : ℕ) (t : Bool) → Some len ≡ then_some t (image_len F s) → len ≡ image_len F s
      fits s true e = some_same len (image_len F s) e
      fits s false e = absurd (none-some len (sym e))

      go : (o : Option ℕ) → slots_for n f ≡ o → Some len ≡ table_len F o → (s : ℕ) × (slots_for n f ≡ Some s) × (len ≡ image_len F s)
      go None is e = absurd (none-some len (sym e))
      go (Some s) is e = (s, is, fits s (nat_lt (image_len F s) (2 ^ 64)) e)

  -- there is none exactly where the table is too large
  pub new_len-none : (None ≡ table_len F (slots_for n f)) ↔ IsTooLarge F n f
  new_len-none = (
    λ e s is. (
        let none : None ≡ table_len F (Some s) = e ∙ ap (table_len F) is in
        not_lt (image_len F s) none),
    λ large. go (slots_for n f) refl large,
  )
    where
      not_lt : (l : ℕ) → None ≡ then_some (nat_lt l (2 ^ 64)) l → 2 ^ 64 ≤ l
      not_lt l e = by (nat_lt l (2 ^ 64)) refl e
        where
          by : (t : Bool) → nat_lt l (2 ^ 64) ≡ t → None ≡ then_some t l → 2 ^ 64 ≤ l
          by true is e = absurd (none-some l e)
          by false is e = ltb-false l (2 ^ 64) is

      go : (o : Option ℕ) → slots_for n f ≡ o → IsTooLarge F n f → None ≡ table_len F o
      go None is large = refl
      go (Some s) is large = sym (ap (λ t. then_some t (image_len F s)) (le-ltb (image_len F s) (2 ^ 64) (large s is)))

-- ---- a new table in memory of its own
-- the default table is not too large
pub default_fits : (F : Format) → F.key_len ≤ 255 → F.value_len ≤ 255 → IsTooLarge F 12 (factor_of 87) → ⊥
unfolding slots_for
default_fits F key value large = let long = large 16 refl in omega (arith, long, key, value)

-- an error that is not `Capacity` is `Memory`
pub only_memory : {T : Type 0} (r : Result T Error) → OnErr r ((r ≡ Err Capacity) ⊎ (r ≡ Err Memory)) → (r ≡ Err Capacity → ⊥) → OnErr r (r ≡ Err Memory)
only_memory (Ok t) either fits = tt
only_memory (Err e) (inl large) fits = absurd (fits large)
only_memory (Err e) (inr refused) fits = refused

-- ---- an error that is passed on
-- a result is one error
pub not_both : {T : Type 0} (r : Result T Error) → r ≡ Err Capacity → r ≡ Err Memory → ⊥
not_both r a b = cc

-- a result is not both a value and an error
pub not_ok : {T : Type 0} {t : T} {e : Error} (r : Result T Error) → r ≡ Ok t → r ≡ Err e → ⊥
not_ok r a b = cc

-- the same error in a result of another type
pub passed_on : {T U : Type 0} (r : Result T Error) (s : Result U Error) {x y z : Error} → r ≡ Err x → x ≡ y → s ≡ Err y → s ≡ Err z → r ≡ Err z
passed_on r s a same b c = cc

-- what holds holds of an error too
pub on_err : {T X : Type 0} (r : Result T Error) → X → OnErr r X
on_err (Ok t) x = tt
on_err (Err e) x = x

-- the one of the two errors that is passed on
pub either : {T U : Type 0} (r : Result T Error) {s : Result U Error} {y : Error} → r ≡ Err y → s ≡ Err y
    → OnErr s ((s ≡ Err Capacity) ⊎ (s ≡ Err Memory)) → OnErr r ((r ≡ Err Capacity) ⊎ (r ≡ Err Memory))
either r {s = s} {y = y} a b h = on_err r (go (IfErr-at_err (λ _. (s ≡ Err Capacity) ⊎ (s ≡ Err Memory)) b h))
  where
    go : (s ≡ Err Capacity) ⊎ (s ≡ Err Memory) → (r ≡ Err Capacity) ⊎ (r ≡ Err Memory)
    go (inl large) = inl (passed_on r s a refl b large)
    go (inr memory) = inr (passed_on r s a refl b memory)

-- ---- the errors of a new table
module _ {K V : Type 0} (c : Coding K V) (n : ℕ) where
  module _ (f : ℕ) {U : Type 0} (s : Result U Error) (fails : FailsAsNew c n f s) where
    -- an error that is passed on is as it was
    pub fails-passed : {T : Type 0} (r : Result T Error) {x y : Error} → r ≡ Err x → x ≡ y → s ≡ Err y → FailsAsNew c n f r
    fails-passed r a same b = record {
      capacity = (λ e. fails.capacity.0 (passed_on s r b (sym same) a e), λ large. passed_on r s a same b (fails.capacity.1 large));
      memory = either r (a ∙ ap Err same) b fails.memory;
    }

    -- a table that was made is not too large
    pub fails-made : {T : Type 0} {u : U} (t : T) → s ≡ Ok u → FailsAsNew c n f (Ok t)
    fails-made t made = record { capacity = (λ e. absurd (not_ok (Ok t) refl e), λ large. absurd (not_ok s made (fails.capacity.1 large))); memory = tt }

    -- nor is one for whose items there was no memory
    pub fails-later : {T : Type 0} {u : U} (r : Result T Error) → s ≡ Ok u → r ≡ Err Memory → FailsAsNew c n f r
    fails-later r made memory = record {
      capacity = (λ e. absurd (not_both r e memory), λ large. absurd (not_ok s made (fails.capacity.1 large)));
      memory = on_err r (inr memory);
    }
