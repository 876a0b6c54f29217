-- What the insert into a view says of the insert into an owned table whose lengths are known only at run time.
use Rattle.std.proofs.Common.{◌≡◌, ℕ, List, Option, Result, Ok, Err, OnErr, refl, sym, ◌∙◌, subst, ap, Some, None, inl, inr, arith}
use Rattle.std.specs.Result.{result_map_both}
use Rattle.std.proofs.lemmas.Option.{none-some}
use Rattle.odht_base.specs.Insert.{IsFullFor}
use Rattle.odht_raw.specs.Words.{checked, Coding, Error, Full, IsImage, Table}
use Rattle.odht_base.proofs.lemmas.Options.{some_same}
use Rattle.odht_header.specs.Layouts.{IsLayout}
use Rattle.odht_header.specs.Refusals.{IsTooLarge}
use Rattle.odht_header.specs.declared.error.Error.TheVariants.{Capacity, Memory}
use Rattle.odht.specs.DynInserts.{IsDynInsert}
use Rattle.odht.specs.Inserts.{IsInsertInto}
use Rattle.odht.specs.NewTables.{FailsAsNew, FailsBy}
use Rattle.odht.specs.declared.dynamic.DynError.{DynError}
use Rattle.odht.specs.declared.dynamic.DynError.TheVariants.{Rejected}
use Rattle.odht.proofs.lemmas.NewRefusals.{not_both, not_ok}

module _ {K V : Type 0} (c : Coding K V) (B B' : List ℕ) (k : K) (v : V) (r : Result (Option V) DynError) (h : IsDynInsert c B k v r B') (P : Table) (is : IsImage c.format P B) where
  -- an insert that succeeds is that into the view
  pub took : (o : Option V) → r ≡ Ok o → IsInsertInto c P k v (Ok o) B'
  took o was = go h.answer h.is (h.insert.on_valid P is)
    where
      go : (a : Result (Option V) Error) → r ≡ result_map_both (λ x. x) Rejected a → IsInsertInto c P k v a B' → IsInsertInto c P k v (Ok o) B'
      go (Ok p) e into = let same : p ≡ o = cc in subst (λ x. IsInsertInto c P k v (Ok x) B') same into
      go (Err x) e into = absurd cc

  -- one that fails finds the table full
  pub found_full : (e : DynError) → r ≡ Err e → IsFullFor P (c.key_bytes k)
  found_full e was = go h.answer h.is (h.insert.on_valid P is) h.insert.on_any.only_full
    where
      go : (a : Result (Option V) Error) → r ≡ result_map_both (λ x. x) Rejected a → IsInsertInto c P k v a B' → OnErr a (a ≡ Err Full) → IsFullFor P (c.key_bytes k)
      go (Ok p) e into full = absurd cc
      go (Err x) e into full = into.full.0 full

-- ---- the errors of a new table
module _ {K V : Type 0} (c : Coding K V) (n f : ℕ) where
  -- where it is too large
  pub fails_large : {T : Type 0} → IsTooLarge c.format n f → FailsAsNew {T = T} c n f (Err Capacity)
  fails_large large = record { capacity = (λ e. large, λ l. refl); memory = inl refl }

  module _ (s len : ℕ) (layout : IsLayout c.format n f s len) where
    not_large : IsTooLarge c.format n f → ⊥
    not_large large = let long = large s layout.slots in omega (arith, long, layout.long, layout.fits)

    -- where there is no memory
    pub fails_memory : {T : Type 0} → FailsAsNew {T = T} c n f (Err Memory)
    fails_memory = record { capacity = (λ e. absurd (not_both _ e refl), λ l. absurd (not_large l)); memory = inr refl }

    -- where it is made
    pub fails_never : {T : Type 0} (t : T) → FailsAsNew c n f (Ok t)
    fails_never t = record { capacity = (λ e. absurd (not_ok _ refl e), λ l. absurd (not_large l)); memory = tt }

-- ---- the errors of a copy of bytes
-- a check without an error has none
pub no_error : (r : Result Unit Error) (o : Option Error) → r ≡ checked o → ((e : Error) → r ≡ Err e → ⊥) → o ≡ None
no_error r None is never = refl
no_error r (Some e) is never = absurd (never e is)

module _ {T : Type 0} (o : Option Error) where
  -- where there is an error it is returned
  pub fails_by : (e : Error) → o ≡ Some e → FailsBy {T = T} o (Err e)
  fails_by e is = record { refused = λ x other. ap Err (some_same e x (sym is ∙ other)); memory = λ none. absurd (none-some e (sym none ∙ is)) }

  -- where there is none, only memory may be refused
  pub fails_by_memory : o ≡ None → FailsBy {T = T} o (Err Memory)
  fails_by_memory none = record { refused = λ x is. absurd (none-some x (sym none ∙ is)); memory = λ e. refl }

  pub fails_by_never : o ≡ None → (t : T) → FailsBy o (Ok t)
  fails_by_never none t = record { refused = λ x is. absurd (none-some x (sym none ∙ is)); memory = λ e. tt }
