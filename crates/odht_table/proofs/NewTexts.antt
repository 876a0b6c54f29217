-- What a `new` is answered with, and which table is there afterwards.
use Rattle.std.proofs.Common.{◌≡◌, ◌<◌, ◌≤◌, ◌↔◌, ◌⊎◌, ◌++◌, ◌∙◌, ℕ, List, refl, sym, append_assoc, arith, Option, Result, Ok, Err, inl, inr}
use Rattle.std.specs.Result.{OnOk, IsErrOf}
use Rattle.odht_base.specs.Format.{Format}
use Rattle.odht_base.specs.Load.{factor_of}
use Rattle.odht_base.specs.Table.{Table}
use Rattle.odht_header.specs.Refusals.{IsTooLarge}
use Rattle.odht_table.specs.declared.script.Refusal.{Refusal}
use Rattle.odht_table.specs.declared.script.Refusal.TheVariants.{BadPercent, Capacity, Memory}
use Rattle.odht_table.specs.Answers.{IsGoodPercent, IsRenewed}
use Rattle.odht_table.specs.Answers.IsRenewed.{bad_percent, capacity, memory}
use Rattle.odht_table.specs.Messages.{refusal_text}

-- a percentage that is not too low or too high
pub good_percent : (percent : ℕ) → ¬ ((percent < 1) ⊎ (100 < percent)) → IsGoodPercent percent
good_percent percent h = (omega (arith, λ (l : percent < 1). h (inl l)), omega (arith, λ (l : 100 < percent). h (inr l)))

not_good : (percent : ℕ) → IsGoodPercent percent → ¬ ((percent < 1) ⊎ (100 < percent))
not_good percent good (inl low) = omega (arith, low, good.0)
not_good percent good (inr high) = omega (arith, high, good.1)

-- what holds on `Ok` holds of what follows from it
pub OnOk-more : {T E P Q : Type 0} (r : Result T E) → (P → Q) → OnOk r P → OnOk r Q
OnOk-more (Ok x) f h = f h
OnOk-more (Err e) f h = h

-- and so does what holds always
pub OnOk-always : {T E Q : Type 0} (r : Result T E) → Q → OnOk r Q
OnOk-always (Ok x) h = h
OnOk-always (Err e) h = tt

-- an error is answered with its text, and keeps the table
pub refused_new : {T : Type 0} (F : Format) (items percent : ℕ) (refusal : Refusal) (old : Option Table)
    → IsErrOf {T = T} (Err refusal) BadPercent ↔ ((percent < 1) ⊎ (100 < percent))
    → (1 ≤ percent → percent ≤ 100 → IsErrOf {T = T} (Err refusal) Capacity ↔ IsTooLarge F items (factor_of percent))
    → IsRenewed F items percent (refusal_text refusal) old old
refused_new F items percent BadPercent old bad lacks = bad_percent old (λ good. not_good percent good (bad.0 refl))
refused_new F items percent Capacity old bad lacks =
    let good = good_percent percent (λ h. let e = bad.1 h in cc) in
    capacity old good ((lacks good.0 good.1).0 refl)
refused_new F items percent Memory old bad lacks =
    let good = good_percent percent (λ h. let e = bad.1 h in cc) in
    memory old good (λ h. let e = (lacks good.0 good.1).1 h in cc)

-- five pieces, joined from the end and from the front
pub joined : (a b c d e : List ℕ) → a ++ (b ++ (c ++ (d ++ e))) ≡ (((a ++ b) ++ c) ++ d) ++ e
joined a b c d e = sym (append_assoc (a ++ b ++ c) d e ∙ append_assoc (a ++ b) c (d ++ e) ∙ append_assoc a b (c ++ (d ++ e)))
