use Rattle.std.proofs.Common.{◌∙◌, refl, sym, true≢false}
use Rattle.odht_calls.proofs.lemmas.Layouts.{by_none}
use Rattle.odht_c.proofs.any.odht_any_sizes.Goals as goal

pub returns-else-has_hash-3 : goal.returns-else-has_hash-3
returns-else-has_hash-3 c =
    by_none _ _ _ _ (λ h. true≢false (sym (c.has_hash.ensures.has.1 h) ∙ c.if-has_hash.false)) (λ h. true≢false (sym (c.has_hash-else-has_hash.ensures.has.1 h) ∙ c.if-has_hash-2.false))
    (λ h. true≢false (sym (c.has_hash-else-has_hash-2.ensures.has.1 h) ∙ c.if-has_hash-3.false)) refl (refl, refl, refl)
