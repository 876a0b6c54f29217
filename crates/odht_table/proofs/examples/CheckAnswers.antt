-- Worked examples: what a line that checks bytes is answered with.
use Rattle.std.proofs.Common.{◌≡◌, ◌∙◌, ℕ, inl, inr, List, [], ◌∷◌, None, ap, refl, sym}
use Rattle.std.specs.Prelude.{codes}
use Rattle.std.specs.Fmt.{digits}
use Rattle.odht_header.proofs.examples.Apart.{unequal_lists}
use Rattle.odht_base.specs.Format.{Format}
use Rattle.odht_base.proofs.examples.Configs.{my_config}
use Rattle.odht_header.specs.Refusals.{opening_refusal, view_refusal, check_refusal, check_refusal_by}
use Rattle.odht_table.specs.Answers.{refused_text, check_text, IsChecked}

-- bytes in which no error is found are valid
pub passed : (F : Format) (B : List ℕ) → check_refusal F B ≡ None → IsChecked F B (codes "valid")
passed F B e = inl (sym (ap refused_text e))

-- two bytes are too few for a header
pub too_short : check_text my_config (79 ∷ 68 ∷ []) ≡ codes "Provided data has 2 bytes but the header needs 32"
unfolding check_refusal_by view_refusal opening_refusal digits
too_short = refl

pub refused : IsChecked my_config (79 ∷ 68 ∷ []) (codes "Provided data has 2 bytes but the header needs 32")
refused = inl (sym too_short)

-- memory may be exhausted for any bytes
pub no_room : (B : List ℕ) → IsChecked my_config B (codes "memory")
no_room B = inr refl

-- but rejected bytes are never answered with `valid`
pub not_valid : IsChecked my_config (79 ∷ 68 ∷ []) (codes "valid") → ⊥
not_valid (inl e) = unequal_lists (codes "valid") (codes "Provided data has 2 bytes but the header needs 32") refl (e ∙ too_short)
not_valid (inr e) = unequal_lists (codes "valid") (codes "memory") refl e
