-- Worked examples: plain texts, and what they are stored as.
use Rattle.std.proofs.Common.{◌≡◌, refl, true, false, [], ◌∷◌}
use Rattle.std.specs.Prelude.{codes}
use Rattle.odht_header.proofs.examples.Apart.{unequal_lists}
use Rattle.odht_tool_core.specs.Forms.{bytes_text}
use Rattle.odht_tool_core.specs.PlainTexts.{PadsText, is_plain, plain_text}
use Rattle.odht_tool_core.specs.declared.forms.Form.TheVariants.{Own, Plain}

-- a space, a byte of UTF-8 and a hyphen may be in one; NUL, a tab and the bytes of a line end may not
pub plain : (is_plain 32 ≡ true) × (is_plain 195 ≡ true) × (is_plain 45 ≡ true) × (is_plain 0 ≡ false) × (is_plain 9 ≡ false) × (is_plain 10 ≡ false) × (is_plain 13 ≡ false)
plain = (refl, refl, refl, refl, refl, refl, refl)

-- "ab" in four bytes, a text of all its bytes, and one of none
pub padded : PadsText (codes "ab") (97 ∷ 98 ∷ 0 ∷ 0 ∷ [])
    × PadsText (codes "ab") (97 ∷ 98 ∷ [])
    × PadsText [] (0 ∷ 0 ∷ [])
padded = (refl, refl, refl)

-- and back: zeros inside stay; the same bytes have other texts as hexadecimal digits
pub texts : (plain_text (97 ∷ 98 ∷ 0 ∷ 0 ∷ []) ≡ codes "ab")
    × (plain_text (97 ∷ 0 ∷ 98 ∷ 0 ∷ []) ≡ 97 ∷ 0 ∷ 98 ∷ [])
    × (plain_text (0 ∷ 0 ∷ []) ≡ [])
    × (bytes_text Plain (97 ∷ 0 ∷ []) ≡ codes "a")
    × (bytes_text Own (97 ∷ 0 ∷ []) ≡ codes "6100")
texts = (refl, refl, refl, refl, refl)

-- a text that is cut is not stored as the whole one is
pub cut : PadsText (codes "abc") (97 ∷ 98 ∷ []) → ⊥
cut = unequal_lists _ _ refl

-- nor is one with other bytes behind it
pub other_fill : PadsText (codes "a") (97 ∷ 1 ∷ []) → ⊥
other_fill = unequal_lists _ _ refl
