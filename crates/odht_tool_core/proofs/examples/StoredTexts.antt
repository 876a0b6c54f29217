-- Worked examples: the texts of stored bytes.
--     texts                of keys of two bytes in digits, and of numbers of four bytes with a sign as values
use Rattle.std.proofs.Common.{◌≡◌, refl, [], ◌∷◌}
use Rattle.std.specs.Prelude.{codes}
use Rattle.std.specs.Fmt.{digits}
use Rattle.odht_header.proofs.examples.Apart.{unequal_lists}
use Rattle.odht_tool_core.specs.StoredTexts.{key_text, stored_text, texts_of, value_text}
use Rattle.odht_tool_core.specs.declared.any.AnyShape.TheVariants.{Ready, Other}
use Rattle.odht_tool_core.specs.declared.forms.Form.TheVariants.{Own, Signed, BigEndian, Plain}
use Rattle.odht_tool_core.specs.declared.shapes.Hash.TheVariants.{Fx}
use Rattle.odht_tool_core.specs.declared.shapes.Part.TheVariants.{Nothing, U32, U64, Bytes}
use Rattle.odht_tool_core.specs.declared.generated.shapes.Shape.TheVariants.{U64ToU32}
use Rattle.odht_tool_core.specs.declared.typed.Texts.{Texts}

-- a number is written by its form, bytes are digits or plain, and nothing has no text
pub stored : (stored_text Own U32 (1 ∷ 2 ∷ 0 ∷ 0 ∷ []) ≡ codes "513")
    × (stored_text BigEndian U32 (1 ∷ 2 ∷ 0 ∷ 0 ∷ []) ≡ codes "16908288")
    × (stored_text Signed U32 (255 ∷ 255 ∷ 255 ∷ 255 ∷ []) ≡ codes "-1")
    × (stored_text Own U64 (0 ∷ 0 ∷ 0 ∷ 0 ∷ 1 ∷ 0 ∷ 0 ∷ 0 ∷ []) ≡ codes "4294967296")
    × (stored_text Own (Bytes 2) (10 ∷ 255 ∷ []) ≡ codes "0aff")
    × (stored_text Plain (Bytes 2) (97 ∷ 0 ∷ []) ≡ codes "a")
    × (stored_text Own Nothing [] ≡ [])
unfolding digits
stored = (refl, refl, refl, refl, refl, refl, refl)

-- the type tells how bytes are read
pub other_type : stored_text Own U32 (1 ∷ 2 ∷ 0 ∷ 0 ∷ []) ≡ stored_text Own (Bytes 4) (1 ∷ 2 ∷ 0 ∷ 0 ∷ []) → ⊥
unfolding digits
other_type = unequal_lists _ _ refl

abbrev pub texts : Texts
texts = record { key = Bytes 2; value = U32; forms = record { key = Own; value = Signed } }

-- keys and values have their own types and forms
pub both : (key_text texts (10 ∷ 255 ∷ []) ≡ codes "0aff") × (value_text texts (254 ∷ 255 ∷ 255 ∷ 255 ∷ []) ≡ codes "-2")
unfolding digits
both = (refl, refl)

-- those of a shape are those of its keys and values
pub shapes : (texts_of (Ready U64ToU32) (record { key = Signed; value = Own }) ≡ record { key = U64; value = U32; forms = record { key = Signed; value = Own } })
    × (texts_of (Other (record { key = Bytes 3; value = Bytes 0; hash = Fx })) (record { key = Own; value = Own })
    ≡ record { key = Bytes 3; value = Bytes 0; forms = record { key = Own; value = Own } })
shapes = (refl, refl)
