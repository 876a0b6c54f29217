-- Worked examples: bytes of a length that is known only at run time, as text, and tables of such lengths.
--     wide_bytes           bytes whose header states keys of six and values of eight bytes
use Rattle.std.proofs.Common.{◌≡◌, ℕ, List, refl, [], ◌∷◌, Some, Ok, Err, arith}
use Rattle.std.specs.Prelude.{codes}
use Rattle.std.specs.Char.{is_ascii_hexdigit}
use Rattle.std.specs.Fmt.{digits}
use Rattle.std.proofs.lemmas.List.Sums.{AllPass-from_list_all}
use Rattle.odht_base.specs.Bytes.{overwritten_at}
use Rattle.odht_header.proofs.examples.Apart.{unequal_lists}
use Rattle.odht_header.proofs.examples.Opened.{opened}
use Rattle.odht_tool_core.specs.AnyShapes.{read_any}
use Rattle.odht_tool_core.specs.Forms.{bytes_form, form_in, part_in}
use Rattle.odht_tool_core.specs.DynTexts.{IsDynamicOf, StandsForDynamic, dynamic_text, dynamic_wanted}
use Rattle.odht_tool_core.specs.declared.any.AnyShape.TheVariants.{Other}
use Rattle.odht_tool_core.specs.declared.failure.Failure.TheVariants.{OtherKey, OtherValue}
use Rattle.odht_tool_core.specs.declared.forms.Form.TheVariants.{Own, Signed, BigEndian, Plain, OfNumber, OfBytes, OfText}
use Rattle.odht_tool_core.specs.declared.forms.NumberType.TheVariants.{U32 as Unsigned32, I32, U64BigEndian}
use Rattle.odht_tool_core.specs.declared.misread.Wanted.TheVariants.{Nothing as WantedNothing, Bytes as WantedBytes, Text as WantedText, I32 as WantedI32}
use Rattle.odht_tool_core.specs.declared.shapes.Hash.TheVariants.{Unhash, Xxh64}
use Rattle.odht_tool_core.specs.declared.shapes.Part.TheVariants.{Nothing, U32, U64, Bytes}
use Rattle.odht_tool_core.proofs.examples.Forms.{kind, said, unsaid}
use Rattle.odht_tool_core.proofs.examples.FoundShapes.{other, other_bytes}
use Rattle.odht_tool_core.proofs.examples.Shapes.{one_bytes}

abbrev pub wide_bytes : List ℕ
wide_bytes = overwritten_at one_bytes 5 (6 ∷ 8 ∷ [])

-- a form of stored bytes says their type, and how what is of it is written; a number is no plain text, and bytes have no sign
pub dynamic_kinds : (bytes_form Signed U32 ≡ OfNumber I32) × (bytes_form Plain U32 ≡ OfNumber Unsigned32)
    × (bytes_form BigEndian U64 ≡ OfNumber U64BigEndian) × (bytes_form Plain (Bytes 3) ≡ OfText 3)
    × (bytes_form Signed (Bytes 3) ≡ OfBytes 3) × (bytes_form Plain Nothing ≡ Own)
    × (part_in (OfNumber U64BigEndian) ≡ U64) × (form_in (OfNumber U64BigEndian) ≡ BigEndian)
    × (part_in (OfNumber I32) ≡ U32) × (form_in (OfNumber I32) ≡ Signed)
    × (part_in (OfText 3) ≡ Bytes 3) × (form_in (OfText 3) ≡ Plain) × (form_in (OfBytes 3) ≡ Own)
dynamic_kinds = (refl, refl, refl, refl, refl, refl, refl, refl, refl, refl, refl, refl, refl)

-- what is wanted of none is nothing
pub dynamic_wants : (dynamic_wanted (bytes_form Own (Bytes 12)) ≡ WantedBytes 12)
    × (dynamic_wanted (bytes_form Plain (Bytes 12)) ≡ WantedText 12)
    × (dynamic_wanted (bytes_form Signed U32) ≡ WantedI32)
    × (dynamic_wanted (bytes_form Own (Bytes 0)) ≡ WantedNothing)
    × (dynamic_wanted Own ≡ WantedNothing)
dynamic_wants = (refl, refl, refl, refl, refl)

-- a word has two digits, of either case, for each byte; no other byte's, and none is left over
pub hexadecimal : IsDynamicOf (bytes_form Own (Bytes 2)) (codes "0aFf") (10 ∷ 255 ∷ [])
hexadecimal = ((refl, AllPass-from_list_all is_ascii_hexdigit (codes "0aFf") refl), (refl, refl))

pub digits_of_another : IsDynamicOf (bytes_form Own (Bytes 2)) (codes "0aff") (10 ∷ 254 ∷ []) → ⊥
digits_of_another h = unequal_lists _ _ refl h.1.1

pub digit_left_over : IsDynamicOf (bytes_form Own (Bytes 1)) (codes "0af") (10 ∷ []) → ⊥
digit_left_over h = omega (arith, h.0.0)

-- a text has no zeros, a number has its sign or its highest byte first, and other bytes have digits
pub dynamic_texts : (dynamic_text (bytes_form Plain (Bytes 3)) (97 ∷ 98 ∷ 0 ∷ []) ≡ codes "ab")
    × (dynamic_text (bytes_form Own (Bytes 3)) (97 ∷ 98 ∷ 0 ∷ []) ≡ codes "616200")
    × (dynamic_text (bytes_form Signed U32) (255 ∷ 255 ∷ 255 ∷ 255 ∷ []) ≡ codes "-1")
    × (dynamic_text (bytes_form BigEndian U32) (0 ∷ 0 ∷ 1 ∷ 2 ∷ []) ≡ codes "258")
    × (dynamic_text (bytes_form Own U32) (1 ∷ 2 ∷ 0 ∷ 0 ∷ []) ≡ codes "513")
    × (dynamic_text (bytes_form Own U32) (1 ∷ 2 ∷ []) ≡ codes "0102")
unfolding digits
dynamic_texts = (refl, refl, refl, refl, refl, refl)

-- a text is stored with zeros behind it, not with spaces, and in as many bytes as its type has
pub padded : StandsForDynamic (bytes_form Plain (Bytes 3)) (codes "ab") (97 ∷ 98 ∷ 0 ∷ [])
padded = (refl, refl)

pub padded_by_spaces : StandsForDynamic (bytes_form Plain (Bytes 3)) (codes "ab") (97 ∷ 98 ∷ 32 ∷ []) → ⊥
padded_by_spaces h = unequal_lists _ _ refl h.1

pub padded_less : StandsForDynamic (bytes_form Plain (Bytes 3)) (codes "ab") (97 ∷ 98 ∷ []) → ⊥
padded_less h = omega (arith, h.0)

-- the highest byte of a number comes first where that is said
pub high_first : StandsForDynamic (bytes_form BigEndian U32) (codes "258") (0 ∷ 0 ∷ 1 ∷ 2 ∷ [])
high_first = (refl, refl)

pub low_first : StandsForDynamic (bytes_form BigEndian U32) (codes "258") (2 ∷ 1 ∷ 0 ∷ 0 ∷ []) → ⊥
low_first h = omega (arith, h.1)

-- of a table that is no ready shape types of the same lengths are taken, and each for its own; and where nothing is said
-- those that keys and values of these lengths have by themselves
pub read_other : (read_any other_bytes (Some Unhash) unsaid ≡ Ok (Other (other 6 2 Unhash), record { key = Own; value = Own }))
    × (read_any other_bytes (Some Unhash) (said (kind (Bytes 6) Plain) (kind (Bytes 2) Own)) ≡ Ok (Other (other 6 2 Unhash), record { key = Plain; value = Own }))
    × (read_any wide_bytes (Some Unhash) (said (kind (Bytes 6) Plain) (kind U64 Signed)) ≡ Ok (Other (record { key = Bytes 6; value = U64; hash = Unhash }), record { key = Plain; value = Signed }))
    × (read_any wide_bytes (Some Unhash) (said (kind (Bytes 5) Plain) (kind U64 Own)) ≡ Err (OtherKey (Bytes 6)))
    × (read_any wide_bytes (Some Unhash) (said (kind (Bytes 6) Plain) (kind U32 Own)) ≡ Err (OtherValue U64))
    × (read_any (overwritten_at one_bytes 5 (4 ∷ 4 ∷ [])) (Some Xxh64) unsaid ≡ Ok (Other (record { key = U32; value = U32; hash = Xxh64 }), record { key = Own; value = Own }))
unfolding opened
read_other = (refl, refl, refl, refl, refl, refl)
