-- Worked examples: a file that is checked whole, and two files that go together.
use Rattle.std.proofs.Common.{◌≡◌, refl, [], ◌∷◌, true, false, Some, None, Ok, Err}
use Rattle.std.specs.Prelude.{codes}
use Rattle.std.specs.Fmt.{digits}
use Rattle.odht_base.specs.Bounds.{first_longer}
use Rattle.odht_header.specs.declared.error.Error.TheVariants.{TooShort, SearchTooLong}
use Rattle.odht_header.proofs.examples.Opened.{opened}
use Rattle.odht_tool_core.specs.declared.any.AnyShape.TheVariants.{Ready, Other}
use Rattle.odht_tool_core.specs.declared.failure.Failure.TheVariants.{Refused, OtherKey}
use Rattle.odht_tool_core.specs.declared.forms.Form.TheVariants.{Own, Signed}
use Rattle.odht_tool_core.specs.declared.shapes.Hash.TheVariants.{Fx, Unhash}
use Rattle.odht_tool_core.specs.declared.shapes.Part.TheVariants.{U32, U64, Bytes}
use Rattle.odht_tool_core.specs.declared.generated.shapes.Shape.TheVariants.{U32ToU32, DirectU32ToU32, U64ToU32, U64ToU64}
use Rattle.odht_tool_core.proofs.examples.Forms.{kind, said, unsaid}
use Rattle.odht_tool_core.proofs.examples.Shapes.{one_bytes}
use Rattle.odht_tool_tables.specs.Wholes.{have_same_sizes, sizes_of, sizes_text, whole_any}

-- a file has its shape with the forms that are said; or a bound, no table, or keys of another type are why it is not compared
pub whole : (whole_any one_bytes None (said (kind U32 Signed) (kind U32 Own)) (Some 128) ≡ Ok (Ready DirectU32ToU32, record { key = Signed; value = Own }))
    × (whole_any one_bytes None unsaid (Some 0) ≡ Err (Refused (SearchTooLong 0 0)))
    × (whole_any (79 ∷ 68 ∷ []) None unsaid None ≡ Err (Refused (TooShort 2)))
    × (whole_any one_bytes None (said (kind U64 Own) (kind U32 Own)) None ≡ Err (OtherKey U32))
unfolding opened first_longer
whole = (refl, refl, refl, refl)

-- the hash functions may differ, and a ready shape has the sizes of another one; the lengths of keys and of values may not
pub sizes : (have_same_sizes (Ready U32ToU32) (Ready DirectU32ToU32) ≡ true)
    × (have_same_sizes (Ready U64ToU32) (Other (record { key = Bytes 8; value = U32; hash = Unhash })) ≡ true)
    × (have_same_sizes (Ready U64ToU32) (Ready U64ToU64) ≡ false)
    × (have_same_sizes (Ready U32ToU32) (Ready U64ToU32) ≡ false)
sizes = (refl, refl, refl, refl)

-- what is said of both
pub lengths : (sizes_of (Ready U64ToU32) ≡ (8, 4)) × (sizes_of (Other (record { key = Bytes 3; value = Bytes 0; hash = Fx })) ≡ (3, 0))
lengths = (refl, refl)

pub other_sizes : sizes_text (codes "b") (codes "a") (3, 0) (8, 4) ≡ codes "odht: b: its keys have 3 and its values 0 bytes, those of a 8 and 4\n"
unfolding digits
other_sizes = refl
