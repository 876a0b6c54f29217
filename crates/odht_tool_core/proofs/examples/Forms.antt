-- Worked examples: forms of keys and values, and what bytes are read as.
--     unsaid               nothing is said of keys and values
--     said k v             k is said of keys, and v of values
use Rattle.std.proofs.Common.{◌≡◌, ◌^◌, refl, Some, None, Ok, Err, arith}
use Rattle.std.specs.Prelude.{codes}
use Rattle.std.specs.Fmt.{digits}
use Rattle.std.specs.Int.{w32, w64}
use Rattle.odht_header.proofs.examples.Apart.{unequal_lists}
use Rattle.odht_header.proofs.examples.Opened.{opened}
use Rattle.odht_tool_core.specs.AnyShapes.{read_any}
use Rattle.odht_tool_core.specs.Forms.{count_of, number_text}
use Rattle.odht_tool_core.specs.ReadAs.{form_for}
use Rattle.odht_tool_core.specs.Signed.{signed_text, signed_value}
use Rattle.odht_tool_core.specs.declared.failure.Failure.TheVariants.{OtherKey, OtherValue}
use Rattle.odht_tool_core.specs.declared.any.AnyShape.TheVariants.{Ready, Other}
use Rattle.odht_tool_core.specs.declared.forms.Form.{Form}
use Rattle.odht_tool_core.specs.declared.forms.Form.TheVariants.{Own, Signed, BigEndian}
use Rattle.odht_tool_core.specs.declared.forms.Kind.{Kind}
use Rattle.odht_tool_core.specs.declared.forms.Kinds.{Kinds}
use Rattle.odht_tool_core.specs.declared.shapes.Hash.TheVariants.{Unhash}
use Rattle.odht_tool_core.specs.declared.shapes.Part.{Part}
use Rattle.odht_tool_core.specs.declared.shapes.Part.TheVariants.{Nothing, U32, U64, Bytes}
use Rattle.odht_tool_core.specs.declared.generated.shapes.Shape.TheVariants.{DirectU32ToU32}
use Rattle.odht_tool_core.proofs.examples.Shapes.{one_bytes}

abbrev pub kind : Part → Form → Kind
kind p f = record { part = p; form = f }

abbrev pub unsaid : Kinds
unsaid = record { key = None; value = None; hash = None }

abbrev pub said : Kind → Kind → Kinds
said k v = record { key = Some k; value = Some v; hash = None }

-- ---- numbers with a sign
-- the count of a type's numbers
pub counts : (count_of w32 ≡ 4294967296) × (count_of w64 ≡ 18446744073709551616)
counts = (refl, refl)

-- from the middle on a number stands for one below zero
pub signed : (signed_text (2 ^ 32) 4294967295 ≡ codes "-1")
    × (signed_text (2 ^ 32) 2147483648 ≡ codes "-2147483648")
    × (signed_text (2 ^ 32) 2147483647 ≡ codes "2147483647")
    × (signed_text (2 ^ 64) 9223372036854775808 ≡ codes "-9223372036854775808")
    × (signed_text (2 ^ 64) 18446744073709551615 ≡ codes "-1")
    × (signed_text (2 ^ 64) 0 ≡ codes "0")
unfolding digits
signed = (refl, refl, refl, refl, refl, refl)

-- and back; zero may have a hyphen, and digits may begin with zeros
pub values : (signed_value (2 ^ 64) (codes "-1") ≡ 18446744073709551615)
    × (signed_value (2 ^ 64) (codes "-9223372036854775808") ≡ 9223372036854775808)
    × (signed_value (2 ^ 64) (codes "9223372036854775807") ≡ 9223372036854775807)
    × (signed_value (2 ^ 32) (codes "-007") ≡ 4294967289)
    × (signed_value (2 ^ 32) (codes "-0") ≡ 0)
values = (refl, refl, refl, refl, refl)

-- a sign is not left out
pub sign_is_lost : signed_value (2 ^ 32) (codes "-1") ≡ 1 → ⊥
sign_is_lost e = omega (arith, e)

pub text_without_sign : signed_text (2 ^ 32) 4294967295 ≡ codes "1" → ⊥
unfolding digits
text_without_sign = unequal_lists _ _ refl

-- ---- the highest byte first
-- the bytes 1, 2, 0 and 0 are 2^24 + 2 * 2^16; of eight bytes the last one alone is 1
pub big_endian : (number_text w32 BigEndian 513 ≡ codes "16908288")
    × (number_text w64 BigEndian 72057594037927936 ≡ codes "1")
    × (number_text w64 Own 72057594037927936 ≡ codes "72057594037927936")
unfolding digits
big_endian = (refl, refl, refl)

-- it is not the number itself
pub other_order : number_text w64 BigEndian 1 ≡ codes "1" → ⊥
unfolding digits
other_order = unequal_lists _ _ refl

-- ---- what is said of keys and values
-- of the same type it is taken, and nothing said is the type's own; of another type, or of bytes, it is not
pub forms : (form_for None U64 ≡ Some Own)
    × (form_for (Some (kind U64 Signed)) U64 ≡ Some Signed)
    × (form_for (Some (kind U32 Signed)) U64 ≡ None)
    × (form_for (Some (kind U64 BigEndian)) (Bytes 8) ≡ None)
    × (form_for (Some (kind Nothing Own)) Nothing ≡ Some Own)
forms = (refl, refl, refl, refl, refl)

-- of a table from numbers to numbers of four bytes: types of these lengths are taken
pub read : (read_any one_bytes (Some Unhash) unsaid ≡ Ok (Ready DirectU32ToU32, record { key = Own; value = Own }))
    × (read_any one_bytes (Some Unhash) (said (kind U32 Signed) (kind U32 BigEndian)) ≡ Ok (Ready DirectU32ToU32, record { key = Signed; value = BigEndian }))
    × (read_any one_bytes (Some Unhash) (said (kind U64 Signed) (kind U32 Own)) ≡ Err (OtherKey U32))
    × (read_any one_bytes (Some Unhash) (said (kind U32 Own) (kind (Bytes 4) Own)) ≡ Ok (Other (record { key = U32; value = Bytes 4; hash = Unhash }), record { key = Own; value = Own }))
    × (read_any one_bytes (Some Unhash) (said (kind U32 Own) (kind U64 Own)) ≡ Err (OtherValue U32))
    × (read_any one_bytes (Some Unhash) (said (kind U64 Own) (kind U64 Own)) ≡ Err (OtherKey U32))
unfolding opened
read = (refl, refl, refl, refl, refl, refl)
