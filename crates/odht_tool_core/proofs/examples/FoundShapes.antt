-- Worked examples: the shape whose hash function the control bytes of a file have.
use Rattle.std.proofs.Common.{◌≡◌, ℕ, List, refl, [], ◌∷◌, Some, None, Ok, Err}
use Rattle.odht_base.proofs.examples.Configs.{direct_config}
use Rattle.odht_base.specs.Bytes.{overwritten_at}
use Rattle.odht_base.specs.Image.{image}
use Rattle.odht_base.specs.Table.{empty}
use Rattle.odht_header.proofs.examples.Opened.{opened}
use Rattle.odht_tool_core.specs.AnyShapes.{any_of_kinds, checked_any, named_any, found_any}
use Rattle.odht_tool_core.specs.FoundShapes.{hinted_hash, said_hash}
use Rattle.odht_tool_core.specs.declared.failure.Failure.TheVariants.{NoHash, ShortKeys}
use Rattle.odht_tool_core.specs.declared.any.AnyShape.TheVariants.{Ready, Other}
use Rattle.odht_tool_core.specs.declared.any.OtherShape.{OtherShape}
use Rattle.odht_tool_core.specs.declared.forms.Form.TheVariants.{Own, Signed, Plain}
use Rattle.odht_tool_core.specs.declared.shapes.Hash.{Hash}
use Rattle.odht_tool_core.specs.declared.shapes.Hash.TheVariants.{Fx, Unhash, Xxh64}
use Rattle.odht_tool_core.specs.declared.shapes.Part.TheVariants.{Nothing, U32, U64, Bytes}
use Rattle.odht_tool_core.specs.declared.generated.shapes.Shape.TheVariants.{U32ToU32, DirectU32ToU32, U64ToU32}
use Rattle.odht_tool_core.proofs.examples.Forms.{kind}
use Rattle.odht_tool_core.proofs.examples.Shapes.{one_bytes}

-- the same bytes with keys of six and values of two bytes, whose first four are those that unhash reads
abbrev pub other_bytes : List ℕ
other_bytes = overwritten_at one_bytes 5 (6 ∷ 2 ∷ [])

abbrev pub other : ℕ → ℕ → Hash → OtherShape
other k v h = record { key = Bytes k; value = Bytes v; hash = h }

-- where it is rejected under fx the hint is unhash, and under unhash there is none
pub hints : (hinted_hash one_bytes Fx ≡ Some Unhash)
    × (hinted_hash one_bytes Xxh64 ≡ Some Unhash)
    × (hinted_hash one_bytes Unhash ≡ None)
    × (hinted_hash (overwritten_at one_bytes 165 (1 ∷ [])) Fx ≡ None)
unfolding opened
hints = (refl, refl, refl, refl)

-- ---- of any sizes
-- of a table whose hashes are the keys that of unhash is found, though another is before it in the list; a hash function
-- that is named is taken, and without items the first is; else the lengths of the header, under the hash function that is
-- found, or that is named
pub any_found : (found_any one_bytes None ≡ Ok (Ready DirectU32ToU32))
    × (found_any one_bytes (Some Fx) ≡ Ok (Ready U32ToU32))
    × (found_any (image direct_config (empty 16 0)) None ≡ Ok (Ready U32ToU32))
    × (found_any other_bytes None ≡ Ok (Other (other 6 2 Unhash)))
    × (found_any other_bytes (Some Fx) ≡ Ok (Other (other 6 2 Fx)))
    × (found_any other_bytes (Some Xxh64) ≡ Ok (Other (other 6 2 Xxh64)))
    × (named_any other_bytes None ≡ Ok (Other (other 6 2 Xxh64)))
unfolding opened
any_found = (refl, refl, refl, refl, refl, refl, refl)

-- what is said of keys counts where no hash function is named, and all control bytes fit it, as in a table without items
pub said : (said_hash one_bytes None (Some Unhash) ≡ Some Unhash)
    × (said_hash one_bytes None (Some Fx) ≡ None)
    × (said_hash one_bytes (Some Xxh64) (Some Unhash) ≡ Some Xxh64)
    × (said_hash (image direct_config (empty 16 0)) None (Some Xxh64) ≡ Some Xxh64)
    × (said_hash (79 ∷ 68 ∷ []) None (Some Fx) ≡ None)
unfolding opened
said = (refl, refl, refl, refl, refl)

-- with another control byte no hash function fits, but one that is named is taken
pub none_found : (found_any (overwritten_at one_bytes 165 (1 ∷ [])) None ≡ Err (NoHash 4 4))
    × (found_any (overwritten_at one_bytes 165 (1 ∷ [])) (Some Unhash) ≡ Ok (Ready DirectU32ToU32))
    × (found_any (overwritten_at other_bytes 165 (1 ∷ [])) None ≡ Err (NoHash 6 2))
unfolding opened
none_found = (refl, refl, refl)

-- but what is checked has the first shape of its lengths then, so that the rule is found that is broken
pub checked : (checked_any one_bytes None ≡ Ok (Ready DirectU32ToU32))
    × (checked_any one_bytes (Some Fx) ≡ Ok (Ready U32ToU32))
    × (checked_any (overwritten_at one_bytes 165 (1 ∷ [])) None ≡ Ok (Ready U32ToU32))
    × (checked_any (overwritten_at one_bytes 5 (3 ∷ [])) (Some Unhash) ≡ Err (ShortKeys 3))
unfolding opened
checked = (refl, refl, refl, refl)

-- with a wrong tag some shape will do
pub early : (named_any (overwritten_at other_bytes 0 (0 ∷ [])) None ≡ Ok (Ready U64ToU32)) × (named_any [] (Some Unhash) ≡ Ok (Ready U64ToU32))
unfolding opened
early = (refl, refl)

-- keys of three bytes are too short for unhash
pub short_keys : (named_any (overwritten_at one_bytes 5 (3 ∷ [])) (Some Unhash) ≡ Err (ShortKeys 3))
    × (named_any (overwritten_at one_bytes 5 (3 ∷ [])) None ≡ Ok (Other (other 3 4 Xxh64)))
unfolding opened
short_keys = (refl, refl)

-- of what is said a ready shape is taken where there is one, else another of these types under the hash function that is
-- named, or the default: unhash for 8 to 32 bytes, and xxh64 for fewer and for more; none of keys that are too short
pub said_shapes : (any_of_kinds (kind U32 Own) (kind U32 Signed) None ≡ Some (Ready U32ToU32))
    × (any_of_kinds (kind (Bytes 12) Own) (kind (Bytes 5) Own) None ≡ Some (Other (other 12 5 Unhash)))
    × (any_of_kinds (kind (Bytes 8) Own) (kind (Bytes 5) Own) None ≡ Some (Other (other 8 5 Unhash)))
    × (any_of_kinds (kind (Bytes 7) Own) (kind (Bytes 5) Own) None ≡ Some (Other (other 7 5 Xxh64)))
    × (any_of_kinds (kind (Bytes 32) Own) (kind (Bytes 5) Own) None ≡ Some (Other (other 32 5 Unhash)))
    × (any_of_kinds (kind (Bytes 33) Own) (kind (Bytes 5) Own) None ≡ Some (Other (other 33 5 Xxh64)))
    × (any_of_kinds (kind U64 Own) (kind (Bytes 5) Own) None ≡ Some (Other (record { key = U64; value = Bytes 5; hash = Fx })))
    × (any_of_kinds (kind U64 Own) (kind U32 Own) (Some Xxh64) ≡ Some (Other (record { key = U64; value = U32; hash = Xxh64 })))
    × (any_of_kinds (kind (Bytes 12) Own) (kind Nothing Own) (Some Unhash) ≡ Some (Other (record { key = Bytes 12; value = Nothing; hash = Unhash })))
    × (any_of_kinds (kind (Bytes 4) Own) (kind (Bytes 4) Own) None ≡ Some (Other (other 4 4 Xxh64)))
    × (any_of_kinds (kind (Bytes 10) Plain) (kind U32 Signed) None ≡ Some (Other (record { key = Bytes 10; value = U32; hash = Unhash })))
    × (any_of_kinds (kind (Bytes 4) Plain) (kind U32 Own) None ≡ Some (Other (record { key = Bytes 4; value = U32; hash = Xxh64 })))
    × (any_of_kinds (kind (Bytes 3) Own) (kind (Bytes 5) Own) (Some Unhash) ≡ None)
said_shapes = (refl, refl, refl, refl, refl, refl, refl, refl, refl, refl, refl, refl, refl)
