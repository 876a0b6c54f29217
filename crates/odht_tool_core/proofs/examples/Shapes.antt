-- Worked examples: the ready shapes.
--     one_bytes            a table of sixteen slots with the value 7 for the key 5, both numbers of four bytes; the hash
--                          of the key is the key, and it is in slot 5
use Rattle.std.proofs.Common.{◌≡◌, ℕ, refl, List, [], ◌∷◌, Some, None, map, set, replicate}
use Rattle.std.specs.Prelude.{codes}
use Rattle.odht_base.proofs.examples.Configs.{my_config, test_config, direct_config, pair32}
use Rattle.odht_base.specs.Image.{image}
use Rattle.odht_base.specs.Load.{factor_of}
use Rattle.odht_base.specs.Table.{Table}
use Rattle.odht_tool_core.specs.ReadyShapes.{typed_len, typed_bytes, typed_of, typed_text, shape_format, shape_of_parts, shape_of_sizes}
use Rattle.odht_tool_core.specs.generated.ShapeList.{key_part, value_part, shape_hash, ready_shapes}
use Rattle.odht_tool_core.specs.declared.forms.Form.TheVariants.{Own}
use Rattle.odht_tool_core.specs.declared.shapes.Hash.TheVariants.{Fx, Unhash}
use Rattle.odht_tool_core.specs.declared.shapes.Part.TheVariants.{Nothing, U32, U64, Bytes}
use Rattle.odht_tool_core.specs.declared.generated.shapes.Shape.TheVariants.{U32ToU32, DirectU32ToU32, U64ToU32, Bytes16Set, Bytes32Set}

abbrev pub one_item : Table
one_item = record { factor = factor_of 7; cells = set (replicate 16 None) 5 (Some (pair32 5 7)) }

abbrev pub one_bytes : List ℕ
one_bytes = image direct_config one_item

-- numbers are little-endian, bytes are themselves, and nothing has no bytes
pub typed : (typed_bytes U32 258 ≡ 2 ∷ 1 ∷ 0 ∷ 0 ∷ [])
    × (typed_of U64 (2 ∷ 1 ∷ 0 ∷ 0 ∷ 0 ∷ 0 ∷ 0 ∷ 0 ∷ []) ≡ 258)
    × (typed_of (Bytes 2) (10 ∷ 1 ∷ []) ≡ 10 ∷ 1 ∷ [])
    × (typed_text Own (Bytes 2) (10 ∷ 255 ∷ []) ≡ codes "0aff")
    × (typed_text Own Nothing tt ≡ [])
typed = (refl, refl, refl, refl, refl)

-- the formats of three shapes
pub formats : (shape_format U64ToU32 ≡ my_config) × (shape_format U32ToU32 ≡ test_config) × (shape_format DirectU32ToU32 ≡ direct_config)
formats = (refl, refl, refl)

-- each shape is found by its sizes and its hash function
pub found : map (λ s. shape_of_sizes (typed_len (key_part s)) (typed_len (value_part s)) (Some (shape_hash s))) ready_shapes ≡ map Some ready_shapes
found = refl

-- of numbers of four bytes the shape by fx comes first; no shape of the list has other sizes, or for these another hash function
pub sizes : (shape_of_sizes 4 4 None ≡ Some U32ToU32)
    × (shape_of_sizes 4 4 (Some Unhash) ≡ Some DirectU32ToU32)
    × (shape_of_sizes 20 8 (Some Fx) ≡ None)
    × (shape_of_sizes 16 0 None ≡ Some Bytes16Set)
    × (shape_of_sizes 32 0 (Some Fx) ≡ None)
    × (shape_of_sizes 32 0 None ≡ Some Bytes32Set)
    × (shape_of_sizes 4 8 None ≡ None)
sizes = (refl, refl, refl, refl, refl, refl, refl)

-- by its types each is found too; bytes are no numbers of as many bytes
pub parts : (map (λ s. shape_of_parts (key_part s) (value_part s) (Some (shape_hash s))) ready_shapes ≡ map Some ready_shapes)
    × (shape_of_parts U32 U32 None ≡ Some U32ToU32)
    × (shape_of_parts (Bytes 4) U32 None ≡ None)
    × (shape_of_parts U64 (Bytes 4) None ≡ None)
parts = (refl, refl, refl, refl)
