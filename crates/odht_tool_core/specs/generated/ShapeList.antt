-- The ready shapes. Generated from lists/shapes.txt by make generate.
--     key_part s           the type of the keys of the shape s
--     value_part s         that of its values
--     shape_hash s         the name of its hash function
--     ready_shapes         all of them; of two that a file fits the first is taken
use Rattle.std.specs.Prelude.{List, [], ◌∷◌}
use Rattle.odht_tool_core.specs.declared.shapes.Hash.{Hash}
use Rattle.odht_tool_core.specs.declared.shapes.Hash.TheVariants.{Fx, Unhash}
use Rattle.odht_tool_core.specs.declared.shapes.Part.{Part}
use Rattle.odht_tool_core.specs.declared.shapes.Part.TheVariants.{Nothing, U32, U64, Bytes}
use Rattle.odht_tool_core.specs.declared.generated.shapes.Shape.{Shape}
use Rattle.odht_tool_core.specs.declared.generated.shapes.Shape.TheVariants.{U32ToU32, DirectU32ToU32, U64ToU32, U64ToU64, U64Set, Bytes8ToU32, Bytes8ToU64, Bytes16ToU32, Bytes16ToU64, Bytes20ToU64, Bytes32ToU64, Bytes16ToBytes16, Bytes32ToBytes32, Bytes8Set, Bytes16Set, Bytes20Set, Bytes32Set}

abbrev pub key_part : Shape → Part
key_part U32ToU32 = U32
key_part DirectU32ToU32 = U32
key_part U64ToU32 = U64
key_part U64ToU64 = U64
key_part U64Set = U64
key_part Bytes8ToU32 = Bytes 8
key_part Bytes8ToU64 = Bytes 8
key_part Bytes16ToU32 = Bytes 16
key_part Bytes16ToU64 = Bytes 16
key_part Bytes20ToU64 = Bytes 20
key_part Bytes32ToU64 = Bytes 32
key_part Bytes16ToBytes16 = Bytes 16
key_part Bytes32ToBytes32 = Bytes 32
key_part Bytes8Set = Bytes 8
key_part Bytes16Set = Bytes 16
key_part Bytes20Set = Bytes 20
key_part Bytes32Set = Bytes 32

abbrev pub value_part : Shape → Part
value_part U32ToU32 = U32
value_part DirectU32ToU32 = U32
value_part U64ToU32 = U32
value_part U64ToU64 = U64
value_part U64Set = Nothing
value_part Bytes8ToU32 = U32
value_part Bytes8ToU64 = U64
value_part Bytes16ToU32 = U32
value_part Bytes16ToU64 = U64
value_part Bytes20ToU64 = U64
value_part Bytes32ToU64 = U64
value_part Bytes16ToBytes16 = Bytes 16
value_part Bytes32ToBytes32 = Bytes 32
value_part Bytes8Set = Nothing
value_part Bytes16Set = Nothing
value_part Bytes20Set = Nothing
value_part Bytes32Set = Nothing

abbrev pub shape_hash : Shape → Hash
shape_hash U32ToU32 = Fx
shape_hash DirectU32ToU32 = Unhash
shape_hash U64ToU32 = Fx
shape_hash U64ToU64 = Fx
shape_hash U64Set = Fx
shape_hash Bytes8ToU32 = Unhash
shape_hash Bytes8ToU64 = Unhash
shape_hash Bytes16ToU32 = Unhash
shape_hash Bytes16ToU64 = Unhash
shape_hash Bytes20ToU64 = Unhash
shape_hash Bytes32ToU64 = Unhash
shape_hash Bytes16ToBytes16 = Unhash
shape_hash Bytes32ToBytes32 = Unhash
shape_hash Bytes8Set = Unhash
shape_hash Bytes16Set = Unhash
shape_hash Bytes20Set = Unhash
shape_hash Bytes32Set = Unhash

abbrev pub ready_shapes : List Shape
ready_shapes =
    U32ToU32
    ∷ DirectU32ToU32
    ∷ U64ToU32
    ∷ U64ToU64
    ∷ U64Set
    ∷ Bytes8ToU32
    ∷ Bytes8ToU64
    ∷ Bytes16ToU32
    ∷ Bytes16ToU64
    ∷ Bytes20ToU64
    ∷ Bytes32ToU64
    ∷ Bytes16ToBytes16
    ∷ Bytes32ToBytes32
    ∷ Bytes8Set
    ∷ Bytes16Set
    ∷ Bytes20Set
    ∷ Bytes32Set
    ∷ []
