-- The ready shapes of tables.
--     Typed p              the keys or values of the type p: numbers, lists of bytes, or the one value of nothing
--     typed_len p          how many bytes each of them has in a table
--     typed_bytes p x      the bytes of x in a table
--     typed_of p b         what the bytes b decode to
--     typed_text f p x     the text of x in the form f
--     IsTypedWord f p w    the word w is the text of some x of the type p
--     StandsFor f p w x    it is that of this x
--     hash_of h            the hash function that is named h
--     hashes               all hash functions; of several that a file fits the first is taken
--     default_hash p       that of new tables of keys of the type p, where none is named: fx for numbers, unhash for 8 to 32
--                          bytes, which are hashes, and else xxh64
--     own_key n h          what keys of n bytes are by themselves, in a table of the hash function h: numbers of 4 and 8
--                          bytes, but under unhash hashes; else bytes
--     own_value n          what values of n bytes are by themselves: nothing, numbers of 4 and 8 bytes, or else bytes
--     shape_format s       the format of its tables
--     shape_coding s       how they encode and decode keys and values
--     is_hashed_by h s     s has the hash function h, where one is named
--     has_parts p q h s    s has keys of the type p and values of the type q, and, where a hash function h is named, that one
--     shape_of_parts p q h the first ready shape of this kind, if there is one
--     is_shape_of k v h s  s has keys of k and values of v bytes, and, where a hash function h is named, that one
--     shape_of_sizes k v h the first ready shape of this kind, if there is one
--     early_refusal B      the error of opening the bytes B that comes before those of the key and value sizes, if there
--                          is one; it is the same for each shape
use Rattle.std.specs.Prelude.{◌≡◌, ℕ, List, [], ◌∷◌, Bool, true, false, ◌&&◌, ◌==◌, nat_lt, nat_le, length, find, Option, if◌then◌else◌}
use Rattle.std.specs.Int.{w32, w64, to_le_bytes, from_le_bytes}
use Rattle.std.specs.Option.{option_or, option_map_or}
use Rattle.odht_base.specs.Format.{Format, format_of}
use Rattle.odht_base.specs.Hashes.{fx, un}
use Rattle.odht_base.specs.Xxh64.{xxh64_low}
use Rattle.odht_header.specs.Coding.{Coding}
use Rattle.odht_header.specs.Refusals.{◌gives◌, first_of, tag_refusal, version_refusal, wrong_size}
use Rattle.odht_header.specs.declared.error.Error.{Error}
use Rattle.odht_header.specs.declared.error.Error.TheVariants.{TooShort}
use Rattle.odht_header.specs.declared.error.Part.TheVariants.{EntryMetadata}
use Rattle.odht_tool_core.specs.generated.ShapeList.{key_part, value_part, shape_hash, ready_shapes}
use Rattle.odht_tool_core.specs.Forms.{number_text, IsNumberText, StandsForNumber, bytes_text, IsBytesText, StandsForBytes}
use Rattle.odht_tool_core.specs.declared.forms.Form.{Form}
use Rattle.odht_tool_core.specs.declared.shapes.Hash.{Hash}
use Rattle.odht_tool_core.specs.declared.shapes.Hash.TheVariants.{Fx, Unhash, Xxh64}
use Rattle.odht_tool_core.specs.declared.shapes.Part.{Part}
use Rattle.odht_tool_core.specs.declared.shapes.Part.TheVariants.{Nothing, U32, U64, Bytes}
use Rattle.odht_tool_core.specs.declared.generated.shapes.Shape.{Shape}

-- ---- types of keys and values
abbrev pub Typed : Part → Type 0
Typed Nothing = Unit {0}
Typed U32 = ℕ
Typed U64 = ℕ
Typed (Bytes n) = List ℕ

abbrev pub typed_len : Part → ℕ
typed_len Nothing = 0
typed_len U32 = 4
typed_len U64 = 8
typed_len (Bytes n) = n

abbrev pub typed_bytes : (p : Part) → Typed p → List ℕ
typed_bytes Nothing x = []
typed_bytes U32 n = to_le_bytes w32 n
typed_bytes U64 n = to_le_bytes w64 n
typed_bytes (Bytes n) bytes = bytes

abbrev pub typed_of : (p : Part) → List ℕ → Typed p
typed_of Nothing b = tt
typed_of U32 b = from_le_bytes w32 b
typed_of U64 b = from_le_bytes w64 b
typed_of (Bytes n) b = b

abbrev pub typed_text : Form → (p : Part) → Typed p → List ℕ
typed_text f Nothing x = []
typed_text f U32 n = number_text w32 f n
typed_text f U64 n = number_text w64 f n
typed_text f (Bytes n) bytes = bytes_text f bytes

abbrev pub IsTypedWord : Form → Part → List ℕ → Type 0
IsTypedWord f Nothing word = word ≡ []
IsTypedWord f U32 word = IsNumberText w32 f word
IsTypedWord f U64 word = IsNumberText w64 f word
IsTypedWord f (Bytes n) word = IsBytesText n f word

abbrev pub StandsFor : Form → (p : Part) → List ℕ → Typed p → Type 0
StandsFor f Nothing word x = word ≡ []
StandsFor f U32 word n = StandsForNumber w32 f word n
StandsFor f U64 word n = StandsForNumber w64 f word n
StandsFor f (Bytes n) word bytes = StandsForBytes f word bytes

-- ---- shapes
abbrev pub hash_of : Hash → List ℕ → ℕ
hash_of Fx = fx
hash_of Unhash = un
hash_of Xxh64 = xxh64_low

abbrev pub hashes : List Hash
hashes = Fx ∷ Unhash ∷ Xxh64 ∷ []

abbrev pub default_hash : Part → Hash
default_hash Nothing = Xxh64
default_hash U32 = Fx
default_hash U64 = Fx
default_hash (Bytes n) = if nat_le 8 n && nat_le n 32 then Unhash else Xxh64

abbrev pub number_or_bytes : ℕ → Part
number_or_bytes n = if n == 4 then U32 else if n == 8 then U64 else Bytes n

abbrev pub own_key : ℕ → Hash → Part
own_key n Fx = number_or_bytes n
own_key n Unhash = Bytes n
own_key n Xxh64 = number_or_bytes n

abbrev pub own_value : ℕ → Part
own_value n = if n == 0 then Nothing else number_or_bytes n

abbrev pub shape_format : Shape → Format
shape_format s = format_of (typed_len (key_part s)) (typed_len (value_part s)) (hash_of (shape_hash s))

abbrev pub shape_coding : (s : Shape) → Coding (Typed (key_part s)) (Typed (value_part s))
shape_coding s = record {
  format = shape_format s;
  key_bytes = typed_bytes (key_part s);
  value_bytes = typed_bytes (value_part s);
  key_of = typed_of (key_part s);
  value_of = typed_of (value_part s);
}

-- ---- the shape of bytes
abbrev pub same_hash : Hash → Hash → Bool
same_hash Fx Fx = true
same_hash Fx Unhash = false
same_hash Fx Xxh64 = false
same_hash Unhash Fx = false
same_hash Unhash Unhash = true
same_hash Unhash Xxh64 = false
same_hash Xxh64 Fx = false
same_hash Xxh64 Unhash = false
same_hash Xxh64 Xxh64 = true

abbrev pub same_part : Part → Part → Bool
same_part Nothing Nothing = true
same_part U32 U32 = true
same_part U64 U64 = true
same_part (Bytes m) (Bytes n) = m == n
same_part Nothing (Bytes n) = n == 0
same_part (Bytes n) Nothing = n == 0
same_part p q = false

abbrev pub is_hashed_by : Option Hash → Shape → Bool
is_hashed_by h s = option_map_or (same_hash (shape_hash s)) h true

abbrev pub has_parts : Part → Part → Option Hash → Shape → Bool
has_parts p q h s = same_part (key_part s) p && same_part (value_part s) q && is_hashed_by h s

abbrev pub shape_of_parts : Part → Part → Option Hash → Option Shape
shape_of_parts p q h = find (has_parts p q h) ready_shapes

abbrev pub is_shape_of : ℕ → ℕ → Option Hash → Shape → Bool
is_shape_of k v h s = typed_len (key_part s) == k && typed_len (value_part s) == v && is_hashed_by h s

abbrev pub shape_of_sizes : ℕ → ℕ → Option Hash → Option Shape
shape_of_sizes k v h = find (is_shape_of k v h) ready_shapes

abbrev pub early_refusal : List ℕ → Option Error
early_refusal B =
    option_or
    (nat_lt (length B) 32 gives TooShort (length B))
    (first_of (tag_refusal B ∷ version_refusal B ∷ wrong_size B 4 EntryMetadata 1 ∷ []))
