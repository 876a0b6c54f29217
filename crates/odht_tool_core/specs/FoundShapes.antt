-- The ready shape that the bytes B of a file are read as, where the hash function is found by their control bytes.
--     has_items B          header and length fit, and the header counts items
--     fits k v T s         the shape s has keys of k and values of v bytes, and all control bytes of the parts T agree with
--                          its hash function
--     fitting_shape k v T  the first ready shape that fits, if there is one
--     first_hash k v T     the hash function of fitting_shape, else the first that all control bytes of the parts T agree with
--     is_other h T g       g is not h, and all control bytes of the parts T agree with g
--     other_hash T h       the first hash function that is not h, and that all control bytes of the parts T agree with
--     is_valid_by B h      B are valid bytes of the sizes in their header and of the hash function h, in which no search is
--                          above 128 groups
--     valid_hash B         the first hash function by which they are
--     settled_hash B h     h, where all control bytes agree with no other one, or where B is valid by it; else the first one
--                          by which B is valid, and h where there is none
--     agreed_hash B d      where header and length fit, and all control bytes agree with d: settled_hash of it
--     said_hash B h d      the hash function by which B is read: h, where that is one; or else agreed_hash of the default d
--     hinted_hash B h      the first hash function that is not h, where there are items and all control bytes agree with it
use Rattle.std.specs.Prelude.{ℕ, List, Bool, not, ◌&&◌, ◌||◌, ◌==◌, nat_le, find, is_none, slice_index, Option, None, Some, option_map, if◌then◌else◌}
use Rattle.std.specs.Bool.{then_some}
use Rattle.std.specs.Option.{option_or, unwrap_or}
use Rattle.odht_base.specs.Decoded.{header_count}
use Rattle.odht_header.specs.Refusals.{check_refusal_by}
use Rattle.odht_tool_core.specs.InfoNumbers.{DynParts, file_parts, info_refusal, agrees, format_by, found_hash, least_key_len}
use Rattle.odht_tool_core.specs.ReadyShapes.{hashes, is_shape_of, same_hash}
use Rattle.odht_tool_core.specs.generated.ShapeList.{shape_hash, ready_shapes}
use Rattle.odht_tool_core.specs.declared.shapes.Hash.{Hash}
use Rattle.odht_tool_core.specs.declared.generated.shapes.Shape.{Shape}

abbrev pub has_items : List ℕ → Bool
has_items B = is_none (info_refusal B) && not (header_count B == 0)

-- ---- by the control bytes
abbrev pub fits : ℕ → ℕ → DynParts → Shape → Bool
fits k v T s = is_shape_of k v None s && agrees T (shape_hash s)

abbrev pub fitting_shape : ℕ → ℕ → DynParts → Option Shape
fitting_shape k v T = find (fits k v T) ready_shapes

abbrev pub first_hash : ℕ → ℕ → DynParts → Option Hash
first_hash k v T = option_or (option_map shape_hash (fitting_shape k v T)) (found_hash T)

abbrev pub is_other : Hash → DynParts → Hash → Bool
is_other h T g = not (same_hash g h) && agrees T g

abbrev pub other_hash : DynParts → Hash → Option Hash
other_hash T h = find (is_other h T) hashes

-- ---- by all bytes, where several fit
abbrev pub is_valid_by : List ℕ → Hash → Bool
is_valid_by B h =
    is_none (info_refusal B) && nat_le (least_key_len h) (slice_index B 5) && is_none (check_refusal_by (format_by B h) (Some 128) B)

abbrev pub valid_hash : List ℕ → Option Hash
valid_hash B = find (is_valid_by B) hashes

abbrev pub settled_hash : List ℕ → Hash → Hash
settled_hash B h = if is_none (other_hash (file_parts B) h) || is_valid_by B h then h else unwrap_or (valid_hash B) h

-- ---- by what is said
abbrev pub agreed_hash : List ℕ → Hash → Option Hash
agreed_hash B d = then_some (is_none (info_refusal B) && agrees (file_parts B) d) (settled_hash B d)

abbrev pub said_hash : List ℕ → Option Hash → Option Hash → Option Hash
said_hash B (Some h) d = Some h
said_hash B None None = None
said_hash B None (Some d) = agreed_hash B d

-- ---- the hint of `check`
abbrev pub hinted_hash : List ℕ → Hash → Option Hash
hinted_hash B h = if has_items B then other_hash (file_parts B) h else None
