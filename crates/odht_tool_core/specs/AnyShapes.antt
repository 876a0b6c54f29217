-- The shape of a table of any sizes: a ready one, or the types of keys and values and the hash function.
--     other_format o       the format of the tables of the types o
--     HasLongKeys s        the keys of s, where it is no ready shape, are long enough for its hash function
--     any_key s            the type of its keys
--     any_value s          that of its values
--     any_format s         the format of its tables
--     any_hash s           its hash function
--     types_of s           the types of its keys and values, and its hash function
--     other_coding o       how tables of the types o have keys and values: bytes as they are
--     other_of p q h       the shape of keys of the type p and values of the type q, and of the hash function h; or the
--                          failure that it needs longer keys
--     any_of_sizes p q h   the first ready shape of the lengths of these types and of the hash function h, where one is named;
--                          else another of these types, of the default of such keys where none is named
--     named_any B h        that of the lengths in the header of the bytes B; with an early error, since any will do, a ready one
--     fitting_any B        that of the lengths in the header of B, and of the hash function that decides of those that all
--                          control bytes agree with; or the failure that there is none
--     found_any B h        the shape that is named; but where there are items, and no hash function is named, one that fits
--     any_of_kinds k v h   the shape of keys and values of which k and v are said, and of the hash function h, where one is
--                          named: the first ready one of their types, else another one, where keys are long enough
--     kind_of_size k p     what stored bytes of the type p are read as, of which k, or nothing, is said; none where k is of
--                          another length
--     with_own_types o     the types o, but those that keys and values of their lengths have by themselves
--     read_any B h ks      the shape that is found, with its forms, where ks is said of keys and values: it has the types of
--                          its lengths that are said; where nothing is said those that it has by itself
--     checked_any B h      the shape that is found; but where no hash function fits, the one that is named
--     read_hash B          the hash function that decides where there are items; else the first that agrees
use Rattle.std.specs.Prelude.{ℕ, ⊤, ◌≤◌, List, ◌&&◌, ◌==◌, nat_lt, is_none, is_some, slice_index, Option, None, Some, Result, Ok, Err, if◌then◌else◌}
use Rattle.std.specs.Bool.{then_some}
use Rattle.std.specs.Option.{option_map, unwrap_or}
use Rattle.std.specs.Result.{result_ok}
use Rattle.odht_base.specs.Format.{Format, format_of}
use Rattle.odht_header.specs.Coding.{Coding}
use Rattle.odht_raw.specs.DynParts.{bytes_coding}
use Rattle.odht_tool_core.specs.FoundShapes.{has_items, first_hash, said_hash, settled_hash}
use Rattle.odht_tool_core.specs.InfoNumbers.{file_parts, found_hash, least_key_len}
use Rattle.odht_tool_core.specs.ReadAs.{form_for}
use Rattle.odht_tool_core.specs.ReadyShapes.{default_hash, hash_of, own_key, own_value, shape_format, shape_of_parts, shape_of_sizes, typed_len, early_refusal}
use Rattle.odht_tool_core.specs.generated.ShapeList.{key_part, value_part, shape_hash}
use Rattle.odht_tool_core.specs.declared.any.AnyShape.{AnyShape}
use Rattle.odht_tool_core.specs.declared.any.AnyShape.TheVariants.{Ready, Other}
use Rattle.odht_tool_core.specs.declared.any.OtherShape.{OtherShape}
use Rattle.odht_tool_core.specs.declared.failure.Failure.{Failure}
use Rattle.odht_tool_core.specs.declared.failure.Failure.TheVariants.{NoHash, ShortKeys, OtherKey, OtherValue}
use Rattle.odht_tool_core.specs.declared.forms.Form.{Form}
use Rattle.odht_tool_core.specs.declared.forms.Form.TheVariants.{Own}
use Rattle.odht_tool_core.specs.declared.forms.GivenForms.{GivenForms}
use Rattle.odht_tool_core.specs.declared.forms.Kind.{Kind}
use Rattle.odht_tool_core.specs.declared.forms.Kinds.{Kinds}
use Rattle.odht_tool_core.specs.declared.shapes.Hash.{Hash}
use Rattle.odht_tool_core.specs.declared.shapes.Part.{Part}
use Rattle.odht_tool_core.specs.declared.shapes.Part.TheVariants.{Bytes}
use Rattle.odht_tool_core.specs.declared.generated.shapes.Shape.{Shape}
use Rattle.odht_tool_core.specs.declared.generated.shapes.Shape.TheVariants.{U64ToU32}

abbrev pub other_format : OtherShape → Format
other_format o = format_of (typed_len o.key) (typed_len o.value) (hash_of o.hash)

abbrev pub HasLongKeys : AnyShape → Type 0
HasLongKeys (Ready s) = ⊤
HasLongKeys (Other o) = least_key_len o.hash ≤ typed_len o.key

abbrev pub any_key : AnyShape → Part
any_key (Ready s) = key_part s
any_key (Other o) = o.key

abbrev pub any_value : AnyShape → Part
any_value (Ready s) = value_part s
any_value (Other o) = o.value

abbrev pub any_format : AnyShape → Format
any_format (Ready s) = shape_format s
any_format (Other o) = other_format o

abbrev pub any_hash : AnyShape → Hash
any_hash (Ready s) = shape_hash s
any_hash (Other o) = o.hash

abbrev pub types_of : AnyShape → OtherShape
types_of s = record { key = any_key s; value = any_value s; hash = any_hash s }

abbrev pub other_coding : OtherShape → Coding (List ℕ) (List ℕ)
other_coding o = bytes_coding (other_format o)

-- ---- the shape of bytes
abbrev pub other_of : Part → Part → Hash → Result AnyShape Failure
other_of p q h =
    if nat_lt (typed_len p) (least_key_len h) then Err (ShortKeys (typed_len p))
    else Ok (Other (record { key = p; value = q; hash = h }))

abbrev pub ready_or : Result AnyShape Failure → Option Shape → Result AnyShape Failure
ready_or r None = r
ready_or r (Some s) = Ok (Ready s)

abbrev pub any_of_sizes : Part → Part → Option Hash → Result AnyShape Failure
any_of_sizes p q h = ready_or (other_of p q (unwrap_or h (default_hash p))) (shape_of_sizes (typed_len p) (typed_len q) h)

abbrev pub named_any : List ℕ → Option Hash → Result AnyShape Failure
named_any B h =
    if is_some (early_refusal B) then Ok (Ready U64ToU32)
    else any_of_sizes (Bytes (slice_index B 5)) (Bytes (slice_index B 6)) h

-- ---- by the control bytes
abbrev pub of_hash : List ℕ → Option Hash → Result AnyShape Failure
of_hash B None = Err (NoHash (slice_index B 5) (slice_index B 6))
of_hash B (Some h) = any_of_sizes (Bytes (slice_index B 5)) (Bytes (slice_index B 6)) (Some (settled_hash B h))

abbrev pub fitting_any : List ℕ → Result AnyShape Failure
fitting_any B = of_hash B (first_hash (slice_index B 5) (slice_index B 6) (file_parts B))

abbrev pub found_any : List ℕ → Option Hash → Result AnyShape Failure
found_any B h =
    if is_none h && has_items B then fitting_any B
    else named_any B h

abbrev pub found_or : Result AnyShape Failure → Result AnyShape Failure → Result AnyShape Failure
found_or (Err (NoHash k v)) named = named
found_or found named = found

abbrev pub checked_any : List ℕ → Option Hash → Result AnyShape Failure
checked_any B h = found_or (found_any B h) (named_any B h)

abbrev pub read_hash : List ℕ → Option Hash
read_hash B = if has_items B then option_map any_hash (result_ok (fitting_any B)) else found_hash (file_parts B)

-- ---- that is named
abbrev pub of_kinds_or : Option AnyShape → Option Shape → Option AnyShape
of_kinds_or o None = o
of_kinds_or o (Some s) = Some (Ready s)

abbrev pub any_of_kinds : Kind → Kind → Option Hash → Option AnyShape
any_of_kinds k v h =
    of_kinds_or (result_ok (other_of k.part v.part (unwrap_or h (default_hash k.part)))) (shape_of_parts k.part v.part h)

-- ---- with what is said of keys and values
abbrev pub kind_of_size : Option Kind → Part → Option Kind
kind_of_size None p = Some (record { part = p; form = Own })
kind_of_size (Some k) p = then_some (typed_len k.part == typed_len p) k

abbrev pub with_kinds : OtherShape → Option Kind → Option Kind → Result (AnyShape × GivenForms) Failure
with_kinds o None v = Err (OtherKey o.key)
with_kinds o (Some k) None = Err (OtherValue o.value)
with_kinds o (Some k) (Some v) = Ok (Other (record { key = k.part; value = v.part; hash = o.hash }), record { key = k.form; value = v.form })

abbrev pub with_own_types : OtherShape → OtherShape
with_own_types o = record { key = own_key (typed_len o.key) o.hash; value = own_value (typed_len o.value); hash = o.hash }

abbrev pub other_formed : Kinds → OtherShape → Result (AnyShape × GivenForms) Failure
other_formed ks o = with_kinds o (kind_of_size ks.key o.key) (kind_of_size ks.value o.value)

abbrev pub with_ready_forms : Shape → Kinds → Option Form → Option Form → Result (AnyShape × GivenForms) Failure
with_ready_forms s ks None g = other_formed ks (types_of (Ready s))
with_ready_forms s ks (Some f) None = other_formed ks (types_of (Ready s))
with_ready_forms s ks (Some f) (Some g) = Ok (Ready s, record { key = f; value = g })

abbrev pub any_formed : Kinds → Result AnyShape Failure → Result (AnyShape × GivenForms) Failure
any_formed ks (Ok (Ready s)) = with_ready_forms s ks (form_for ks.key (key_part s)) (form_for ks.value (value_part s))
any_formed ks (Ok (Other o)) = other_formed ks (with_own_types o)
any_formed ks (Err failure) = Err failure

abbrev pub read_any : List ℕ → Option Hash → Kinds → Result (AnyShape × GivenForms) Failure
read_any B h ks = any_formed ks (found_any B (said_hash B h ks.hash))
