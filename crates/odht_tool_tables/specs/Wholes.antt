-- A file whose bytes B are checked whole, and two files that go together.
--     whole_any B h ks o   the shape and the forms of bytes, where the hash function h, or none, is named, and ks is said of
--                          keys and values; but the first rule that they break, by the bound o, where there is one
--     asked_whole B h ks o the same, or the failure that the bytes do not show the type of keys, of which ks says none
--     have_same_sizes s u  whether keys and values of the shapes s and u have the same lengths
--     sizes_of s           these lengths of the shape s
--     sizes_text other file m n   the line on standard error where they have not: the file of the name `other` has the
--                          lengths m, and the first file the lengths n
use Rattle.std.specs.Prelude.{ℕ, Bool, ◌&&◌, ◌==◌, List, ◌++◌, codes, decimal, Option, Some, None, Result, Ok, Err}
use Rattle.odht_header.specs.Refusals.{check_refusal_by}
use Rattle.odht_header.specs.declared.error.Error.{Error}
use Rattle.odht_tool_core.specs.AnyShapes.{any_format, any_key, any_value, read_any}
use Rattle.odht_tool_core.specs.Evidence.{asked_key}
use Rattle.odht_tool_core.specs.ReadyShapes.{typed_len}
use Rattle.odht_tool_core.specs.declared.any.AnyShape.{AnyShape}
use Rattle.odht_tool_core.specs.declared.failure.Failure.{Failure}
use Rattle.odht_tool_core.specs.declared.failure.Failure.TheVariants.{Refused}
use Rattle.odht_tool_core.specs.declared.forms.GivenForms.{GivenForms}
use Rattle.odht_tool_core.specs.declared.forms.Kinds.{Kinds}
use Rattle.odht_tool_core.specs.declared.shapes.Hash.{Hash}

abbrev pub passed : {X : Type 0} → X → Option Error → Result X Failure
passed x None = Ok x
passed x (Some error) = Err (Refused error)

abbrev pub whole_of : Option ℕ → List ℕ → Result (AnyShape × GivenForms) Failure → Result (AnyShape × GivenForms) Failure
whole_of o B (Ok x) = passed x (check_refusal_by (any_format x.0) o B)
whole_of o B (Err failure) = Err failure

abbrev pub whole_any : List ℕ → Option Hash → Kinds → Option ℕ → Result (AnyShape × GivenForms) Failure
whole_any B h ks o = whole_of o B (read_any B h ks)

abbrev pub asked_then : Result (Unit {0}) Failure → AnyShape × GivenForms → Result (AnyShape × GivenForms) Failure
asked_then (Ok u) x = Ok x
asked_then (Err failure) x = Err failure

abbrev pub asked_of : Kinds → List ℕ → Result (AnyShape × GivenForms) Failure → Result (AnyShape × GivenForms) Failure
asked_of ks B (Ok x) = asked_then (asked_key B x.0 ks) x
asked_of ks B (Err failure) = Err failure

abbrev pub asked_whole : List ℕ → Option Hash → Kinds → Option ℕ → Result (AnyShape × GivenForms) Failure
asked_whole B h ks o = asked_of ks B (whole_any B h ks o)

abbrev pub have_same_sizes : AnyShape → AnyShape → Bool
have_same_sizes s u = (typed_len (any_key s) == typed_len (any_key u)) && (typed_len (any_value s) == typed_len (any_value u))

abbrev pub sizes_of : AnyShape → ℕ × ℕ
sizes_of s = (typed_len (any_key s), typed_len (any_value s))

abbrev pub sizes_text : List ℕ → List ℕ → ℕ × ℕ → ℕ × ℕ → List ℕ
sizes_text other file m n =
    (codes "odht: " ++ (other ++ (codes ": its keys have " ++ (decimal m.0 ++ (codes " and its values " ++ (decimal m.1
    ++ (codes " bytes, those of " ++ (file ++ codes " "))))))))
    ++ (decimal n.0 ++ (codes " and " ++ (decimal n.1 ++ codes "\n")))
