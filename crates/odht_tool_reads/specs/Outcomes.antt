-- What `check` and `dump` do with the bytes of a file.
--     by_shape r f             what f says of a shape, where r is one; else the failure
--     check_report name o r    the report of `check` on the file of this name: whether it is valid, the bound o of searches,
--                              or that there is none, and the error that r may be
--     check_of_any j name B o s    of `check` for bytes of the shape s: with j it writes an object of JSON
--     check_outcome j name B h o   of `check` of the file of this name, where the hash function h, or none, is named
--     hint_of B h              the hash function to name for bytes that were rejected, where none was named
--     hint_text file h         the line of that
--     check_word o B r         what `find` says of the check, by the bound o, of the table B, which is of the shape r, if
--                              there is one
--     dump_outcome B h ks is_slots is_json     of `dump`, with `--slots` and with `--json` or without, for the bytes of a file,
--                              where the hash function h, or none, is named, and ks is said of keys and values
use Rattle.std.specs.Prelude.{ℕ, Bool, List, [], ◌∷◌, ◌++◌, codes, Option, Some, None, Result, Ok, Err, is_ok, is_none, if◌then◌else◌}
use Rattle.std.specs.Option.{option_and_then}
use Rattle.std.specs.Result.{result_ok}
use Rattle.odht_header.specs.Refusals.{checked, check_refusal_by}
use Rattle.odht_header.specs.declared.error.Error.{Error}
use Rattle.odht_header.specs.declared.error.Error.TheVariants.{SearchTooLong}
use Rattle.odht_tool_core.specs.DumpTexts.{dumped}
use Rattle.odht_tool_core.specs.Endings.{Outcome}
use Rattle.odht_tool_core.specs.Endings.Outcome.{writes, fails}
use Rattle.odht_tool_core.specs.AnyShapes.{any_format, any_hash, checked_any, read_any}
use Rattle.odht_tool_core.specs.FoundShapes.{hinted_hash}
use Rattle.odht_tool_core.specs.InfoTexts.{hash_name}
use Rattle.odht_tool_core.specs.Refusals.{refusal_text}
use Rattle.odht_tool_core.specs.Reports.{Said, Told, Wording, between, field, report_as, said_number}
use Rattle.odht_tool_core.specs.Reports.Said.{nothing, text, whether}
use Rattle.odht_tool_core.specs.StoredTexts.{texts_of}
use Rattle.odht_tool_core.specs.declared.any.AnyShape.{AnyShape}
use Rattle.odht_tool_core.specs.declared.failure.Failure.{Failure}
use Rattle.odht_tool_core.specs.declared.forms.GivenForms.{GivenForms}
use Rattle.odht_tool_core.specs.declared.forms.Kinds.{Kinds}
use Rattle.odht_tool_core.specs.declared.shapes.Hash.{Hash}
use Rattle.odht_tool_core.specs.declared.status.Status.TheVariants.{Done, NotDone}

abbrev pub by_shape : {X : Type 0} → Result X Failure → (X → Outcome) → Outcome
by_shape (Ok s) f = f s
by_shape (Err failure) f = fails failure

-- ---- check
abbrev pub rule_said : {X : Type 0} → Result X Error → Said
rule_said (Ok x) = nothing
rule_said (Err error) = text (refusal_text error)

-- the bound is told in words where it is kept
abbrev pub bound_words : Bool → Option Wording
bound_words is_valid = if is_valid then between (codes ", and no search reads more than ") (codes " groups") else None

abbrev pub check_report : {X : Type 0} → List ℕ → Option ℕ → Result X Error → List Told
check_report name o r =
    field (codes "file") (text name) (between [] (codes ": "))
    ∷ field (codes "valid") (whether (is_ok r)) (between (codes "valid") [])
    ∷ field (codes "bound") (said_number o) (bound_words (is_ok r))
    ∷ field (codes "rule") (rule_said r) (Some (record { before = []; after = 10 ∷ []; otherwise = 10 ∷ [] }))
    ∷ []

abbrev pub check_of_any : Bool → List ℕ → List ℕ → Option ℕ → AnyShape → Outcome
check_of_any is_json name B o s =
    let r = checked (check_refusal_by (any_format s) o B) in
    writes (report_as is_json (check_report name o r)) (if is_ok r then Done else NotDone)

abbrev pub check_outcome : Bool → List ℕ → List ℕ → Option Hash → Option ℕ → Outcome
check_outcome is_json name B h o = by_shape (checked_any B h) (check_of_any is_json name B o)

abbrev pub hint_of : List ℕ → Option Hash → Option Hash
hint_of B h = if is_none h then option_and_then (λ s. hinted_hash B (any_hash s)) (result_ok (checked_any B None)) else None

abbrev pub hint_text : List ℕ → Hash → List ℕ
hint_text file h =
    codes "odht: " ++ (file ++ (codes ": all control bytes fit " ++ (hash_name h ++ (codes ": try --hash " ++ (hash_name h ++ codes ", or `odht info`\n")))))

-- ---- find
abbrev pub refusal_word : Option Error → List ℕ
refusal_word None = codes "valid"
refusal_word (Some (SearchTooLong home groups)) = codes "long"
refusal_word (Some error) = codes "rejected"

abbrev pub check_word : Option ℕ → List ℕ → Result AnyShape Failure → List ℕ
check_word o B (Ok s) = refusal_word (check_refusal_by (any_format s) o B)
check_word o B (Err failure) = codes "-"

-- ---- dump
abbrev pub dump_of_forms : List ℕ → Bool → Bool → AnyShape × GivenForms → Outcome
dump_of_forms B is_slots is_json x = dumped is_slots is_json (any_format x.0) (texts_of x.0 x.1) B

abbrev pub dump_outcome : List ℕ → Option Hash → Kinds → Bool → Bool → Outcome
dump_outcome B h ks is_slots is_json = by_shape (read_any B h ks) (dump_of_forms B is_slots is_json)
