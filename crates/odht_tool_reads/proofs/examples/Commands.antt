-- Worked examples: what `check`, `dump` and `keys` write and return.
use Rattle.std.proofs.Common.{◌≡◌, true, false, refl, [], ◌∷◌, Some, None, Ok, Err}
use Rattle.std.specs.Prelude.{codes}
use Rattle.std.specs.Fmt.{digits}
use Rattle.odht_base.specs.Bounds.{first_longer}
use Rattle.odht_base.specs.Bytes.{overwritten_at}
use Rattle.odht_header.specs.declared.error.Error.TheVariants.{SearchTooLong, TooShort}
use Rattle.odht_header.proofs.examples.Apart.{unequal_lists}
use Rattle.odht_header.proofs.examples.Opened.{opened}
use Rattle.odht_tool_core.specs.GroupNumbers.{groups_to}
use Rattle.odht_tool_reads.specs.Bounds.{bound_refusal}
use Rattle.odht_tool_reads.specs.Listings.{list_outcome}
use Rattle.odht_tool_reads.specs.Outcomes.{check_outcome, check_word, dump_outcome, hint_of, hint_text}
use Rattle.odht_tool_core.specs.Endings.{IsDone}
use Rattle.odht_tool_core.specs.Endings.Outcome.{writes, fails}
use Rattle.odht_tool_core.specs.declared.any.AnyShape.TheVariants.{Ready}
use Rattle.odht_tool_core.specs.declared.failure.Failure.TheVariants.{Refused, NoHash, ShortKeys, OtherKey, OtherValue, Memory}
use Rattle.odht_tool_core.specs.declared.forms.Form.TheVariants.{Own, Signed, BigEndian}
use Rattle.odht_tool_core.specs.declared.shapes.Hash.TheVariants.{Fx, Unhash}
use Rattle.odht_tool_core.specs.declared.shapes.Part.TheVariants.{U32, U64, Bytes}
use Rattle.odht_tool_core.specs.declared.generated.shapes.Shape.TheVariants.{DirectU32ToU32}
use Rattle.odht_tool_core.specs.declared.status.Status.TheVariants.{Done, NotDone}
use Rattle.odht_tool_core.specs.declared.typed.Side.TheVariants.{Key, Value}
use Rattle.odht_tool_core.proofs.examples.Forms.{kind, said, unsaid}
use Rattle.odht_tool_core.proofs.examples.FoundShapes.{other_bytes}
use Rattle.odht_tool_core.proofs.examples.Shapes.{one_bytes}

-- ---- check
-- a valid table, also with a bound of searches that it keeps
pub valid : (check_outcome false (codes "a") one_bytes (Some Unhash) None ≡ writes (codes "a: valid\n") Done)
    × (check_outcome false (codes "a") one_bytes (Some Unhash) (Some 128) ≡ writes (codes "a: valid, and no search reads more than 128 groups\n") Done)
unfolding opened first_longer digits
valid = (refl, refl)

-- and with one that no table keeps
pub too_long : check_outcome false (codes "a") one_bytes (Some Unhash) (Some 0) ≡ writes (codes "a: Searches from slot 0 may read more than 0 groups; --whole works without this bound\n") NotDone
unfolding opened first_longer digits
too_long = refl

-- the same for the commands that test it before they search; they have none without a bound, and for bytes that are no table
pub bounds : (bound_refusal one_bytes (Some 0) ≡ Some (SearchTooLong 0 0)) × (bound_refusal one_bytes (Some 128) ≡ None)
    × (bound_refusal one_bytes None ≡ None) × (bound_refusal (79 ∷ 68 ∷ []) (Some 0) ≡ None)
unfolding opened first_longer
bounds = (refl, refl, refl, refl)

-- two bytes
pub too_short : check_outcome false (codes "a") (79 ∷ 68 ∷ []) None None ≡ writes (codes "a: Provided data has 2 bytes but the header needs 32\n") NotDone
unfolding opened digits
too_short = refl

-- another first byte, a tab, and one that is not printed
pub foreign : check_outcome false (codes "a") (overwritten_at one_bytes 0 (9 ∷ 0x7F ∷ [])) None None ≡ writes (codes "a: not an odht table: it begins with 09 7f 48 54, \"\\t\\x7fHT\"\n") NotDone
unfolding opened digits
foreign = refl

-- a count of one item more, which is an earlier error than that of a bound
pub miscounted : check_outcome false (codes "a") (overwritten_at one_bytes 8 (2 ∷ [])) (Some Unhash) (Some 0) ≡ writes (codes "a: Header states 2 items but 1 were found\n") NotDone
unfolding opened digits
miscounted = refl

-- a dynamic table, whose key has another home by its hash than the slot that it is in; and keys of three bytes,
-- which are too short for a hash function
pub any_sizes : (check_outcome false (codes "a") other_bytes (Some Unhash) None ≡ writes (codes "a: Key in slot 5 is not reachable by its search\n") NotDone)
    × (check_outcome false (codes "a") (overwritten_at one_bytes 5 (3 ∷ [])) (Some Unhash) None ≡ fails (ShortKeys 3))
unfolding opened first_longer digits
any_sizes = (refl, refl)

-- what `find` says of a table, by the bound, and of one that fits no hash function
pub words : (check_word (Some 128) one_bytes (Ok (Ready DirectU32ToU32)) ≡ codes "valid")
    × (check_word (Some 0) one_bytes (Ok (Ready DirectU32ToU32)) ≡ codes "long")
    × (check_word (Some 0) (overwritten_at one_bytes 8 (2 ∷ [])) (Ok (Ready DirectU32ToU32)) ≡ codes "rejected")
    × (check_word None one_bytes (Err (NoHash 9 4)) ≡ codes "-")
unfolding opened first_longer
words = (refl, refl, refl, refl)

-- ---- dump
pub pairs : dump_outcome one_bytes (Some Unhash) unsaid false false ≡ writes (codes "5\t7\n") Done
unfolding opened digits
pairs = refl

pub slots : dump_outcome one_bytes (Some Unhash) unsaid true false ≡ writes (codes "5\t0\t1\t5\t7\n") Done
unfolding opened digits groups_to
slots = refl

-- of other sizes in hexadecimal digits, where their types are said to be that many bytes, or nothing is said of them
pub hexadecimal : (dump_outcome other_bytes None unsaid false false ≡ writes (codes "050000000700\t0000\n") Done)
    × (dump_outcome other_bytes None (said (kind (Bytes 6) Own) (kind (Bytes 2) Own)) true false ≡ writes (codes "5\t0\t1\t050000000700\t0000\n") Done)
    × (dump_outcome other_bytes None (said (kind (Bytes 6) Own) (kind U32 Own)) true false ≡ fails (OtherValue (Bytes 2)))
    × (list_outcome Key other_bytes None unsaid false ≡ writes (codes "050000000700\n") Done)
unfolding opened digits groups_to
hexadecimal = (refl, refl, refl, refl)

-- with other texts: 5 is 5 * 2^24 with its highest byte first; of another type there is none
pub formed : (dump_outcome one_bytes (Some Unhash) (said (kind U32 BigEndian) (kind U32 Signed)) false false ≡ writes (codes "83886080\t7\n") Done)
    × (dump_outcome one_bytes (Some Unhash) (said (kind U64 BigEndian) (kind U32 Signed)) false false ≡ fails (OtherKey U32))
unfolding opened digits
formed = (refl, refl)

-- ---- keys, and values
pub sides : (list_outcome Key one_bytes (Some Unhash) unsaid false ≡ writes (codes "5\n") Done)
    × (list_outcome Key one_bytes (Some Unhash) (said (kind U32 BigEndian) (kind U32 Own)) false ≡ writes (codes "83886080\n") Done)
    × (list_outcome Value one_bytes (Some Unhash) unsaid false ≡ writes (codes "7\n") Done)
    × (list_outcome Value other_bytes None unsaid false ≡ writes (codes "0000\n") Done)
unfolding opened digits
sides = (refl, refl, refl, refl)

-- the hash function is found, where none is named; with another control byte none fits
pub found : (dump_outcome one_bytes None unsaid false false ≡ writes (codes "5\t7\n") Done) × (dump_outcome (overwritten_at one_bytes 165 (1 ∷ [])) None unsaid false false ≡ fails (NoHash 4 4))
unfolding opened digits
found = (refl, refl)

-- the hint is for bytes that are rejected where none is named: another hash function than the first that fits, as where
-- the header counts an item and no slot is occupied
pub hinted : (hint_of (overwritten_at one_bytes 165 (255 ∷ [])) None ≡ Some Unhash)
    × (hint_of (overwritten_at one_bytes 165 (255 ∷ [])) (Some Fx) ≡ None)
    × (hint_of one_bytes None ≡ None)
    × (hint_of (overwritten_at one_bytes 165 (1 ∷ [])) None ≡ None)
unfolding opened
hinted = (refl, refl, refl, refl)

pub hint_line : hint_text (codes "a.odht") Unhash ≡ codes "odht: a.odht: all control bytes fit unhash: try --hash unhash, or `odht info`\n"
hint_line = refl

pub refused : (dump_outcome (79 ∷ 68 ∷ []) None unsaid false false ≡ fails (Refused (TooShort 2)))
    × (dump_outcome (79 ∷ 68 ∷ []) None unsaid true false ≡ fails (Refused (TooShort 2)))
unfolding opened
refused = (refl, refl)

-- ---- what a call did
-- it wrote the text after what was there, and returned the status
pub wrote : IsDone (writes (codes "b") Done) (Some (codes "a")) (Some (codes "ab")) (Ok Done)
wrote = (refl, refl)

-- another status, or another text
pub other_status : IsDone (writes (codes "b") Done) (Some (codes "a")) (Some (codes "ab")) (Ok NotDone) → ⊥
other_status h = cc

pub other_text : IsDone (writes (codes "b") Done) (Some (codes "a")) (Some (codes "a")) (Ok Done) → ⊥
other_text h = unequal_lists (codes "a") (codes "ab") refl h.1

-- a failure other than that of the writer
pub no_memory : IsDone (writes (codes "b") Done) (Some (codes "a")) (Some (codes "a")) (Err Memory) → ⊥
no_memory h = h

-- of a failure nothing is written, and it is returned
pub failed : IsDone (fails Memory) (Some (codes "a")) (Some (codes "a")) (Err Memory)
failed = (refl, refl)

pub failed_silently : IsDone (fails Memory) (Some (codes "a")) (Some (codes "a")) (Ok Done) → ⊥
failed_silently h = cc

pub failed_late : IsDone (fails Memory) (Some (codes "a")) (Some (codes "ab")) (Err Memory) → ⊥
failed_late h = unequal_lists (codes "ab") (codes "a") refl h.1
