-- What `diff` does with the bytes A and B of two files, its first and its second one. Keys and values are stored bytes, and f
-- and g are the texts of these.
--     side_mark side       what stands before a pair of this side for whose key the other has no value
--     change_line f g p v  the line of the pair p of the first side where the second has the value v for its key; nothing
--                          where that is the same value
--     diff_line f g side p o   the line of the pair p of this side, where o is what the other has for its key
--     side_line f g side ys p  the same, where the other has the pairs ys
--     side_text f g side ys xs   the lines of the pairs xs of this side, in their order
--     diff_text f g xs ys  the lines of the first side, which has the pairs xs, and then of the second, which has ys
--     same_text A B        the one line where no pair differs: whether the bytes are the same
--     compared A B lines       these lines are written, with the status `NotDone`; where there are none, that one line, with `Done`
--     pairs_diff f g A B xs ys   what is told of the two files, which have the pairs xs and ys
--     diff_of s fs A u B   of bytes A of the shape s, and bytes B of the shape u, in the texts of s in the forms fs
--     IsDiffed s fs A x B old new r    a call that took a writer from the bytes old to new and returned r told that of the
--                          shape that x has for the bytes B, where its sizes are those of s; else, and where x is a failure,
--                          it wrote nothing there, and the status is `Trouble`
use Rattle.std.specs.Prelude.{◌≡◌, ℕ, Bool, true, false, List, [], ◌∷◌, ◌++◌, codes, flat_map, bytes_eq, Option, Some, None, Result, Ok, Err, if◌then◌else◌}
use Rattle.std.specs.Io.KnownBytes.{Keeps}
use Rattle.odht_base.specs.Decoded.{decoded_pairs}
use Rattle.odht_base.specs.Map.{value_in}
use Rattle.odht_base.specs.Table.{Pair}
use Rattle.odht_tool_reads.specs.declared.dynamic.diffs.Side.{Side}
use Rattle.odht_tool_reads.specs.declared.dynamic.diffs.Side.TheVariants.{First, Second}
use Rattle.odht_tool_core.specs.AnyShapes.{any_format}
use Rattle.odht_tool_core.specs.Endings.{IsDone, Outcome}
use Rattle.odht_tool_core.specs.Endings.Outcome.{writes}
use Rattle.odht_tool_core.specs.StoredTexts.{key_text, texts_of, value_text}
use Rattle.odht_tool_core.specs.Texts.{pair_line}
use Rattle.odht_tool_core.specs.declared.any.AnyShape.{AnyShape}
use Rattle.odht_tool_core.specs.declared.failure.Failure.{Failure}
use Rattle.odht_tool_core.specs.declared.forms.GivenForms.{GivenForms}
use Rattle.odht_tool_core.specs.declared.status.Status.{Status}
use Rattle.odht_tool_core.specs.declared.status.Status.TheVariants.{Done, NotDone, Trouble}
use Rattle.odht_tool_tables.specs.Wholes.{have_same_sizes}

-- ---- lines
abbrev pub side_mark : Side → List ℕ
side_mark First = codes "-\t"
side_mark Second = codes "+\t"

abbrev pub change_line : (List ℕ → List ℕ) → (List ℕ → List ℕ) → Pair → List ℕ → List ℕ
change_line f g p v =
    if bytes_eq p.value v then []
    else codes "~\t" ++ (f p.key ++ (codes "\t" ++ (g p.value ++ (codes "\t" ++ (g v ++ codes "\n")))))

abbrev pub diff_line : (List ℕ → List ℕ) → (List ℕ → List ℕ) → Side → Pair → Option (List ℕ) → List ℕ
diff_line f g side p None = side_mark side ++ pair_line f g (p.key, p.value)
diff_line f g First p (Some v) = change_line f g p v
diff_line f g Second p (Some v) = []

abbrev pub side_line : (List ℕ → List ℕ) → (List ℕ → List ℕ) → Side → List Pair → Pair → List ℕ
side_line f g side ys p = diff_line f g side p (value_in ys p.key)

abbrev pub side_text : (List ℕ → List ℕ) → (List ℕ → List ℕ) → Side → List Pair → List Pair → List ℕ
side_text f g side ys xs = flat_map (side_line f g side ys) xs

abbrev pub diff_text : (List ℕ → List ℕ) → (List ℕ → List ℕ) → List Pair → List Pair → List ℕ
diff_text f g xs ys = side_text f g First ys xs ++ side_text f g Second xs ys

abbrev pub same_text : List ℕ → List ℕ → List ℕ
same_text A B = if bytes_eq A B then codes "same bytes\n" else codes "same pairs, other bytes\n"

-- ---- of two tables
abbrev pub compared : List ℕ → List ℕ → List ℕ → Outcome
compared A B [] = writes (same_text A B) Done
compared A B (b ∷ bs) = writes (b ∷ bs) NotDone

abbrev pub pairs_diff : (List ℕ → List ℕ) → (List ℕ → List ℕ) → List ℕ → List ℕ → List Pair → List Pair → Outcome
pairs_diff f g A B xs ys = compared A B (diff_text f g xs ys)

abbrev pub diff_of : AnyShape → GivenForms → List ℕ → AnyShape → List ℕ → Outcome
diff_of s fs A u B =
    let t = texts_of s fs in
    pairs_diff (key_text t) (value_text t) A B (decoded_pairs (any_format s) A) (decoded_pairs (any_format u) B)

-- where the sizes are the same, or not
abbrev pub IsDiffedBy : Bool → Outcome → Option (List ℕ) → Option (List ℕ) → Result Status Failure → Type 0
IsDiffedBy true o old new r = IsDone o old new r
IsDiffedBy false o old new r = (r ≡ Ok Trouble) × Keeps old new

abbrev pub IsDiffed : AnyShape → GivenForms → List ℕ → Result (AnyShape × GivenForms) Failure → List ℕ → Option (List ℕ) → Option (List ℕ) → Result Status Failure → Type 0
IsDiffed s fs A (Ok x) B old new r = IsDiffedBy (have_same_sizes s x.0) (diff_of s fs A x.0 B) old new r
IsDiffed s fs A (Err failure) B old new r = (r ≡ Ok Trouble) × Keeps old new
