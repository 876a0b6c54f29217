-- Worked examples: what `diff` does. Texts are the bytes themselves.
--     it k v               the pair of the texts k and v
--     old, new             two lists of pairs
use Rattle.std.proofs.Common.{◌≡◌, ℕ, refl, List, [], ◌∷◌, Some, None}
use Rattle.std.specs.Prelude.{codes}
use Rattle.std.specs.Fmt.{digits}
use Rattle.odht_base.specs.Bytes.{overwritten_at}
use Rattle.odht_base.specs.Table.{Pair}
use Rattle.odht_header.proofs.examples.Apart.{unequal_lists}
use Rattle.odht_header.proofs.examples.Opened.{opened}
use Rattle.odht_tool_reads.specs.Diffs.{change_line, diff_line, diff_of, diff_text, pairs_diff, same_text, side_line, side_mark, side_text, compared}
use Rattle.odht_tool_reads.specs.declared.dynamic.diffs.Side.TheVariants.{First, Second}
use Rattle.odht_tool_core.specs.Endings.Outcome.{writes}
use Rattle.odht_tool_core.specs.declared.any.AnyShape.TheVariants.{Ready}
use Rattle.odht_tool_core.specs.declared.forms.Form.TheVariants.{Own}
use Rattle.odht_tool_core.specs.declared.generated.shapes.Shape.TheVariants.{DirectU32ToU32}
use Rattle.odht_tool_core.specs.declared.status.Status.TheVariants.{Done, NotDone}
use Rattle.odht_tool_core.proofs.examples.Shapes.{one_bytes}

abbrev same : List ℕ → List ℕ
same b = b

abbrev it : List ℕ → List ℕ → Pair
it k v = record { key = k; value = v }

abbrev old : List Pair
old = it (codes "a") (codes "1") ∷ it (codes "b") (codes "2") ∷ it (codes "c") (codes "3") ∷ []

abbrev new : List Pair
new = it (codes "c") (codes "3") ∷ it (codes "d") (codes "4") ∷ it (codes "b") (codes "9") ∷ []

-- ---- lines
-- a pair of either side whose key the other has not; of the first one also where the other value is another one
pub lines : (diff_line same same First (it (codes "a") (codes "1")) None ≡ codes "-\ta\t1\n")
    × (diff_line same same Second (it (codes "a") (codes "1")) None ≡ codes "+\ta\t1\n")
    × (diff_line same same First (it (codes "a") (codes "1")) (Some (codes "2")) ≡ codes "~\ta\t1\t2\n")
    × (diff_line same same First (it (codes "a") (codes "1")) (Some (codes "1")) ≡ [])
    × (diff_line same same Second (it (codes "a") (codes "1")) (Some (codes "2")) ≡ [])
lines = (refl, refl, refl, refl, refl)

pub marks : (side_mark First ≡ 45 ∷ 9 ∷ []) × (side_mark Second ≡ 43 ∷ 9 ∷ [])
marks = (refl, refl)

-- the value of the first file comes first
pub other_order : change_line same same (it (codes "a") (codes "1")) (codes "2") ≡ codes "~\ta\t2\t1\n" → ⊥
other_order = unequal_lists _ _ refl

-- by the pairs of the other table
pub beside : (side_line same same First new (it (codes "b") (codes "2")) ≡ codes "~\tb\t2\t9\n")
    × (side_line same same First new (it (codes "c") (codes "3")) ≡ [])
    × (side_line same same Second new (it (codes "a") (codes "2")) ≡ codes "+\ta\t2\n")
beside = (refl, refl, refl)

-- the pairs of each side are in its order, first those of the first one
pub texts : (side_text same same First new old ≡ codes "-\ta\t1\n~\tb\t2\t9\n")
    × (side_text same same Second old new ≡ codes "+\td\t4\n")
    × (diff_text same same old new ≡ codes "-\ta\t1\n~\tb\t2\t9\n+\td\t4\n")
    × (diff_text same same new old ≡ codes "-\td\t4\n~\tb\t9\t2\n+\ta\t1\n")
texts = (refl, refl, refl, refl)

-- the same pairs in another order have no lines
pub other_slots : diff_text same same (it (codes "a") [] ∷ it (codes "b") [] ∷ []) (it (codes "b") [] ∷ it (codes "a") [] ∷ []) ≡ []
other_slots = refl

-- ---- of two tables
-- where there are no lines, the bytes are looked at
pub said_of : (same_text (1 ∷ 2 ∷ []) (1 ∷ 2 ∷ []) ≡ codes "same bytes\n")
    × (same_text (1 ∷ 2 ∷ []) (1 ∷ 3 ∷ []) ≡ codes "same pairs, other bytes\n")
    × (same_text (1 ∷ 2 ∷ []) (1 ∷ []) ≡ codes "same pairs, other bytes\n")
said_of = (refl, refl, refl)

pub ends : (compared (1 ∷ []) (1 ∷ []) [] ≡ writes (codes "same bytes\n") Done)
    × (compared (1 ∷ []) (2 ∷ []) [] ≡ writes (codes "same pairs, other bytes\n") Done)
    × (compared (1 ∷ []) (1 ∷ []) (codes "-\ta\t1\n") ≡ writes (codes "-\ta\t1\n") NotDone)
ends = (refl, refl, refl)

pub compared_pairs : (pairs_diff same same (1 ∷ []) (2 ∷ []) old new ≡ writes (codes "-\ta\t1\n~\tb\t2\t9\n+\td\t4\n") NotDone)
    × (pairs_diff same same (1 ∷ []) (2 ∷ []) old old ≡ writes (codes "same pairs, other bytes\n") Done)
compared_pairs = (refl, refl)

-- a table of the value 7 for the key 5, and the same with the value 9
pub tables : (diff_of (Ready DirectU32ToU32) (record { key = Own; value = Own }) one_bytes (Ready DirectU32ToU32) one_bytes ≡ writes (codes "same bytes\n") Done)
    × (diff_of (Ready DirectU32ToU32) (record { key = Own; value = Own }) one_bytes (Ready DirectU32ToU32) (overwritten_at one_bytes 76 (9 ∷ []))
    ≡ writes (codes "~\t5\t7\t9\n") NotDone)
unfolding opened digits
tables = (refl, refl)
