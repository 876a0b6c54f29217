-- Worked examples: the answers to the words of `get`.
--     f                 the text of keys and values of the direct shape
--     line, other       the line of a key and its value; that of a word that is no key
use Rattle.std.proofs.Common.{◌≡◌, false, ℕ, refl, sym, ap, lit<, List, [], ◌∷◌, Option, Some, None}
use Rattle.std.specs.Prelude.{codes}
use Rattle.std.specs.Fmt.{digits}
use Rattle.std.specs.List.{AllZip}
use Rattle.std.proofs.lemmas.Option.{none-some}
use Rattle.odht_base.specs.Numbers.{le_bytes}
use Rattle.odht_header.specs.Coding.{value_for}
use Rattle.odht_header.proofs.examples.Opened.{opened}
use Rattle.odht_tool_core.specs.JsonAnswers.{answer_in, no_key_line, printed_as}
use Rattle.odht_tool_core.specs.ReadyShapes.{typed_text}
use Rattle.odht_tool_core.specs.declared.forms.Form.TheVariants.{Own}
use Rattle.odht_tool_core.specs.declared.shapes.Part.TheVariants.{U32}
use Rattle.odht_tool_core.specs.declared.status.Status.TheVariants.{Done, NotDone}
use Rattle.odht_tool_core.proofs.examples.Shapes.{one_item, one_bytes}
use Rattle.odht_tool_tables.proofs.examples.KeyTexts.{R, five, six, no_key}
use Rattle.odht_tool_tables.proofs.examples.OneTable.{C, one_image, same_table}
use Rattle.odht_tool_reads.specs.Gets.{AreWordsAnswered, IsWordAnswer, words_status}

abbrev f : ℕ → List ℕ
f = typed_text Own U32

abbrev line : ℕ × Option ℕ → List ℕ
line = answer_in (printed_as false false) f f

abbrev other : List ℕ → List ℕ
other = no_key_line (printed_as false false)

-- ---- the answer to a word
-- the key and its value; the key without one; neither of both
pub present : IsWordAnswer C R one_bytes (codes "5") (Some 5, Some 7)
unfolding opened
present = (five, record { on_valid = λ P is. ap (λ T. value_for C T 5) (same_table P is); on_any = (le_bytes 4 7, refl, (5, lit< tt, refl, refl)) })

pub absent : IsWordAnswer C R one_bytes (codes "6") (Some 6, None)
unfolding opened
absent = (six, record { on_valid = λ P is. ap (λ T. value_for C T 6) (same_table P is); on_any = tt })

pub none : IsWordAnswer C R one_bytes (codes "x") (None, None)
none = (no_key, refl)

-- a key that has a value is not absent, and its word not none; a word that is no key has no value
pub missed : IsWordAnswer C R one_bytes (codes "5") (Some 5, None) → ⊥
unfolding opened
missed h = none-some 7 (h.1.on_valid one_item one_image)

pub taken_for_none : (o : Option ℕ) → IsWordAnswer C R one_bytes (codes "5") (None, o) → ⊥
taken_for_none o h = h.0 5 five

pub invented : (v : ℕ) → IsWordAnswer C R one_bytes (codes "x") (None, Some v) → ⊥
invented v h = none-some v (sym h.1)

-- ---- of all words
-- all are there; one is absent; one is no key; there is none
pub statuses : (words_status {K = ℕ} {V = ℕ} ((Some 5, Some 7) ∷ []) ≡ Done)
    × (words_status {K = ℕ} {V = ℕ} ((Some 6, None) ∷ (Some 5, Some 7) ∷ []) ≡ NotDone)
    × (words_status {K = ℕ} {V = ℕ} ((None, None) ∷ (Some 5, Some 7) ∷ []) ≡ NotDone)
    × (words_status {K = ℕ} {V = ℕ} [] ≡ Done)
statuses = (refl, refl, refl, refl)

-- the words after one that is no key are looked up
pub all : AreWordsAnswered C line other R one_bytes (codes "5" ∷ codes "x" ∷ codes "6" ∷ []) (Some (codes "a")) (Some (codes "a5\t7\nx\n6\n")) NotDone
unfolding digits
all = record {
  answers = (Some 5, Some 7) ∷ (None, None) ∷ (Some 6, None) ∷ [];
  each = (present, (none, (absent, tt)));
  written = refl;
  status = refl;
}

-- with this status they are not all there
pub all_there : (new : Option (List ℕ)) → AreWordsAnswered C line other R one_bytes (codes "x" ∷ []) (Some []) new Done → ⊥
all_there new h = go h.answers h.each h.status
  where
    go : (answers : List (Option ℕ × Option ℕ)) → AllZip (IsWordAnswer C R one_bytes) (codes "x" ∷ []) answers → Done ≡ words_status answers → ⊥
    go [] each status = each
    go ((Some k, o) ∷ answers) each status = no_key k each.0.0
    go ((None, Some v) ∷ answers) each status = invented v each.0
    go ((None, None) ∷ []) each status = cc
    go ((None, None) ∷ a ∷ answers) each status = each.1
