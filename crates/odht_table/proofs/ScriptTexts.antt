-- The lines of a script, one after the other, and what their answers make together.
use Rattle.std.proofs.Common.{◌≢◌, get_or, ◌≡◌, ◌∙◌, ℕ, ◌<◌, false, List, [], ◌∷◌, ◌++◌, length, if◌then◌else◌, Option, None, sym, ap, subst, refl, arith, ne_eqb, append-nil, append_assoc}
use Rattle.std.specs.List.{All, slice_split}
use Rattle.std.proofs.lemmas.List.Splits.{slice_split_none, slice_split_at, length-slice_split}
use Rattle.std.specs.Io.KnownBytes.{Appends, Keeps}
use Rattle.std.proofs.KnownBytes.{Appends-nil, Appends-trans, Appends-kept}
use Rattle.odht_tool_core.specs.Cuts.{IsCutAt}
use Rattle.odht_base.specs.Table.{Table}
use Rattle.odht_header.specs.Coding.{Coding}
use Rattle.odht_table.specs.Scripts.{ends_line, without_empty_last, script_lines, IsLineAnswered, AreAnswered, IsAnsweredBy}
use Rattle.odht_table.specs.Scripts.AreAnswered.{no_lines, one_more}

-- a first part stays, whatever the others are
first_part : (part : List ℕ) (parts : List (List ℕ)) → 0 < length parts → without_empty_last (part ∷ parts) ≡ part ∷ without_empty_last parts
first_part part [] l = absurd (omega (arith, l))
first_part part (next ∷ more) l = refl

-- bytes without a line feed have no end of a line
no_ends : (bytes : List ℕ) → All (λ x. x ≢ 10) bytes → All (λ b. ends_line b ≡ false) bytes
no_ends bytes h = λ k d low. ne_eqb (get_or bytes k d) 10 (h k d low)

-- a line ends at the first end, and the others follow it
pub first_line : (script front back : List ℕ) → IsCutAt 10 script front back → script_lines script ≡ front ∷ script_lines back
first_line script front back cut =
    ap script_lines cut.0 ∙ ap without_empty_last (slice_split_at ends_line front 10 back (no_ends front cut.1) refl)
    ∙ first_part front (slice_split ends_line back) (omega (arith, length-slice_split ends_line back))

-- a last line needs no end
pub last_line : (script : List ℕ) → All (λ x. x ≢ 10) script → 0 < length script → script_lines script ≡ script ∷ []
last_line script none l =
    ap without_empty_last (slice_split_none ends_line script (no_ends script none)) ∙ ap (λ b. if b then [] else script ∷ []) (ne_eqb (length script) 0 (omega (arith, l)))

-- a script is answered up to its rest: by a text to which the answers to the rest are appended
pub record IsAnsweredUpTo (c : Coding ℕ ℕ) (script rest : List ℕ) (table : Option Table) (before now : Option (List ℕ)) : Type 0 where
  pub text : List ℕ
  pub written : Appends before now text
  pub goes_on : (texts : List ℕ) (last : Option Table) → AreAnswered c (script_lines rest) table texts last
      → AreAnswered c (script_lines script) None (text ++ texts) last

-- at first nothing is answered
pub up_to_start : (c : Coding ℕ ℕ) (script : List ℕ) (before : Option (List ℕ)) → IsAnsweredUpTo c script script None before before
up_to_start c script before = record { text = []; written = Appends-nil before; goes_on = λ texts last h. h }

-- then a line more
pub up_to_next : (c : Coding ℕ ℕ) (script rest line next : List ℕ) (table new : Option Table) (before now after : Option (List ℕ)) (text : List ℕ)
    → IsAnsweredUpTo c script rest table before now → script_lines rest ≡ line ∷ script_lines next
    → IsLineAnswered c line table text new → Appends now after text → IsAnsweredUpTo c script next new before after
up_to_next c script rest line next table new before now after text h cut is written = record {
  text = h.text ++ text;
  written = Appends-trans before now after h.text text h.written written;
  goes_on = λ texts last more.
      subst (λ ts. AreAnswered c (script_lines script) None ts last) (sym (append_assoc h.text text texts))
      (h.goes_on (text ++ texts) last (subst (λ ls. AreAnswered c ls table (text ++ texts) last) (sym cut) (one_more line (script_lines next) table new last text texts is more)));
}

-- and in the end the whole
pub up_to_end : (c : Coding ℕ ℕ) (script rest : List ℕ) (table : Option Table) (before now after : Option (List ℕ))
    → IsAnsweredUpTo c script rest table before now → length rest ≡ 0 → Keeps now after
    → (text : List ℕ) × IsAnsweredBy c script text × Appends before after text
up_to_end c script [] table before now after h end kept =
    let whole = subst (λ ts. AreAnswered c (script_lines script) None ts table) (append-nil h.text) (h.goes_on [] table (no_lines table)) in
    (h.text, (table, whole), Appends-kept before now after h.text h.written kept)
up_to_end c script (b ∷ rest) table before now after h end kept = absurd (omega (arith, end))
