-- Worked examples: the lines of scripts, and what they are answered with, in their order.
use Rattle.std.proofs.Common.{◌≡◌, ◌∙◌, ℕ, List, [], ◌∷◌, length, slice_index, Option, None, refl, sym, ap, arith}
use Rattle.std.proofs.lemmas.Option.{none-some}
use lib.ListN.{length-append}
use Rattle.std.specs.Prelude.{codes}
use Rattle.odht_header.proofs.examples.Apart.{unequal_lists}
use Rattle.odht_base.specs.Table.{Table}
use Rattle.odht_base.proofs.examples.Configs.{my_config}
use Rattle.odht_table.specs.Commands.{IsCheckText}
use Rattle.odht_table.specs.Scripts.{script_lines, IsOtherAnswered, IsLineAnswered, AreAnswered, IsAnsweredBy}
use Rattle.odht_table.specs.Scripts.IsOtherAnswered.{malformed, checked}
use Rattle.odht_table.specs.Scripts.IsLineAnswered.{other, renewed, no_table, answered}
use Rattle.odht_table.specs.Scripts.AreAnswered.{no_lines, one_more}
use Rattle.odht_table.specs.declared.script.command.Command.TheVariants.{OnTable}
use Rattle.odht_table.specs.declared.script.command.Request.TheVariants.{Get, Len}
use Rattle.odht_table.proofs.Puts.{my_coding}
use Rattle.odht_table.proofs.examples.CommandLines.{get_line}

-- each line is what is before its end, an empty one too; the last needs no end
pub lines : (script_lines [] ≡ [])
    × (script_lines (codes "len") ≡ codes "len" ∷ [])
    × (script_lines (codes "len\n") ≡ codes "len" ∷ [])
    × (script_lines (codes "\n\nlen") ≡ [] ∷ [] ∷ codes "len" ∷ [])
    × (script_lines (codes "len\n\n") ≡ codes "len" ∷ [] ∷ [])
lines = (refl, refl, refl, refl, refl)

-- ---- a line that is no command
-- a letter is answered with `malformed`
no_check : (bytes : List ℕ) → IsCheckText (codes "x") bytes → ⊥
no_check bytes h = omega (arith, ap length h.whole)

pub malformed_line : IsOtherAnswered my_config (codes "x") (codes "malformed")
malformed_line = malformed no_check

-- and with nothing else
pub memory_refused : IsOtherAnswered my_config (codes "x") (codes "memory") → ⊥
memory_refused h = go _ h refl
  where
    go : (text : List ℕ) → IsOtherAnswered my_config (codes "x") text → text ≡ codes "memory" → ⊥
    go _ (malformed none) e = unequal_lists (codes "malformed") (codes "memory") refl e
    go _ (checked bytes text is told) e = no_check bytes is

-- ---- a line before the first table
pub len_line : IsLineAnswered my_coding (codes "len") None (codes "no table\n") None
len_line = no_table Len refl

-- its answer is this
the_text : (line text : List ℕ) (old new : Option Table) → IsLineAnswered my_coding line old text new → line ≡ codes "len" → old ≡ None → text ≡ codes "no table\n"
the_text line _ _ _ (other old text no_command is) e before = absurd (no_command (OnTable Len) e)
the_text line _ _ _ (renewed items percent old new text is table) e before = let letter = ap (λ l. slice_index l 0) (sym is.1 ∙ e) in absurd (omega (arith, letter))
the_text line _ _ _ (no_table request is) e before = refl
the_text line _ _ _ (answered request P Q text is told) e before = absurd (none-some P (sym before))

-- no other text, though it would be right for an empty table
pub other_text_refused : (new : Option Table) → IsLineAnswered my_coding (codes "len") None (codes "0\n") new → ⊥
other_text_refused new h = unequal_lists (codes "0\n") (codes "no table\n") refl (the_text _ _ _ _ h refl refl)

-- ---- a script
-- each of its lines is answered after the one before
pub two_lines : IsAnsweredBy my_coding (codes "len\nget 042") (codes "no table\nno table\n")
two_lines = (None, one_more _ _ _ _ _ _ _ len_line (one_more _ _ _ _ _ _ _ (no_table (Get 42) get_line) (no_lines None)))

-- no line is left out
pub silence_refused : (last : Option Table) → AreAnswered my_coding (codes "len" ∷ []) None [] last → ⊥
silence_refused last h = go _ _ _ h refl refl refl
  where
    go : (ls : List (List ℕ)) (old : Option Table) (text : List ℕ) → AreAnswered my_coding ls old text last → ls ≡ codes "len" ∷ [] → old ≡ None → text ≡ [] → ⊥
    go _ _ _ (no_lines table) e before none = omega (arith, ap length e)
    go _ _ _ (one_more line ls old between new text texts is more) e before none =
        let same : line ≡ codes "len" = cc in
        let told = the_text line text old between is same before in
        omega (arith, ap length told, ap length none, length-append text texts)
