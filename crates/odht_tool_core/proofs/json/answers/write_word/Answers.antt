use Rattle.std.proofs.Common.{◌≡◌, ◌∙◌, [], ◌∷◌, ◌++◌, true, sym, subst}
use Rattle.std.specs.Io.KnownBytes.{Appends}
use Rattle.std.specs.List.{list_all}
use Rattle.std.specs.Prelude.{OnOk, if◌then◌else◌}
use Rattle.odht_tool_core.specs.PlainTexts.{is_plain}
use Rattle.odht_tool_core.specs.Shown.{shown_text}
use Rattle.odht_tool_core.proofs.InfoLines.{then_appends}
use Rattle.odht_tool_core.proofs.json.answers.write_word.Goals as goal

-- the word is its text, since it is one field of one line
pub returns-in_ok-write_all : goal.returns-in_ok-write_all
returns-in_ok-write_all g c =
    let o = g.O.Write.contents in
    let old = o c.args.output.now in
    let new = o c.write_all-then-is_in_line.new.self in
    let word = c.args.word.now in
    let r = c.write_all-then-is_in_line.result in
    let written : OnOk r (Appends old new (word ++ (10 ∷ []))) =
    then_appends r old (o c.write_all.new.self) new word (10 ∷ []) c.in_ok-write_all.ensures.bytes c.write_all-then-is_in_line.ensures.bytes in
    let plain : list_all is_plain word ≡ true = sym c.is_in_line.ensures ∙ c.if-is_in_line.true in
    rw c.if-is_json.false (subst (λ b. OnOk r (Appends old new ((if b then word else shown_text word) ++ (10 ∷ [])))) (sym plain) written)
