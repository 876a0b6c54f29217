use Rattle.std.proofs.Common.{◌≡◌, ◌∙◌, ℕ, List, length, nat_lt, drop, false, None, sym, ap, subst, arith, le-ltb, ◌+◌}
use Rattle.std.specs.Bool.{then_some}
use Rattle.std.specs.Io.KnownBytes.{Appends}
use Rattle.std.specs.Prelude.{OnOk}
use Rattle.std.specs.Result.{result_err}
use Rattle.std.proofs.lemmas.Option.{none-some}
use Rattle.odht_tool_core.specs.declared.failure.Failure.TheVariants.{PastEnd}
use Rattle.odht_tool_core.specs.AnyShapes.{found_any}
use Rattle.odht_tool_core.specs.Finds.{table_report}
use Rattle.odht_tool_core.specs.Fronts.{offset_failure, table_front}
use Rattle.odht_tool_core.specs.InfoNumbers.{info_refusal}
use Rattle.odht_tool_core.specs.Reports.{report_among}
use Rattle.odht_tool_reads.specs.Outcomes.{check_word}
use Rattle.odht_tool_core.proofs.Finds.{within_bytes, table_opens}
use Rattle.odht_tool_reads.proofs.FindEnds.{only_writer}
use Rattle.odht_tool_reads.proofs.commands.find.write_table.Goals as goal

-- the table begins in the bytes
pub returns-in_err-table-clause-err : goal.returns-in_err-table-clause-err
returns-in_err-table-clause-err g c =
    let B = c.args.job.now.bytes.now in
    let at = c.args.at in
    let within : nat_lt (length B) at ≡ false = le-ltb (length B) at (omega (arith, within_bytes B at c.requires)) in
    let none : offset_failure B at ≡ None = ap (λ b. then_some b (PastEnd at (length B))) within in
    absurd (none-some c.in_err-table.field-0.0 (sym none ∙ sym c.table_at.ensures.past ∙ ap result_err c.in_err-table.was))

-- and opens, so what is left is the writer
pub returns-clause-err : goal.returns-clause-err
returns-clause-err g c =
    only_writer c.in_ok-table.table.now c.write_row.result
    (ap info_refusal c.in_ok-table.ensures.table ∙ table_opens (drop c.args.at c.args.job.now.bytes.now) c.requires) c.write_row.ensures.err

-- what is written is the report of the table, and of what the check says of it
pub returns-clause-ok : goal.returns-clause-ok
returns-clause-ok g c =
    let j = c.args.job.now in
    let old = g.O.Write.contents c.args.output.now in
    let new = g.O.Write.contents c.write_row.new.output in
    let r = c.write_row.result in
    let text = λ (p : ℕ). λ (T : List ℕ). λ (word : List ℕ). report_among j.is_json (table_report (p + c.args.at) T word) in
    let front = table_front (drop c.args.at j.bytes.now) in
    let before = c.unwrap_or.result in
    subst (λ p. OnOk r (Appends old new (text p front (check_word j.bound front (found_any front None))))) c.unwrap_or.ensures
    (subst (λ T. OnOk r (Appends old new (text before T (check_word j.bound T (found_any T None))))) c.in_ok-table.ensures.table
    (subst (λ word. OnOk r (Appends old new (text before c.in_ok-table.table.now word))) c.check_word-checked.ensures c.write_row.ensures.ok))
