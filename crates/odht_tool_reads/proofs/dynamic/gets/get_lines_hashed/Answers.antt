use Rattle.std.proofs.Common.{◌≡◌, ℕ, List, Option, None, Result, Ok, Err, subst}
use Rattle.odht_base.specs.Format.{format_of}
use Rattle.odht_header.specs.Coding.{Coding}
use Rattle.odht_header.specs.Refusals.{view_refusal}
use Rattle.odht_raw.specs.DynParts.{bytes_coding}
use Rattle.odht_tool_reads.specs.GetLines.{AreLinesAnswered, AreLinesGot}
use Rattle.odht_tool_core.specs.JsonAnswers.{answer_in}
use Rattle.odht_tool_core.specs.DynTexts.{IsDynamicOf, dynamic_text, dynamic_wanted}
use Rattle.odht_tool_core.specs.declared.failure.Failure.{Failure}
use Rattle.odht_tool_core.specs.declared.failure.Failure.TheVariants.{Input, Output, Memory, Misread}
use Rattle.odht_tool_core.specs.declared.misread.Wanted.{Wanted}
use Rattle.odht_tool_core.specs.declared.status.Status.{Status}
use Rattle.odht_tool_reads.specs.declared.lookups.Coming.{Coming}
use Rattle.odht_tool_reads.proofs.dynamic.gets.get_lines_hashed.Goals as goal

-- what is answered of an opened table is got
opened_got : {K V : Type 0} (c : Coding K V) (l : K × Option V → List ℕ) (R : List ℕ → K → Type 0) (p : Wanted) (B : List ℕ) (x : Coming) (input old new : Option (List ℕ)) (r : Result Status Failure)
    → view_refusal c.format B ≡ None → AreLinesAnswered c l R p B x input old new r → AreLinesGot c l R p B x input old new r
opened_got c l R p B x input old new (Ok status) opened h = (opened, h)
opened_got c l R p B x input old new (Err (Misread message)) opened h = (opened, h)
opened_got c l R p B x input old new (Err Memory) opened h = (opened, h)
opened_got c l R p B x input old new (Err (Input error)) opened h = (opened, h)
opened_got c l R p B x input old new (Err (Output error)) opened h = (opened, h)
opened_got c l R p B x input old new (Err _) opened h = absurd h

-- the table has these lengths and these bytes
pub returns : goal.returns
returns g c =
    let input = g.I.Read.remaining c.args.input.now in
    let old = g.O.Write.contents c.args.output.now in
    let new = g.O.Write.contents c.answer_lines.new.output in
    let r = c.answer_lines.result in
    let forms = c.args.style.answers.forms in
    let coming = c.args.style.coming in
    let line = answer_in c.args.style.answers.printed (dynamic_text forms.key) (dynamic_text forms.value) in
    let R = IsDynamicOf forms.key in
    let p = dynamic_wanted forms.key in
    let coding = λ (k v : ℕ). bytes_coding (format_of k v g.H.HashFn.hash) in
    let answered = λ (k v : ℕ) (B : List ℕ). AreLinesAnswered (coding k v) line R p B coming input old new r in
    let table = c.in_ok-table.table in
    let layout = c.args.layout in
    let here : answered layout.key_len layout.value_len c.args.job.now.bytes.now =
    subst (λ (k : ℕ). answered k layout.value_len c.args.job.now.bytes.now) c.in_ok-table.ensures.key
    (subst (λ (v : ℕ). answered table.key_len v c.args.job.now.bytes.now) c.in_ok-table.ensures.value
    (subst (λ (B : List ℕ). answered table.key_len table.value_len B) c.in_ok-table.ensures.bytes c.answer_lines.ensures)) in
    opened_got (coding layout.key_len layout.value_len) line R p c.args.job.now.bytes.now coming input old new r c.in_ok-table.ensures.opened here
