use Rattle.std.proofs.Common.{rules, ◌≡◌, ◌∙◌, ◌≤◌, Err, length, take, sym, ap, subst}
use Rattle.std.specs.Result.{result_err}
use Rattle.std.proofs.lemmas.List.{length-take-le}
use Rattle.odht_base.specs.Format.{Format, format_of}
use Rattle.odht_raw.specs.Prefixes.{IsFront}
use Rattle.odht_raw.proofs.lemmas.Prefixes.{IsFront-len, prefix_refusal-short}
use Rattle.odht_tool_core.specs.InfoNumbers.{format_by}
use Rattle.odht_tool_core.specs.ReadyShapes.{hash_of}
use Rattle.odht_tool_core.specs.declared.shapes.Hash.TheVariants.{Fx}
use Rattle.odht_tool_core.proofs.front.front_of.Goals.{In_ok-len}
use Rattle.odht_tool_core.proofs.front.front_of.Goals as goal

pub returns-in_err-layout-clause-err : goal.returns-in_err-layout-clause-err
returns-in_err-layout-clause-err c =
    let B = c.args.bytes.now in
    let failed : c.from_residual.result ≡ Err c.in_err-layout.field-0.0 = search rules in
    ap result_err failed ∙ ap result_err c.in_err-layout.ensures.err ∙ sym (prefix_refusal-short (format_by B Fx) B c.in_err-layout.ensures.short)

-- that many bytes are the front, of the lengths that the header states
is_front : (c : In_ok-len) → IsFront (format_by c.args.bytes.now Fx) c.args.bytes.now c.in_ok-len.len
is_front c =
    let B = c.args.bytes.now in
    subst (λ (F : Format). IsFront F B c.in_ok-len.len) (λ i. format_of (c.in_ok-layout.ensures.key i) (c.in_ok-layout.ensures.value i) (hash_of Fx)) (c.in_ok-len.ensures.ok (hash_of Fx))

pub slice_bounds-result-end : goal.slice_bounds-result-end
slice_bounds-result-end c =
    let front = is_front (goal.at.slice_bounds-result-end c).In_ok-len in
    sym (length-take-le c.in_ok-len.len c.args.bytes.now front.within)

pub returns-clause-table : goal.returns-clause-table
returns-clause-table c =
    let B = c.args.bytes.now in
    ap (λ n. take n B) (IsFront-len (format_by B Fx) B c.in_ok-len.len (is_front (goal.at.returns-clause-table c).In_ok-len))

pub returns-clause-enough : goal.returns-clause-enough
returns-clause-enough c =
    let B = c.args.bytes.now in
    let front = is_front (goal.at.returns-clause-enough c).In_ok-len in
    subst (λ n. n ≤ length B) (IsFront-len (format_by B Fx) B c.in_ok-len.len front) front.within
