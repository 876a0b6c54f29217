use Rattle.std.proofs.Common.{rules, arith, ◌≡◌, ◌∙◌, ◌&&◌, true, is_none, nat_le, slice_index, Option, Some, None, sym, ap, refl}
use Rattle.std.specs.Prelude.{is_ok}
use Rattle.std.proofs.lemmas.Bool.{le-leb}
use Rattle.odht_base.specs.Format.{format_of}
use Rattle.odht_header.specs.Refusals.{checked, check_refusal_by}
use Rattle.odht_header.specs.declared.error.Error.{Error}
use Rattle.odht_tool_core.specs.InfoNumbers.{info_refusal}
use Rattle.odht_tool_core.proofs.found.is_valid.Goals as goal

is_ok-checked : (o : Option Error) → is_ok (checked o) ≡ is_none o
is_ok-checked None = refl
is_ok-checked (Some x) = refl

pub returns : goal.returns
returns g c =
    let B = c.args.bytes.now in
    let h = g.H.HashFn.hash in
    let k = slice_index B 5 in
    let key : c.layout-layout.result.key_len ≡ k = c.layout-layout.ensures.key ∙ ap (λ t. t.key_len) c.in-Ok.ensures.parts in
    let value : c.layout-layout.result.value_len ≡ slice_index B 6 = c.layout-layout.ensures.value ∙ ap (λ t. t.value_len) c.in-Ok.ensures.parts in
    let opens : None ≡ info_refusal B = c.in-Ok.ensures.err in
    let long : true ≡ nat_le g.H.HashFn.MIN_LEN k = sym (le-leb g.H.HashFn.MIN_LEN k (omega (arith, key, c.MIN_LEN.ensures, c.if-layout-MIN_LEN.false))) in
    let ok : c.is_ok.result ≡ is_ok c.check_within.result = search rules in
    ok ∙ ap is_ok c.check_within.ensures ∙ is_ok-checked _
    ∙ (λ i. is_none (opens i) && long i && is_none (check_refusal_by (format_of (key i) (value i) h) (Some 128) B))
