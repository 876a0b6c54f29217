use Rattle.std.proofs.Common.{◌∙◌, sym, subst, refl}
use Rattle.odht_raw.specs.Words.{Format, format_of}
use Rattle.odht_header.specs.Layouts.{IsLayout}
use Rattle.odht_header.specs.Refusals.{IsTooLarge}
use Rattle.odht.proofs.lemmas.GrownBytes.{table_len-layout}
use Rattle.odht.proofs.lemmas.NewRefusals.{new_len-none}
use Rattle.odht.proofs.dynamic.DynTable.bytes_needed.Goals as goal

pub returns-in_err-len : goal.returns-in_err-len
returns-in_err-len g c =
    let F : Format = format_of c.args.layout.key_len c.args.layout.value_len g.H.HashFn.hash in
    let large = subst (IsTooLarge F c.args.max_item_count) c.from_percent-factor.ensures ((c.in_err-len.ensures.none g.H.HashFn.hash).0 refl) in
    c.from_residual.ensures ∙ (new_len-none F c.args.max_item_count _).1 large

pub returns : goal.returns
returns g c =
    let F : Format = format_of c.args.layout.key_len c.args.layout.value_len g.H.HashFn.hash in
    let l = subst (λ f. IsLayout F c.args.max_item_count f c.in_ok-len.field-0-0 c.in_ok-len.len) c.from_percent-factor.ensures (c.in_ok-len.ensures.some g.H.HashFn.hash) in
    sym (table_len-layout F c.args.max_item_count _ c.in_ok-len.field-0-0 c.in_ok-len.len l)
