use Rattle.std.proofs.Common.{rules, refl, ◌≡◌, ◌∙◌, false, not, is_some, Option, Some, None, Err, IfSome, ap, subst, sym}
use Rattle.std.specs.Prelude.{IfErr}
use Rattle.odht_base.specs.Bytes.{bytes_at}
use Rattle.odht_base.specs.Decoded.{header_count}
use Rattle.odht_tool_core.specs.declared.shapes.Hash.{Hash}
use Rattle.odht_tool_reads.proofs.FileReads.{counted, counted_none, no_shape}
use Rattle.odht_tool_reads.specs.Positions.{HasNoHash, IsLeft}
use Rattle.odht_tool_reads.proofs.positions.names.named_or_left_hash.Goals as goal

none_default : (d : Option Hash) → is_some d ≡ false → d ≡ None
none_default None e = refl
none_default (Some h) e = cc

pub returns-then-is_none-clause-given : goal.returns-then-is_none-clause-given
returns-then-is_none-clause-given g c B h is =
    rw c.in-None.is (
      counted_none B c.args.start.now is c.requires.long (ap header_count (sym c.of.ensures) ∙ sym c.item_count.ensures ∙ c.if-item_count-eq0.true),
      none_default c.args.default (c.is_none.ensures ∙ ap not c.if-is_none.true),
    )

pub returns-in-Some-2-clause-given : goal.returns-in-Some-2-clause-given
returns-in-Some-2-clause-given g c B h is =
    let start = c.args.start.now in
    rw c.in-None.is (
      (λ none. c.if-item_count-eq0.false (c.item_count.ensures ∙ ap header_count c.of.ensures ∙ counted B start is c.requires.long ∙ none)),
      subst (λ o. IfSome o (IsLeft (bytes_at B start.at start.len))) c.in-Some-2.is (c.in_ok-hash-in-None.ensures.given B h is),
    )

-- where no hash function is left
pub returns-in_err-hash-in-None-clause-unfit : goal.returns-in_err-hash-in-None-clause-unfit
returns-in_err-hash-in-None-clause-unfit g c B h is =
    let start = c.args.start.now in
    let x = c.in_err-hash-in-None.field-0.0 in
    let failed : c.from_residual.result ≡ Err x = search rules in
    subst (λ r. IfErr r (λ f. (c.args.hash ≡ None) × HasNoHash (bytes_at B start.at start.len) c.args.default f)) (sym failed) (
      c.in-None.is,
      no_shape (bytes_at B start.at start.len) x (c.in_err-hash-in-None.ensures.unfit B h is)
          (λ none. c.if-item_count-eq0.false (c.item_count.ensures ∙ ap header_count c.of.ensures ∙ counted B start is c.requires.long ∙ none)) c.args.default,
    )
