use Rattle.std.proofs.Common.{◌∙◌, ap, sym, fold, get_or, take_all}
use Rattle.std.proofs.lemmas.List.Sums.{fold_more}
use Rattle.odht_base.specs.Xxh64.{add_byte}
use Rattle.odht_base.proofs.hash.xxh64.add_bytes.Goals as goal

pub loop-byte-preserved : goal.loop-byte-preserved
loop-byte-preserved c = c.add_last-state.ensures ∙ ap (λ s. add_byte s (get_or c.args.bytes.now c.loop-byte.byte-index 0)) c.loop-byte.invariant ∙ sym (fold_more add_byte c.args.state _ _ 0 c.loop-byte-test.true)

pub returns : goal.returns
returns c = c.loop-byte.invariant ∙ ap (fold add_byte c.args.state) (take_all _ _ c.loop-byte-test.false)
