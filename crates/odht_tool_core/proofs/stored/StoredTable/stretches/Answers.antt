use Rattle.std.proofs.Common.{◌≡◌, ◌∙◌, ◌*◌, ◌∷◌, [], ◌++◌, length, sym, ap, ap₂}
use Rattle.odht_tool_core.specs.InfoNumbers.{occupied_in, stretch_count, stretch_len}
use Rattle.odht_tool_core.proofs.StretchCounts.{counts_more}
use Rattle.odht_tool_core.proofs.stored.StoredTable.stretches.Goals as goal

-- one stretch more
pub loop-stretch-preserved : goal.loop-stretch-preserved
loop-stretch-preserved c =
    let T = c.args.self.now in
    let n = c.loop-stretch.stretch in
    let len : c.stretch_len-len.result ≡ stretch_len T.slots = c.stretch_len-len.ensures ∙ ap stretch_len (c.len-slots.ensures.value ∙ ap (λ t. t.slots) c.self.view_is) in
    let count : c.count_in.result ≡ stretch_count T n = c.count_in.ensures ∙ ap (λ k. length (occupied_in T (n * k) k)) len in
    c.in_ok-push.ensures.items ∙ ap₂ (λ cs k. cs ++ (k ∷ [])) c.loop-stretch.invariant count ∙ sym (counts_more T n)
