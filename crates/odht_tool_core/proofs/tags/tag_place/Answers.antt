use Rattle.std.proofs.Common.{◌≡◌, ◌∙◌, ◌⊎◌, inl, inr, ℕ, ◌≤◌, ◌<◌, ◌+◌, ◌-◌, ap, arith, drop, get_or, sym}
use Rattle.std.proofs.lemmas.Bool.{cases_lt}
use Rattle.std.proofs.lemmas.List.{get_or-drop, get_or-take}
use Rattle.odht_base.specs.Bytes.{bytes_at}
use Rattle.odht_base.specs.Numbers.{num}
use Rattle.odht_tool_core.specs.Finds.{tag_bytes}
use Rattle.odht_tool_core.proofs.tags.tag_place.Goals as goal

-- between this place and the next byte with which a table may begin there is no tag
pub loop-at-preserved : goal.loop-at-preserved
loop-at-preserved c = (c.next_first-at.ensures.within, λ i m e. go i m e (cases_lt i at) (cases_lt at i))
  where
    at : ℕ
    at = c.loop-at.at

    first : (i : ℕ) → bytes_at c.args.bytes.now i 4 ≡ tag_bytes → get_or c.args.bytes.now i 0 ≡ 79
    first i e =
        let here : i + 0 ≡ i = omega arith in
        sym (ap (λ j. get_or c.args.bytes.now j 0) here) ∙ sym (get_or-drop i c.args.bytes.now 0 0)
        ∙ sym (get_or-take (i + 4 - i) (drop i c.args.bytes.now) 0 0 (omega arith)) ∙ ap (λ w. get_or w 0 0) e

    go : (i : ℕ) → i < c.next_first-at.result → bytes_at c.args.bytes.now i 4 ≡ tag_bytes → (i < at) ⊎ (at ≤ i) → (at < i) ⊎ (i ≤ at) → ⊥
    go i m e (inl before) _ = c.loop-at.invariant.1 i before e
    go i m e (inr after) (inl behind) = c.next_first-at.ensures.others i (omega (arith, behind)) m (first i e)
    go i m e (inr after) (inr here) =
        let place : i ≡ at = omega (arith, after, here) in
        let word : bytes_at c.args.bytes.now at 4 ≡ tag_bytes = sym (ap (λ j. bytes_at c.args.bytes.now j 4) place) ∙ e in
        absurd (c.if-read_u32-from_le_bytes.false (c.read_u32.ensures ∙ ap num word ∙ sym c.from_le_bytes.ensures))
