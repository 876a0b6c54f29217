use Rattle.std.proofs.Common.{rules, ◌≡◌, ◌∙◌, ◌-◌, ◌<◌, false, length, sym, ap, arith}
use Rattle.odht_base.specs.Bounds.{ends_within}
use Rattle.odht_raw.proofs.lemmas.Bounds.{first_longer-at, first_longer-none}
use Rattle.odht_tool_core.proofs.stored.StoredTable.first_longer.Goals as goal

pub loop-home-init : goal.loop-home-init
loop-home-init c b l = absurd (omega (arith, l))

pub returns-then-not-ends_within : goal.returns-then-not-ends_within
returns-then-not-ends_within c =
    let ctrl = c.args.self.now.control in
    let g = c.args.groups in
    let home = c.loop-home.home in
    let control : c.controls-control.result.now ≡ ctrl = c.controls-control.ensures.value ∙ ap (λ t. t.control) c.self.view_is in
    let low : home < length ctrl - 16 =
    omega (arith, c.loop-home-test.true, c.loop-home.auto.home-end, c.len-slots.ensures.value, c.controls-control.ensures.len, ap length control) in
    let longer : c.ends_within.result ≡ false = search rules in
    sym (first_longer-at ctrl g home low c.loop-home.invariant (ap (λ x. ends_within x g home) (sym control) ∙ sym c.ends_within.ensures ∙ longer))

pub returns : goal.returns
returns c =
    let ctrl = c.args.self.now.control in
    let control : c.controls-control.result.now ≡ ctrl = c.controls-control.ensures.value ∙ ap (λ t. t.control) c.self.view_is in
    sym (first_longer-none ctrl c.args.groups
    (λ b l. c.loop-home.invariant b (omega (arith, l, c.loop-home-test.false, c.loop-home.auto.home-end, c.len-slots.ensures.value, c.controls-control.ensures.len, ap length control))))
