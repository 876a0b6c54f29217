use Rattle.std.proofs.Common.{arith, ◌≡◌, ◌∙◌, ◌+◌, ◌-◌, ◌++◌, [], ◌∷◌, sym, ap, ap₂, subst, map}
use Rattle.std.specs.List.{range_with_len}
use Rattle.std.specs.Prelude.{IsPermutation}
use Rattle.odht_raw.proofs.lemmas.Below.{map-range_with_len_more, order-IsPermutation}
use Rattle.odht_base.specs.Probe.{probe_slot, order}
use Rattle.odht_raw.proofs.raw_table.probe_seq.probe_order.Goals as goal
use Rattle.odht_raw.proofs.raw_table.probe_seq.probe_order.Goals.{then-position-slots, else-position-slots}

pub loop-position-preserved : goal.loop-position-preserved
loop-position-preserved c =
    let v = c.loop-position.invariant in
    let at = v.position c.loop-position-test.true in
    let pos : c.args.slots - 1 + 1 ≡ c.args.slots = (let l = c.requires.start in omega arith) in
    let slot : c.index.result ≡ probe_slot c.args.start c.args.slots c.loop-position.position =
    c.index.ensures.slot ∙ ap (λ b. probe_slot b (c.loop-position.probe.mask + 1) c.loop-position.probe.position) v.home
    ∙ ap (λ m. probe_slot c.args.start (m + 1) c.loop-position.probe.position) v.mask ∙ ap (λ s. probe_slot c.args.start s c.loop-position.probe.position) pos
    ∙ ap (probe_slot c.args.start c.args.slots) at in
    record {
      items = c.push_reserved.ensures.items ∙ ap₂ (λ xs x. xs ++ x ∷ []) v.items slot ∙ sym (map-range_with_len_more (probe_slot c.args.start c.args.slots) 0 c.loop-position.position c.loop-position.position (omega arith));
      len = c.push_reserved.ensures.len ∙ ap (λ n. n + 1) v.len;
      room = omega (arith, v.room, c.push_reserved.ensures.capacity);
      home = elim c.if-position-slots.branch [
        | then-position-slots w ↦ ap (λ q. q.home) (w.probe-is ∙ w.advance.ensures) ∙ v.home
        | else-position-slots w ↦ ap (λ q. q.home) w.probe-is ∙ v.home
      ];
      mask = elim c.if-position-slots.branch [
        | then-position-slots w ↦ ap (λ q. q.mask) (w.probe-is ∙ w.advance.ensures) ∙ v.mask
        | else-position-slots w ↦ ap (λ q. q.mask) w.probe-is ∙ v.mask
      ];
      position = λ l. elim c.if-position-slots.branch [
        | then-position-slots w ↦ ap (λ q. q.position) (w.probe-is ∙ w.advance.ensures) ∙ ap (λ n. n + 1) at
        | else-position-slots w ↦ absurd (omega (arith, w.if-position-slots))
      ];
    }

pub returns-clause-order : goal.returns-clause-order
unfolding order
returns-clause-order c =
    let all : c.loop-position.position ≡ c.args.slots = omega (arith, c.loop-position-test.false, c.loop-position.auto.position-end) in
    c.loop-position.invariant.items ∙ ap (λ n. map (probe_slot c.args.start c.args.slots) (range_with_len 0 n)) all

pub returns-clause-once : goal.returns-clause-once
unfolding order
returns-clause-once c =
    let all : c.loop-position.position ≡ c.args.slots = omega (arith, c.loop-position-test.false, c.loop-position.auto.position-end) in
    let items : c.loop-position.list.items ≡ order c.args.start c.args.slots = c.loop-position.invariant.items ∙ ap (λ n. map (probe_slot c.args.start c.args.slots) (range_with_len 0 n)) all in
    subst (λ xs. IsPermutation xs (range_with_len 0 c.args.slots)) (sym items) (order-IsPermutation c.args.start c.args.slots c.requires.slots)
