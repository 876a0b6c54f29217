use Rattle.std.proofs.Common.{arith, ◌≡◌, ◌∙◌, ◌+◌, ◌*◌, ◌/◌, ◌%◌, ◌≤◌, ◌++◌, [], ◌∷◌, ℕ, sym, ap, ap₂, map, mul-le-mul_right}
use Rattle.std.proofs.Math.Nat.{div-mul-le_self}
use Rattle.std.specs.List.{range_with_len}
use Rattle.std.proofs.lemmas.List.FromFn.{map-range_with_len_more}
use Rattle.odht_base.specs.Probe.{probe_slot}
use Rattle.odht_raw.proofs.lemmas.ProbeSteps.{divisor_pos}
use Rattle.odht_vectors.proofs.vectors.group_starts.group_starts.Goals as goal
use Rattle.odht_vectors.proofs.vectors.group_starts.group_starts.Goals.{then-group-groups, else-group-groups}

pub advance-requires : goal.advance-requires
advance-requires g c =
    let pos = divisor_pos g.row.SIZE c.requires.divides in
    let all : c.args.slots / g.row.SIZE * g.row.SIZE ≤ c.args.slots = div-mul-le_self c.args.slots g.row.SIZE in
    let more : (c.loop-group.group + 2) * g.row.SIZE ≤ c.args.slots / g.row.SIZE * g.row.SIZE = mul-le-mul_right g.row.SIZE (omega (arith, c.if-group-groups.true)) in
    let sum : (c.loop-group.group + 2) * g.row.SIZE ≡ c.loop-group.group * g.row.SIZE + g.row.SIZE + g.row.SIZE = omega arith in
    let position = c.loop-group.invariant.position c.loop-group-test.true in
    (omega arith, (sym c.loop-group.invariant.mask, omega (arith, pos, all, more, sum, position)))

pub loop-group-preserved : goal.loop-group-preserved
loop-group-preserved g c =
    let v = c.loop-group.invariant in
    let s : ℕ = c.args.slots in
    let at = v.position c.loop-group-test.true in
    let start : ℕ → ℕ = λ j. probe_slot (c.args.hash % s) s (j * g.row.SIZE) in
    let slots : c.loop-group.probe.mask + 1 ≡ s = omega (arith, v.mask) in
    let next : (c.loop-group.group + 1) * g.row.SIZE ≡ c.loop-group.group * g.row.SIZE + g.row.SIZE = omega arith in
    let slot : c.index.result ≡ start c.loop-group.group =
    c.index.ensures.slot ∙ ap (λ b. probe_slot b (c.loop-group.probe.mask + 1) c.loop-group.probe.position) v.home
    ∙ ap (λ m. probe_slot (c.args.hash % s) m c.loop-group.probe.position) slots ∙ ap (probe_slot (c.args.hash % s) s) at in
    record {
      items = c.push_reserved.ensures.items ∙ ap₂ (λ xs x. xs ++ x ∷ []) v.items slot ∙ sym (map-range_with_len_more start 0 c.loop-group.group c.loop-group.group (omega arith));
      len = c.push_reserved.ensures.len ∙ ap (λ n. n + 1) v.len;
      room = omega (arith, v.room, c.push_reserved.ensures.capacity);
      home = elim c.if-group-groups.branch [
        | then-group-groups w ↦ ap (λ q. q.home) (w.probe-is ∙ w.advance.ensures) ∙ v.home
        | else-group-groups w ↦ ap (λ q. q.home) w.probe-is ∙ v.home
      ];
      mask = elim c.if-group-groups.branch [
        | then-group-groups w ↦ ap (λ q. q.mask) (w.probe-is ∙ w.advance.ensures) ∙ v.mask
        | else-group-groups w ↦ ap (λ q. q.mask) w.probe-is ∙ v.mask
      ];
      position = λ l. elim c.if-group-groups.branch [
        | then-group-groups w ↦ ap (λ q. q.position) (w.probe-is ∙ w.advance.ensures) ∙ ap (λ n. n + g.row.SIZE) at ∙ sym next
        | else-group-groups w ↦ absurd (omega (arith, w.if-group-groups))
      ];
    }

pub returns : goal.returns
returns g c =
    let s : ℕ = c.args.slots in
    let all : c.loop-group.group ≡ c.args.slots / g.row.SIZE = omega (arith, c.loop-group-test.false, c.loop-group.auto.group-end) in
    record { starts = c.loop-group.invariant.items ∙ ap (λ n. map (λ j. probe_slot (c.args.hash % s) s (j * g.row.SIZE)) (range_with_len 0 n)) all }
