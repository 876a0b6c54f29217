use Rattle.std.proofs.Common.{rules, arith, ◌≡◌, ◌∙◌, ◌+◌, ◌<◌, sym, ap, bit_and}
use Rattle.odht_raw.proofs.lemmas.ProbeSteps.{bit_and-mask, room, stride_fits, chunk_fits, base_low, to_next_group, to_next_piece}
use Rattle.odht_raw.proofs.raw_table.probe_seq.ProbeSeq.advance.Goals as goal
use Rattle.odht_raw.proofs.raw_table.probe_seq.ProbeSeq.advance.Goals.{then-self-eq-REFERENCE_GROUP_SIZE, else-self-eq-REFERENCE_GROUP_SIZE}

pub overflow_add-self-then-self-eq-REFERENCE_GROUP_SIZE-2 :
    goal.overflow_add-self-then-self-eq-REFERENCE_GROUP_SIZE-2
overflow_add-self-then-self-eq-REFERENCE_GROUP_SIZE-2 g c = let h = stride_fits _ _ _ _ _ _ _ _ c.self.invariant in search rules

pub overflow_add-self-2 : goal.overflow_add-self-2
overflow_add-self-2 g c =
    let q = c.self.inside in
    let at = c.self.invariant in
    let m : c.args.mask ≡ q.mask = c.requires.mask ∙ sym (ap (λ v. v.mask) c.self.view_is) in
    elim c.if-self-eq-REFERENCE_GROUP_SIZE.branch [
      | then-self-eq-REFERENCE_GROUP_SIZE w ↦ rw w.self-inside-is (rw m (let h = chunk_fits _ _ _ _ _ _ _ _ at (bit_and (q.base + (q.stride + 16)) q.mask) 0 (omega (arith, bit_and-mask (q.base + (q.stride + 16)) q.mask at.slots)) (omega arith) in search rules))
      | else-self-eq-REFERENCE_GROUP_SIZE w ↦ rw w.self-inside-is (let h = chunk_fits _ _ _ _ _ _ _ _ at q.base (q.chunk_index + g.row.GROUP_SIZE) (base_low _ _ _ _ _ _ _ _ at) (omega (arith, at.chunk_is, room _ _ _ _ _ _ _ _ at)) in search rules)
    ]

pub invariant_of-self : goal.invariant_of-self
invariant_of-self g c =
    let q = c.self.inside in
    let at = c.self.invariant in
    let r = room _ _ _ _ _ _ _ _ at in
    let m : c.args.mask ≡ q.mask = c.requires.mask ∙ sym (ap (λ v. v.mask) c.self.view_is) in
    let l : q.position + g.row.GROUP_SIZE < q.mask + 1 = omega (arith, m, ap (λ v. v.position) c.self.view_is, c.requires.within) in
    elim c.if-self-eq-REFERENCE_GROUP_SIZE.branch [
      | then-self-eq-REFERENCE_GROUP_SIZE w ↦ rw w.self-inside-is (rw m (to_next_group _ _ _ _ _ _ _ _ at l (omega (arith, at.chunk_is, w.if-self-eq-REFERENCE_GROUP_SIZE))))
      | else-self-eq-REFERENCE_GROUP_SIZE w ↦ rw w.self-inside-is (rw m (to_next_piece _ _ _ _ _ _ _ _ at l (omega (arith, at.chunk_is, r, w.if-self-eq-REFERENCE_GROUP_SIZE))))
    ]
