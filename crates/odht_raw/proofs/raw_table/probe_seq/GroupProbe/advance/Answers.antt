use Rattle.std.proofs.Common.{◌≡◌, ◌+◌, arith, ap, sym, subst, length}
use Rattle.odht_base.specs.Load.{IsSlotCount}
use Rattle.odht_base.proofs.lemmas.SlotCounts.{sixteens}
use Rattle.odht_raw.proofs.raw_table.probe_seq.GroupProbe.advance.Goals as goal

-- the slot count is a multiple of sixteen, so the next group is whole
pub invariant_of-self : goal.invariant_of-self
invariant_of-self c =
    let v = c.self.invariant in
    let sixteen = sixteens (c.self.inside.probe.mask + 1) v.0 in
    let place : c.advance.new.self.position ≡ c.self.inside.probe.position + 16 = ap (λ q. q.position) c.advance.ensures in
    let mask : c.advance.new.self.mask ≡ c.self.inside.probe.mask = ap (λ q. q.mask) c.advance.ensures in
    let control = ap (λ q. length q.control) c.self.view_is in
    let before = ap (λ q. q.position) c.self.view_is in
    let within = c.requires in
    (subst (λ m. IsSlotCount (m + 1)) (sym mask) v.0, omega (arith, v, mask), omega (arith, v, mask, place, sixteen.2, control, before, within), omega (arith, v, place))
