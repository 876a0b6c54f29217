use Rattle.std.proofs.Common.{◌≡◌, ◌+◌, ◌-◌, ◌<◌, ◌≤◌, ◌^◌, ◌↔◌, IsTrue, sym, subst, arith, All}
use Rattle.odht_raw.proofs.lemmas.Below.{get_or_default, le-leb, leb-true}
use Rattle.odht_raw.specs.DynParts.{parts_format}
use Rattle.odht_raw.specs.Waiting.{IsUnblocked}
use Rattle.odht_raw.proofs.lemmas.Homes.{parts_homes}
use Rattle.odht_raw.proofs.lemmas.NearSlots.{near_ready, near_free, ready_if_free, free_if_ready}
use Rattle.odht_raw.proofs.raw_table.insert_order.is_ready.Goals as goal

pub returns-then-is_near-clause-ready : goal.returns-then-is_near-clause-ready
returns-then-is_near-clause-ready g c P done p parts h holds =
    let T = c.args.table.now.parts in
    let ns = c.args.slots.now in
    let i = c.args.slot in
    let v = parts_homes _ _ _ _ _ c.home_of-home.ensures.whole g.met.H.HashFn.fits in
    let small : All (λ n. n < 2 ^ 64) ns = λ k d l. omega (arith, c.type_inv.slots k, get_or_default ns k d 0 l) in
    let is = c.home_of-home.ensures.home in
    let near = c.is_near.ensures.0 c.if-is_near.true in
    let after = subst (λ b. b ≤ i) is near.0 in
    let below = subst (λ b. i < b + 16) is near.1 in (
      λ t. near_ready (parts_format c.args.table.now g.H.HashFn.hash) v.format T v.slots v.mirrored ns small i c.requires.next.waits P done p parts h holds c.args.left c.requires.next.left c.requires.slot after below
          (subst (λ b. c.args.left ≤ b) is (leb-true c.args.left c.home_of-home.result t)),
      λ r. le-leb c.args.left c.home_of-home.result (subst (λ b. c.args.left ≤ b) (sym is)
          (near_free (parts_format c.args.table.now g.H.HashFn.hash) v.format T v.slots v.mirrored ns small i c.requires.next.waits P done p parts h holds c.args.left c.requires.next.left c.requires.slot after below r)),
    )

pub returns-else-is_near-clause-ready : goal.returns-else-is_near-clause-ready
returns-else-is_near-clause-ready g c P done p parts h holds =
    let T = c.args.table.now.parts in
    let ns = c.args.slots.now in
    let i = c.args.slot in
    let v = parts_homes _ _ _ _ _ c.home_of-home.ensures.whole g.met.H.HashFn.fits in
    let small : All (λ n. n < 2 ^ 64) ns = λ k d l. omega (arith, c.type_inv.slots k, get_or_default ns k d 0 l) in
    let mask : c.len.result - 1 + 1 ≡ T.entries.slots = omega (arith, c.len.ensures.value, v.slots.least) in
    let unblocked = subst (λ b. IsTrue c.is_unblocked_from.result ↔ IsUnblocked ns b T.entries.slots i) c.home_of-home.ensures.home
    (subst (λ s. IsTrue c.is_unblocked_from.result ↔ IsUnblocked ns c.home_of-home.result s i) mask c.is_unblocked_from.ensures.unblocked) in (
      λ t. ready_if_free (parts_format c.args.table.now g.H.HashFn.hash) v.format T v.slots v.mirrored ns small i c.requires.next.waits P done p parts h holds (unblocked.0 t),
      λ r. unblocked.1 (free_if_ready (parts_format c.args.table.now g.H.HashFn.hash) v.format T v.slots v.mirrored ns small i c.requires.next.waits P done p parts h holds r),
    )
