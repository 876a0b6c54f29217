use Rattle.std.proofs.Common.{◌≡◌, ◌+◌, ◌-◌, true≢false, ◌++◌, length, take, drop, sym, ap, subst, arith, refl, All}
use Rattle.odht_raw.proofs.lemmas.Below.{IsMade-IsInsertOrder, length-drop, take_rest}
use borrow.Rule.Slice.PartMut.{put_mid}
use Rattle.odht_raw.specs.Words.{IsInsertOrder, Table}
use Rattle.odht_raw.specs.DynParts.{parts_format}
use Rattle.odht_raw.specs.Frontiers.{AreFrontiers}
use Rattle.odht_raw.specs.Waiting.{IsWaiting, IsPending, AreWholeParts}
use Rattle.odht_raw.proofs.lemmas.KeptFrontiers.{first_frontiers}
use Rattle.odht_raw.proofs.lemmas.PendingSlots.{ended-length, ended-take, ended-drop, order_found, order_missing}
use Rattle.odht_raw.proofs.raw_table.insert_order.place_others.Goals as goal

pub loop-placed-init : goal.loop-placed-init
loop-placed-init g c = record {
  begun = c.requires.begun;
  frontiers = first_frontiers (drop c.args.placed c.args.out.now) c.args.table.now.parts.entries.slots 64 c.at-frontiers.result
      c.requires.slots c.at-frontiers.ensures;
}

pub place_ready-ready-requires-clause-frontiers : goal.place_ready-ready-requires-clause-frontiers
place_ready-ready-requires-clause-frontiers g c =
    subst (λ ns. AreFrontiers ns c.args.table.now.parts.entries.slots c.loop-placed.frontiers) (sym (take_rest c.loop-placed.out c.loop-placed.placed)) c.loop-placed.invariant.frontiers

pub place_ready-ready-requires-clause-listed : goal.place_ready-ready-requires-clause-listed
place_ready-ready-requires-clause-listed g c =
    let P = c.requires.whole.0 in
    let whole = c.requires.whole.1 in
    let out = c.loop-placed.out in
    let n = c.loop-placed.placed in
    record {
      waiting = subst (All (IsWaiting c.args.table.now.parts.entries.slots)) (sym (take_rest out n)) c.loop-placed.invariant.begun.waiting;
      table = P;
      parts = whole.parts;
      done = take n out;
      pending = subst (IsPending (parts_format c.args.table.now g.H.HashFn.hash) P (take n out)) (sym (take_rest out n))
          (c.loop-placed.invariant.begun.pending P (subst (AreWholeParts (parts_format c.args.table.now g.H.HashFn.hash) P c.args.table.now.parts) (sym c.loop-placed.auto.out) whole));
    }

pub returns-then-ready-eq0 : goal.returns-then-ready-eq0
returns-then-ready-eq0 g c = record {
  order = λ P whole t. absurd (true≢false (sym t));
  made = λ P whole.
      let out = c.loop-placed.out in
      let n = c.loop-placed.placed in
      let pending = subst (IsPending (parts_format c.args.table.now g.H.HashFn.hash) P (take n out)) (sym (take_rest out n))
      (c.loop-placed.invariant.begun.pending P (subst (AreWholeParts (parts_format c.args.table.now g.H.HashFn.hash) P c.args.table.now.parts) (sym c.loop-placed.auto.out) whole)) in
      let stuck = (c.place_ready-ready.ensures.pass P (take n out) whole.parts pending).stuck c.if-ready-eq0.true in (
        λ t. absurd (true≢false (sym t)),
        λ made. absurd (order_missing (parts_format c.args.table.now g.H.HashFn.hash) P c.args.table.now.parts out _ c.loop-placed.auto.out whole n c.loop-placed-test.true stuck made),
      );
}

pub loop-placed-preserved : goal.loop-placed-preserved
loop-placed-preserved g c =
    let v = c.loop-placed.invariant in
    let e = c.place_ready-ready.ensures in
    let out = c.loop-placed.out in
    let n = c.loop-placed.placed in
    let ready = c.place_ready-ready.result in
    let left = c.place_ready-ready.new.slots in
    record {
      begun = record {
        within = omega (arith, ended-length out left n v.begun.within, e.few);
        waiting = subst (All (IsWaiting c.args.table.now.parts.entries.slots)) (sym (ended-drop out left n v.begun.within ready e.few)) e.waiting;
        pending = λ P whole.
            let same : length (put_mid n (length out - n) out left) ≡ length out =
            omega (arith, ended-length out left n v.begun.within, c.place_ready-ready.auto.slots, ap length (take_rest out n), length-drop n out, v.begun.within) in
            subst (λ done. IsPending (parts_format c.args.table.now g.H.HashFn.hash) P done (drop (n + ready) (put_mid n (length out - n) out left))) (sym (ended-take out left n v.begun.within ready e.few))
            (subst (IsPending (parts_format c.args.table.now g.H.HashFn.hash) P (take n out ++ take ready left)) (sym (ended-drop out left n v.begun.within ready e.few))
            (e.pass P (take n out) whole.parts (subst (IsPending (parts_format c.args.table.now g.H.HashFn.hash) P (take n out)) (sym (take_rest out n))
            (v.begun.pending P (subst (AreWholeParts (parts_format c.args.table.now g.H.HashFn.hash) P c.args.table.now.parts) same whole)))).pending);
      };
      frontiers = subst (λ ns. AreFrontiers ns c.args.table.now.parts.entries.slots c.place_ready-ready.new.frontiers) (sym (ended-drop out left n v.begun.within ready e.few)) e.frontiers;
    }

pub returns : goal.returns
returns g c = record { order = λ P whole t. order P whole; made = λ P whole. (λ t. (IsMade-IsInsertOrder (parts_format c.args.table.now g.H.HashFn.hash) P whole.valid).1 (c.loop-placed.out, order P whole), λ made. refl) }
  where
    order : (P : Table) → AreWholeParts (parts_format c.args.table.now g.H.HashFn.hash) P c.args.table.now.parts (length c.args.out.now) → IsInsertOrder (parts_format c.args.table.now g.H.HashFn.hash) P c.loop-placed.out
    order P whole =
        order_found (parts_format c.args.table.now g.H.HashFn.hash) P c.args.table.now.parts c.loop-placed.out _ c.loop-placed.auto.out whole c.loop-placed.placed
        (omega (arith, c.loop-placed-test.false)) (c.loop-placed.invariant.begun.pending P (subst (AreWholeParts (parts_format c.args.table.now g.H.HashFn.hash) P c.args.table.now.parts) (sym c.loop-placed.auto.out) whole))
