use Rattle.std.proofs.Common.{◌∙◌, ◌<◌, ◌≤◌, ◌^◌, ℕ, length, get_or, sym, true≢false, rules, arith}
use Rattle.odht_raw.proofs.lemmas.PlacedFirst.{gone_none, gone_left, gone_placed, next_waits, next_holds, passed_none, passed_left, passed_placed, passed_stuck, sorted_few, sorted_pending, sorted_waiting}
use Rattle.odht_raw.specs.Waiting.{AreRising}
use Rattle.odht_raw.proofs.lemmas.KeptFrontiers.{frontiers_keep, still_placed, still_sorted}
use Rattle.odht_raw.proofs.lemmas.LeftSlots.{left_none, left_placed, left_below, left_next, next_listed}
use Rattle.odht_raw.proofs.raw_table.insert_order.place_ready.Given.{Over}
use Rattle.odht_raw.proofs.raw_table.insert_order.place_ready.Goals.{In-loop-at, then-is_ready, else-is_ready}
use Rattle.odht_raw.proofs.raw_table.insert_order.place_ready.Goals as goal

pub loop-at-init : goal.loop-at-init
loop-at-init g c = (
  gone_none _ _ c.requires.listed.waiting (λ k. let fits = c.type_inv.slots k in search rules),
  left_none _,
  c.requires.frontiers,
  λ P done parts pending. passed_none _ P done _ pending,
)

pub overflow_sub-slot : goal.overflow_sub-slot
overflow_sub-slot g c =
    let l : c.loop-at.at < length c.loop-at.slots = omega (arith, c.loop-at-test.true, c.loop-at.auto.slots) in
    (next_waits c.loop-at.invariant.0 l).0

-- what is known of the next slot
module _ (g : Over) (c : In-loop-at g) where
  inside : c.loop-at.at < length c.loop-at.slots
  inside = omega (arith, c.loop-at-test.true, c.loop-at.auto.slots)

  rising : AreRising c.loop-at.slots
  rising =
      let known = c.requires.listed in
      (c.loop-at.invariant.3 known.table known.done known.parts known.pending).pending.rising

  fit : (k : ℕ) → k < length c.loop-at.slots → get_or c.loop-at.slots k 0 < 2 ^ 64
  fit k l = c.loop-at.invariant.0.fit k 0 l

  high : 2 ^ 63 ≤ get_or c.loop-at.slots c.loop-at.at 0
  high = (next_waits c.loop-at.invariant.0 inside).0

pub is_ready-requires-clause-slot : goal.is_ready-requires-clause-slot
is_ready-requires-clause-slot g c =
    let at = (goal.at.is_ready-requires-clause-slot g c).In-loop-at in (next_waits c.loop-at.invariant.0 (inside g at)).1

pub is_ready-requires-clause-next : goal.is_ready-requires-clause-next
is_ready-requires-clause-next g c =
    let at = (goal.at.is_ready-requires-clause-next g c).In-loop-at in
    record {
      rising = rising g at;
      waits = next_listed _ (rising g at) _ _ c.loop-at.invariant.1 (fit g at) (inside g at) (high g at);
      left = left_below _ (rising g at) _ _ c.loop-at.invariant.1 (fit g at) (inside g at) (high g at);
    }

pub is_ready-requires-clause-frontiers : goal.is_ready-requires-clause-frontiers
is_ready-requires-clause-frontiers g c = c.loop-at.invariant.2

pub overflow_add-placed : goal.overflow_add-placed
overflow_add-placed g c =
    let few = c.loop-at.invariant.0.few in
    let below = c.loop-at-test.true in
    search rules

pub loop-at-preserved : goal.loop-at-preserved
loop-at-preserved g c =
    let gone = c.loop-at.invariant.0 in
    let at = (goal.at.loop-at-preserved g c).In-loop-at in
    let l : c.loop-at.at < length c.loop-at.slots = omega (arith, c.loop-at-test.true, c.loop-at.auto.slots) in
    elim c.if-is_ready.branch [
      | then-is_ready w ↦ rw (w.slots-is, w.placed-is, w.left-is) (
        gone_placed gone l,
        left_placed _ _ _ _ c.loop-at.invariant.1 l (omega (arith, gone.fit c.loop-at.at 0 l)),
        frontiers_keep _ _ _ _ (still_placed _ _ _ (omega (arith, gone.fit c.loop-at.at 0 l))) c.is_ready.ensures.frontiers,
        λ P done parts pending.
            let passed = c.loop-at.invariant.3 P done parts pending in
            let held = next_holds gone l passed.pending in
            passed_placed gone l passed ((c.is_ready.ensures.ready P done held.0 parts passed.pending held.1).0 w.if-is_ready.true),
      )
      | else-is_ready w ↦ rw (w.slots-is, w.placed-is, w.left-is) (
        gone_left gone,
        left_next _ (rising g at) _ _ c.loop-at.invariant.1 (fit g at) l (high g at),
        c.is_ready.ensures.frontiers,
        λ P done parts pending.
            let passed = c.loop-at.invariant.3 P done parts pending in
            let held = next_holds gone l passed.pending in
            passed_left gone l passed (λ r. true≢false (sym ((c.is_ready.ensures.ready P done held.0 parts passed.pending held.1).1 r) ∙ w.if-is_ready.false)),
      )
    ]

pub returns-clause-few : goal.returns-clause-few
returns-clause-few g c =
    let known = c.requires.listed in
    let passed = c.loop-at.invariant.3 known.table known.done known.parts known.pending in
    sorted_few c.loop-at.invariant.0 passed.pending.rising c.sort_placed_first.ensures.permutation (c.sort_placed_first.ensures.rising passed.pending.rising)

pub returns-clause-waiting : goal.returns-clause-waiting
returns-clause-waiting g c =
    let known = c.requires.listed in
    let passed = c.loop-at.invariant.3 known.table known.done known.parts known.pending in
    sorted_waiting c.loop-at.invariant.0 passed.pending.rising c.sort_placed_first.ensures.permutation (c.sort_placed_first.ensures.rising passed.pending.rising)

pub returns-clause-pass : goal.returns-clause-pass
returns-clause-pass g c P done parts pending =
    let passed = c.loop-at.invariant.3 P done parts pending in
    record {
      pending = sorted_pending c.loop-at.invariant.0 passed.pending.rising c.sort_placed_first.ensures.permutation (c.sort_placed_first.ensures.rising passed.pending.rising) passed.pending;
      stuck = λ none. passed_stuck pending passed c.loop-at-test.false none;
    }

pub returns-clause-frontiers : goal.returns-clause-frontiers
returns-clause-frontiers g c = frontiers_keep _ _ _ _ (still_sorted _ _ c.loop-at.placed c.sort_placed_first.ensures.permutation) c.loop-at.invariant.2
