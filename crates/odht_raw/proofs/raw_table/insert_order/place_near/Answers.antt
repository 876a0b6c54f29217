use Rattle.std.proofs.Common.{◌≡◌, ◌∙◌, ◌⊎◌, inl, inr, true≢false, sym, ◌+◌, ◌-◌, ◌<◌, ◌≤◌, ◌^◌, ℕ, List, [], length, get_or, subst, rules, arith}
use Rattle.std.proofs.lemmas.Bool.{cases_lt}
use Rattle.odht_raw.specs.Words.{Format, Table}
use Rattle.odht_raw.specs.DynParts.{parts_format}
use Rattle.odht_raw.specs.Parts.{TableParts}
use Rattle.odht_raw.specs.Waiting.{AreRising, AreWholeParts, IsBegun}
use Rattle.odht_raw.proofs.lemmas.Homes.{parts_homes}
use Rattle.odht_raw.proofs.lemmas.LeftSlots.{IsLeftBefore, left_none, left_placed, left_below, next_listed}
use Rattle.odht_raw.proofs.lemmas.NearSlots.{near_ready, front_taken}
use Rattle.odht_raw.proofs.lemmas.PlacedFirst.{IsGone, IsPassed, gone_none, gone_placed, next_waits, next_holds, passed_none, passed_placed, rest_waits, rest_high}
use Rattle.odht_raw.proofs.raw_table.insert_order.place_near.Given.{Over}
use Rattle.odht_raw.proofs.raw_table.insert_order.place_near.Goals.{In-loop-at}
use Rattle.odht_raw.proofs.raw_table.insert_order.place_near.Goals as goal

-- a list whose slots before `at` are placed
taken : (F : Format) (T : TableParts) (old ns : List ℕ) (at : ℕ) → at ≤ length ns → length ns ≡ length old → IsGone T.entries.slots old ns at at → IsLeftBefore ns at 0
    → ((P : Table) → AreWholeParts F P T (length old) → IsPassed F P [] old ns at at) → IsBegun F T ns at
taken F T old ns at few long gone left passed = record {
  within = few;
  waiting = rest_waits gone;
  pending = λ P whole. front_taken F P [] ns at few left (rest_high gone) (passed P (subst (AreWholeParts F P T) long whole)).pending;
}

pub loop-at-init : goal.loop-at-init
loop-at-init g c = record {
  gone = gone_none _ _ c.requires.begun.waiting (λ k. let fits = c.type_inv.slots k in search rules);
  left = left_none _;
  passed = λ P whole. passed_none _ P [] _ (c.requires.begun.pending P whole);
}

-- what is known of the next slot
module _ (g : Over) (c : In-loop-at g) where
  inside : c.loop-at.at < length c.loop-at.slots
  inside = omega (arith, c.loop-at-test.true, c.loop-at.auto.slots)

  rising : AreRising c.loop-at.slots
  rising = (c.loop-at.invariant.passed c.requires.whole.0 c.requires.whole.1).pending.rising

  fit : (k : ℕ) → k < length c.loop-at.slots → get_or c.loop-at.slots k 0 < 2 ^ 64
  fit k l = c.loop-at.invariant.gone.fit k 0 l

  high : 2 ^ 63 ≤ get_or c.loop-at.slots c.loop-at.at 0
  high = (next_waits c.loop-at.invariant.gone inside).0

pub overflow_sub-slot : goal.overflow_sub-slot
overflow_sub-slot g c = high g (goal.at.overflow_sub-slot g c).In-loop-at

pub home_of-requires : goal.home_of-requires
home_of-requires g c =
    let at = (goal.at.home_of-requires g c).In-loop-at in (next_waits c.loop-at.invariant.gone (inside g at)).1

pub loop-at-preserved : goal.loop-at-preserved
loop-at-preserved g c =
    let at = (goal.at.loop-at-preserved g c).In-loop-at in
    let T = c.args.table.now.parts in
    let v = parts_homes _ _ _ _ _ c.home_of.ensures.whole g.met.H.HashFn.fits in
    let l = inside g at in
    let gone = c.loop-at.invariant.gone in
    let slot : ℕ = get_or c.loop-at.slots c.loop-at.at 0 - 2 ^ 63 in
    let is = c.home_of.ensures.home in
    let near = c.is_near.ensures.0 c.if-not-is_near.false in
    let after = subst (λ b. b ≤ slot) is near.0 in
    let below = subst (λ b. slot < b + 16) is near.1 in
    let left = left_below c.loop-at.slots (rising g at) c.loop-at.at 0 c.loop-at.invariant.left (fit g at) l (high g at) in
    let waits = next_listed c.loop-at.slots (rising g at) c.loop-at.at 0 c.loop-at.invariant.left (fit g at) l (high g at) in
    record {
      gone = gone_placed gone l;
      left = left_placed c.loop-at.slots c.loop-at.at 0 slot c.loop-at.invariant.left l (omega (arith, gone.fit c.loop-at.at 0 l));
      passed = λ P whole.
          let passed = c.loop-at.invariant.passed P whole in
          let held = next_holds gone l passed.pending in
          passed_placed gone l passed
          (near_ready (parts_format c.args.table.now g.H.HashFn.hash) v.format T v.slots v.mirrored c.loop-at.slots gone.fit slot waits P [] held.0 whole.parts passed.pending held.1 0 left (next_waits gone l).1 after below (omega arith));
    }

pub returns-then-not-is_near-clause-begun : goal.returns-then-not-is_near-clause-begun
returns-then-not-is_near-clause-begun g c =
    let at = (goal.at.returns-then-not-is_near-clause-begun g c).In-loop-at in
    taken (parts_format c.args.table.now g.H.HashFn.hash) c.args.table.now.parts c.args.slots.now c.loop-at.slots c.loop-at.at (omega (arith, inside g at)) c.loop-at.auto.slots c.loop-at.invariant.gone c.loop-at.invariant.left c.loop-at.invariant.passed

pub returns-clause-begun : goal.returns-clause-begun
returns-clause-begun g c =
    let all : c.loop-at.at ≡ length c.loop-at.slots = omega (arith, c.loop-at-test.false, c.loop-at.auto.slots, c.loop-at.auto.at-end) in
    subst (IsBegun (parts_format c.args.table.now g.H.HashFn.hash) c.args.table.now.parts c.loop-at.slots) all
    (taken (parts_format c.args.table.now g.H.HashFn.hash) c.args.table.now.parts c.args.slots.now c.loop-at.slots c.loop-at.at (omega (arith, all)) c.loop-at.auto.slots c.loop-at.invariant.gone c.loop-at.invariant.left c.loop-at.invariant.passed)

-- the slot that is not near
pub returns-then-not-is_near-clause-far : goal.returns-then-not-is_near-clause-far
returns-then-not-is_near-clause-far g c l =
    let slot : ℕ = get_or c.loop-at.slots c.loop-at.at 0 - 2 ^ 63 in
    let home = c.home_of.result in
    let far : (slot < home) ⊎ (home + 16 ≤ slot) = elim (cases_lt slot home) [
      | inl below ↦ inl below
      | inr above ↦ elim (cases_lt slot (home + 16)) [
        | inl near ↦ absurd (true≢false (sym (c.is_near.ensures.1 (above, near)) ∙ c.if-not-is_near.true))
        | inr past ↦ inr past
      ]
    ] in
    subst (λ h. (slot < h) ⊎ (h + 16 ≤ slot)) c.home_of.ensures.home far

pub returns-clause-far : goal.returns-clause-far
returns-clause-far g c l = absurd (omega (arith, l))
