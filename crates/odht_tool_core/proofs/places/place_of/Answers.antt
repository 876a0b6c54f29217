use Rattle.std.proofs.Common.{◌≡◌, ◌∙◌, ◌==◌, ◌≤◌, ◌+◌, ◌-◌, ℕ, arith, length, length-drop, not, subst, sym, ap, refl, take, drop, take_all}
use Rattle.std.specs.List.{position_or_len}
use Rattle.std.proofs.lemmas.List.Sums.{prefix_len-le-length}
use Rattle.odht_tool_core.proofs.FirstPlaces.{place_behind, place_more}
use Rattle.odht_tool_core.proofs.places.place_of.Goals.{After-place_in_lanes, Else-at-eq0}
use Rattle.odht_tool_core.proofs.places.place_of.Goals as goal

pub loop-at-init : goal.loop-at-init
loop-at-init c = (omega arith, omega arith, λ moved. absurd (moved refl))

pub loop-at-preserved : goal.loop-at-preserved
loop-at-preserved c =
    let at = c.loop-at.at in
    let inside : at + 16 ≤ length c.args.bytes.now = omega (arith, c.loop-at-test.true) in
    let sixteen : at + 16 - at ≡ 16 = omega arith in
    let none : 16 ≤ position_or_len (λ x. x == c.args.byte) (take (at + 16 - at) (drop at c.args.bytes.now)) = omega (arith, c.place_in_lanes-place.ensures, c.if-place-lt16.false) in (
      inside,
      place_more (λ x. x == c.args.byte) c.args.bytes.now at inside
          (subst (λ k. 16 ≤ position_or_len (λ x. x == c.args.byte) (take k (drop at c.args.bytes.now))) sixteen none) c.loop-at.invariant.1,
      λ moved. omega arith,
    )

-- there are sixteen bytes or more where some were looked at
long : (c : Else-at-eq0) → 16 ≤ length c.args.bytes.now
long c =
    let v = c.loop-at.invariant in
    let moved = v.2 c.if-at-eq0.false in
    omega (arith, v.0, moved)

pub returns-then-at-bytes-clause-place : goal.returns-then-at-bytes-clause-place
returns-then-at-bytes-clause-place c =
    let rest = drop c.loop-at.at c.args.bytes.now in
    omega (arith, c.loop-at.invariant.1, c.if-at-bytes.true, prefix_len-le-length (λ x. not (x == c.args.byte)) rest, length-drop c.loop-at.at c.args.bytes.now)

pub overflow_sub-last : goal.overflow_sub-last
overflow_sub-last c = long (goal.at.overflow_sub-last c).Else-at-eq0

pub place_in_lanes-requires : goal.place_in_lanes-requires
place_in_lanes-requires c =
    let l = long (goal.at.place_in_lanes-requires c).Else-at-eq0 in
    omega (arith, length-drop (length c.args.bytes.now - 16) c.args.bytes.now, l)

-- the byte is not before the last sixteen
module _ (c : After-place_in_lanes) where
  abbrev last : ℕ
  last = length c.args.bytes.now - 16

  behind : last ≤ position_or_len (λ x. x == c.args.byte) c.args.bytes.now
  behind =
      let v = c.loop-at.invariant in
      let few = c.loop-at-test.false in
      omega (arith, v.1, few)

  -- which were looked at
  looked : c.place_in_lanes.result ≡ position_or_len (λ x. x == c.args.byte) (drop last c.args.bytes.now)
  looked = c.place_in_lanes.ensures ∙ ap (position_or_len (λ x. x == c.args.byte)) (take_all (length c.args.bytes.now - last) (drop last c.args.bytes.now) (omega (arith, length-drop last c.args.bytes.now)))

pub returns-clause-place : goal.returns-clause-place
returns-clause-place c =
    ap (λ n. last c + n) (looked c) ∙ sym (place_behind (λ x. x == c.args.byte) c.args.bytes.now (last c) (behind c))

pub returns-clause-within : goal.returns-clause-within
returns-clause-within c =
    let l = long (goal.at.returns-clause-within c).Else-at-eq0 in
    let few = prefix_len-le-length (λ x. not (x == c.args.byte)) (drop (last c) c.args.bytes.now) in
    omega (arith, looked c, few, length-drop (last c) c.args.bytes.now, l)
