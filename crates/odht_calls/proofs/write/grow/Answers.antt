use Rattle.std.proofs.Common.{◌≡◌, ◌∙◌, ap, length, length-take-le}
use Rattle.odht_base.specs.Decoded.{header_factor}
use Rattle.odht_calls.proofs.lemmas.Grown.{refused_opening, weak_grow, large_grow, small_grow, written_grow}
use Rattle.odht_calls.proofs.write.grow.Goals as goal

pub returns-in-Err : goal.returns-in-Err
returns-in-Err g c = refused_opening c.in-Err.refused _ c.in-Err.ensures.err c.status_of.ensures

pub returns-then-max_load_factor-lt-LEAST_FACTOR : goal.returns-then-max_load_factor-lt-LEAST_FACTOR
returns-then-max_load_factor-lt-LEAST_FACTOR g c =
    weak_grow c.in-Ok.ensures.err _ (c.max_load_factor.ensures ∙ ap header_factor c.in-Ok.ensures.ok) c.if-max_load_factor-lt-LEAST_FACTOR.true

pub returns-in_default : goal.returns-in_default
returns-in_default g c =
    large_grow c.in-Ok.ensures.err _ (c.max_load_factor.ensures ∙ ap header_factor c.in-Ok.ensures.ok) c.if-max_load_factor-lt-LEAST_FACTOR.false c.in_default.ensures.by_header

pub returns-then-out-needed : goal.returns-then-out-needed
returns-then-out-needed g c =
    small_grow c.in-Ok.ensures.err _ (c.max_load_factor.ensures ∙ ap header_factor c.in-Ok.ensures.ok) c.if-max_load_factor-lt-LEAST_FACTOR.false _ c.in-Some.ensures.by_header c.if-out-needed.true

pub returns : goal.returns
returns g c =
    let long : length c.grow_parts.new.out ≡ c.in-Some.needed = c.grow_parts.auto.out ∙ length-take-le c.in-Some.needed c.args.out.now c.if-out-needed.false in
    written_grow c.in-Ok.ensures.err _ (c.max_load_factor.ensures ∙ ap header_factor c.in-Ok.ensures.ok) c.if-max_load_factor-lt-LEAST_FACTOR.false _ _ c.in-Some.ensures.by_header c.if-out-needed.false long c.grow_parts.ensures
