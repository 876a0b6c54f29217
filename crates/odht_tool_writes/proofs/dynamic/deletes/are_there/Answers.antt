use Rattle.std.proofs.Common.{rules, ◌≡◌, ◌∙◌, ◌+◌, suc, true, false, sym, subst, arith, get_or, take}
use Rattle.std.proofs.lemmas.Option.{get_or_from_slice_get, slice_get_within}
use Rattle.odht_base.specs.Map.{map_of}
use Rattle.odht_tool_writes.specs.Deletes.{has_value, have_values}
use Rattle.odht_tool_writes.proofs.AbsentKeys.{all_more, is_there, one_absent}
use Rattle.odht_tool_writes.proofs.dynamic.deletes.are_there.Goals as goal

pub loop-at-preserved : goal.loop-at-preserved
loop-at-preserved g c P is =
    let keys = c.args.keys.now in
    let at = c.loop-at.at in
    let k = c.at.result.now in
    let here : k ≡ get_or keys at k = sym (get_or_from_slice_get keys at k k c.at.ensures) in
    let yes : c.contains_key.result ≡ true = search rules in
    let known : has_value P k ≡ c.contains_key.result = is_there (map_of P k) c.contains_key.result (c.contains_key.ensures.on_valid P is) in
    let next : at + 1 ≡ suc at = omega arith in
    subst (λ n. have_values P (take n keys) ≡ true) (sym next)
    (all_more P keys at k (slice_get_within keys at k c.at.ensures) here (c.loop-at.invariant P is) (known ∙ yes))

pub returns-then-not-contains_key : goal.returns-then-not-contains_key
returns-then-not-contains_key g c P is =
    let keys = c.args.keys.now in
    let at = c.loop-at.at in
    let k = c.at.result.now in
    let here : k ≡ get_or keys at k = sym (get_or_from_slice_get keys at k k c.at.ensures) in
    let no : c.contains_key.result ≡ false = search rules in
    let known : has_value P k ≡ c.contains_key.result = is_there (map_of P k) c.contains_key.result (c.contains_key.ensures.on_valid P is) in
    sym (one_absent P keys at k (slice_get_within keys at k c.at.ensures) here (known ∙ no))
