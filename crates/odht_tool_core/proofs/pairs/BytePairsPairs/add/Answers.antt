use Rattle.std.proofs.Common.{◌≡◌, ◌∙◌, ◌+◌, ℕ, List, [], ◌∷◌, ◌++◌, suc, take, drop, length, rules, sym, ap, ap₂, arith, length-take-le, length-drop, take-append-drop}
use Rattle.odht_tool_core.specs.Pairs.{pairs_in}
use Rattle.odht_tool_core.proofs.BytePairs.{pairs_more}
use Rattle.odht_tool_core.proofs.pairs.BytePairsPairs.add.Goals as goal

-- the pair is the last one
pub returns-in-Ok : goal.returns-in-Ok
returns-in-Ok g c =
    let s = c.self.inside in
    let k = s.layout.key_len in
    let v = s.layout.value_len in
    let both = c.read_sides.new.bytes in
    let key = take k both in
    let value = drop k both in
    let whole : length both ≡ k + v = search rules in
    let front : length key ≡ k = length-take-le k both (omega (arith, whole)) in
    let back : length value ≡ v = omega (arith, whole, length-drop k both) in
    let next : s.count + 1 ≡ suc s.count = omega arith in
    let items : c.extend_from_slice.new.self.items ≡ s.bytes.items ++ (key ++ value) = c.in-Ok.ensures.items ∙ ap (λ (b : List ℕ). s.bytes.items ++ b) (sym (take-append-drop k both)) in
    let all = ap₂ (pairs_in k v) next items ∙ pairs_more k v s.count s.bytes.items key value c.self.invariant front back
    ∙ ap (λ (ps : List (List ℕ × List ℕ)). ps ++ ((key, value) ∷ [])) c.self.view_is in
    ((key, value), all, c.in_default.ensures.key, c.in_default.ensures.value)
