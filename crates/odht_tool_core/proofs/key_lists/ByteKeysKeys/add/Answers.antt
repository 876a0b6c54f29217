use Rattle.std.proofs.Common.{◌≡◌, ◌∙◌, ◌+◌, List, [], ◌∷◌, ◌++◌, ℕ, suc, length, rules, true, sym, ap, ap₂, arith}
use Rattle.odht_tool_core.specs.Pairs.{keys_in}
use Rattle.odht_tool_core.proofs.BytePairs.{keys_more}
use Rattle.odht_tool_core.proofs.key_lists.ByteKeysKeys.add.Goals as goal

-- the key is the last one
pub returns-in-Ok : goal.returns-in-Ok
returns-in-Ok c =
    let s = c.self.inside in
    let k = s.key_len in
    let key = c.read_bytes.new.bytes in
    let whole : length key ≡ k = search rules in
    let next : s.count + 1 ≡ suc s.count = omega arith in
    let all = ap₂ (keys_in k) next c.in-Ok.ensures.items ∙ keys_more k s.count s.bytes.items key c.self.invariant whole
    ∙ ap (λ (ks : List (List ℕ)). ks ++ (key ∷ [])) c.self.view_is in
    let read : c.read_bytes.result ≡ true = search rules in
    (key, all, (c.read_bytes.ensures.word.0 read, c.read_bytes.ensures.value read))
