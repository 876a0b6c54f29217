use Rattle.std.proofs.Common.{◌≡◌, ◌∙◌, ◌+◌, ◌*◌, ◌<◌, ◌≤◌, ℕ, List, Some, take, drop, ap, ap₂, arith, length, sym, subst}
use Rattle.std.specs.List.{slice_get}
use Rattle.odht_base.specs.Bytes.{bytes_at}
use Rattle.odht_base.proofs.lemmas.ByteRanges.{length-bytes_at}
use Rattle.odht_tool_core.proofs.BytePairs.{length-pairs, pair_in, within}
use Rattle.odht_tool_core.proofs.pairs.BytePairs.at.Goals as goal

-- the pair is within the bytes
pub entry-pair-requires : goal.entry-pair-requires
entry-pair-requires c =
    let s = c.self.inside in
    let k = s.layout.key_len in
    let v = s.layout.value_len in
    let many = ap length (sym c.self.view_is) ∙ length-pairs k v s.count s.bytes.items in
    subst (λ (b : List ℕ). (c.args.index + 1) * (k + v) ≤ length b) (sym c.as_slice.ensures.value)
    (within k v s.count c.args.index s.bytes.items (subst (λ (n : ℕ). c.args.index < n) many c.requires) c.self.invariant)

pub split_at-requires : goal.split_at-requires
split_at-requires c =
    let k = c.self.inside.layout.key_len in
    let v = c.self.inside.layout.value_len in
    let many = ap length (sym c.self.view_is) ∙ length-pairs k v c.self.inside.count c.self.inside.bytes.items in
    let inside = within k v c.self.inside.count c.args.index c.self.inside.bytes.items (subst (λ (n : ℕ). c.args.index < n) many c.requires) c.self.invariant in
    let here : (c.args.index + 1) * (k + v) ≤ length c.as_slice.result.now =
    subst (λ (b : List ℕ). (c.args.index + 1) * (k + v) ≤ length b) (sym c.as_slice.ensures.value) inside in
    let len = ap length c.entry-pair.ensures ∙ length-bytes_at c.as_slice.result.now (c.args.index * (k + v)) (k + v) (omega (arith, here)) in
    omega (arith, len)

pub returns : goal.returns
returns c =
    let s = c.self.inside in
    let k = s.layout.key_len in
    let v = s.layout.value_len in
    let i = c.args.index in
    let many = ap length (sym c.self.view_is) ∙ length-pairs k v s.count s.bytes.items in
    let entry : bytes_at s.bytes.items (i * (k + v)) (k + v) ≡ c.entry-pair.result.now =
    ap (λ (b : List ℕ). bytes_at b (i * (k + v)) (k + v)) (sym c.as_slice.ensures.value) ∙ sym c.entry-pair.ensures in
    ap (λ (ps : List (List ℕ × List ℕ)). slice_get ps i) (sym c.self.view_is)
    ∙ pair_in k v s.count i s.bytes.items (subst (λ (n : ℕ). i < n) many c.requires)
    ∙ ap₂ (λ (x y : List ℕ). Some (x, y)) (ap (take k) entry ∙ sym c.split_at.ensures.front) (ap (drop k) entry ∙ sym c.split_at.ensures.back)
