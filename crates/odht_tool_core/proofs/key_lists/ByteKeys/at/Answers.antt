use Rattle.std.proofs.Common.{◌≡◌, ◌∙◌, ◌+◌, ◌*◌, ◌<◌, ◌≤◌, ℕ, List, Some, ap, arith, length, sym, subst}
use Rattle.std.specs.List.{slice_get}
use Rattle.odht_base.specs.Bytes.{bytes_at}
use Rattle.odht_tool_core.proofs.BytePairs.{key_in, key_within, length-keys}
use Rattle.odht_tool_core.proofs.key_lists.ByteKeys.at.Goals as goal

-- the key is within the bytes
pub entry-requires : goal.entry-requires
entry-requires c =
    let s = c.self.inside in
    let k = s.key_len in
    let many = ap length (sym c.self.view_is) ∙ length-keys k s.count s.bytes.items in
    subst (λ (b : List ℕ). (c.args.index + 1) * (k + 0) ≤ length b) (sym c.as_slice.ensures.value)
    (key_within k s.count c.args.index s.bytes.items (subst (λ (n : ℕ). c.args.index < n) many c.requires) c.self.invariant)

pub returns : goal.returns
returns c =
    let s = c.self.inside in
    let k = s.key_len in
    let i = c.args.index in
    let many = ap length (sym c.self.view_is) ∙ length-keys k s.count s.bytes.items in
    ap (λ (ks : List (List ℕ)). slice_get ks i) (sym c.self.view_is)
    ∙ key_in k s.count i s.bytes.items (subst (λ (n : ℕ). i < n) many c.requires) c.self.invariant
    ∙ ap (λ (b : List ℕ). Some (bytes_at b (i * (k + 0)) (k + 0))) (sym c.as_slice.ensures.value) ∙ ap Some (sym c.entry.ensures)
