use Rattle.std.proofs.Common.{◌≡◌, ◌∙◌, ◌+◌, ◌-◌, ◌<◌, ◌≤◌, min, max, length, get_or, set, sym, ap, ap₂, arith}
use Rattle.std.proofs.Math.Nat.{le-min, min-le_right, min-eq_left}
use Rattle.std.proofs.lemmas.List.{get_or_read}
use Rattle.odht_tool_core.specs.InfoNumbers.{tallies}
use Rattle.odht_tool_core.proofs.Tallies.{tallies-le, tallies-more, largest-more}
use Rattle.odht_tool_core.proofs.histogram.Histogram.add.Goals as goal

pub returns : goal.returns
returns c xs few h =
    let g = c.args.groups in
    let m = c.min-index.result in
    let is : min g 64 ≡ m = sym c.min-index.ensures in
    let some : 1 ≤ m = omega (arith, is, le-min {k = 1} {a = g} {b = 64} c.requires.positive (omega arith)) in
    let most : m ≤ 64 = omega (arith, is, min-le_right g 64) in
    let inside : m - 1 < length c.args.self.now.counts.items = omega (arith, c.requires.all, some, most) in
    let read : c.index.result.now ≡ get_or c.args.self.now.counts.items (m - 1) 0 = get_or_read c.args.self.now.counts.items (m - 1) _ inside c.index.ensures 0 in
    let was : c.index.result.now ≡ get_or (tallies xs) (m - 1) 0 = read ∙ ap (λ ts. get_or ts (m - 1) 0) h.counts in
    let small : c.index.result.now + 1 ≤ 18446744073709551615 = omega (arith, was, tallies-le xs (m - 1) (omega (arith, most))) in
    let now : c.saturating_add.result ≡ get_or (tallies xs) (m - 1) 0 + 1 = c.saturating_add.ensures ∙ min-eq_left small ∙ ap (λ n. n + 1) was in
    record {
      counts = ap₂ (λ ts n. set ts (m - 1) n) h.counts now ∙ sym (tallies-more xs g m is some most);
      longest = c.max-self.ensures ∙ ap (λ n. max n g) h.longest ∙ sym (largest-more xs g);
    }
