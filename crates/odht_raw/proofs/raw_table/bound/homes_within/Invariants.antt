use Rattle.std.proofs.Common.{◌≡◌, ◌<◌, ◌+◌, ◌*◌, ℕ, false}
use Rattle.odht_raw.proofs.lemmas.Bounds.{has_free}
use Rattle.odht_raw.proofs.raw_table.bound.homes_within.Given as goal

-- the groups before that of the probe have no free byte
abbrev pub invariant-groups : goal.invariant-groups
invariant-groups l = record {
  control : l.probe.control ≡ l.control;
  home : l.probe.home ≡ l.fn.home;
  left : l.probe.position + 16 * l.left ≡ 16 * l.fn.groups;
  occupied : (j : ℕ) → 16 * j < l.probe.position → has_free l.control l.fn.groups l.fn.home j ≡ false;
}

abbrev pub decreases-groups : goal.decreases-groups
decreases-groups l = l.left
