use Rattle.std.proofs.Common.{◌≡◌, ◌<◌, ◌*◌, ℕ, false}
use Rattle.odht_tool_core.proofs.GroupBounds.{is_free}
use Rattle.odht_tool_core.proofs.groups.ends_within.Given as goal

-- the probe is at the first slot of the group, and no group before has a free byte
abbrev pub invariant-loop-group : goal.invariant-loop-group
invariant-loop-group l = record {
  control : l.probe.control ≡ l.control;
  home : l.probe.home ≡ l.home;
  position : l.group < l.groups → l.probe.position ≡ 16 * l.group;
  before : (j : ℕ) → j < l.group → is_free l.control l.home j ≡ false;
}
