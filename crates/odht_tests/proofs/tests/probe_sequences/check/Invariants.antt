use Rattle.std.proofs.Common.{◌≡◌}
use Rattle.odht_tests.proofs.tests.probe_sequences.check.Given as goal

abbrev pub invariant-loop : goal.invariant-loop
invariant-loop g l = record {
  mask : l.probe.mask ≡ l.mask;
}
