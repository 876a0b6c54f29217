use Rattle.std.proofs.Common.{length, ◌-◌, ◌+◌, ◌≡◌, ℕ, ◌≤◌, List, take}
use Rattle.odht_base.specs.Bytes.{bytes_at}
use Rattle.odht_raw.proofs.read_at.read_exact_at.Given as goal

-- the front of the bytes is read
abbrev pub invariant-reads : goal.invariant-reads
invariant-reads g l = record {
  long : length l.out ≡ length l.fn.out;
  within : l.filled ≤ length l.out;
  few : l.interrupts ≤ 1000;
  read : (B : List ℕ) → g.S.ReadAt.gives l.source B → take l.filled l.out ≡ bytes_at B l.offset l.filled;
}

abbrev pub decreases-reads : goal.decreases-reads
decreases-reads g l = length l.out - l.filled + (1000 - l.interrupts)
