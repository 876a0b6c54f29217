use Rattle.std.proofs.Common.{◌≡◌, ◌<◌, ℕ, None}
use Rattle.odht_header.specs.Refusals.{mirror_refusal_at}
use Rattle.odht_raw.proofs.raw_table.check.check_mirror.Given as goal

abbrev pub invariant-loop-index : goal.invariant-loop-index
invariant-loop-index l = (i : ℕ) → i < l.index → mirror_refusal_at l.control i ≡ None
