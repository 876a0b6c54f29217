use Rattle.std.proofs.Common.{◌≡◌, ◌<◌, ℕ, None}
use Rattle.odht_header.specs.Refusals.{hashes_refusal_at}
use Rattle.odht_raw.specs.DynParts.{parts_format}
use Rattle.odht_raw.proofs.raw_table.parts.Parts.sanity_check_hashes.Given as goal

abbrev pub invariant-loop-slot : goal.invariant-loop-slot
invariant-loop-slot g l = (i : ℕ) → i < l.slot → hashes_refusal_at (parts_format l.self g.H.HashFn.hash) l.self.parts.entries.bytes l.self.parts.control i ≡ None
