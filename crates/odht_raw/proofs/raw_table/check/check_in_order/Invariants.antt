use Rattle.odht_raw.specs.DynParts.{parts_format}
use Rattle.odht_raw.specs.Summaries.{HaveNoError}
use Rattle.odht_raw.proofs.raw_table.check.check_in_order.Given as goal

abbrev pub invariant-loop-slot : goal.invariant-loop-slot
invariant-loop-slot g l = HaveNoError (parts_format l.table g.H.HashFn.hash) l.table.parts l.slot
