use Rattle.std.proofs.Common.{length, take}
use Rattle.odht_raw.proofs.lemmas.ListedSlots.{IsListing}
use Rattle.odht_raw.proofs.raw_table.orders.list_marked.Given as goal

abbrev pub invariant-marks : goal.invariant-marks
invariant-marks l = IsListing l.fn.start (take l.fn.listed l.fn.out) l.fn.marks l.marks l.out l.listed

abbrev pub decreases-marks : goal.decreases-marks
decreases-marks l = length l.marks
