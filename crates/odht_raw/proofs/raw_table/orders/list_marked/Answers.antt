use Rattle.std.proofs.Common.{◌+◌, take, set, sym, subst, arith}
use Rattle.odht_raw.specs.Waiting.{waiting}
use Rattle.odht_raw.proofs.lemmas.ListedSlots.{IsListing, listing_low, listing_next, listing_full}
use Rattle.odht_raw.proofs.raw_table.orders.list_marked.Goals as goal

pub overflow_add-out : goal.overflow_add-out
overflow_add-out c = omega (arith, listing_low c.args.start (take c.args.listed c.args.out.now) c.args.marks c.marks.marks c.marks.out c.marks.listed c.in-Some.index c.marks.invariant c.in-Some.ensures.next)

pub overflow_add-out-then-listed-out : goal.overflow_add-out-then-listed-out
overflow_add-out-then-listed-out c = omega (arith, listing_low c.args.start (take c.args.listed c.args.out.now) c.args.marks c.marks.marks c.marks.out c.marks.listed c.in-Some.index c.marks.invariant c.in-Some.ensures.next)

pub marks-preserved-then-listed-out : goal.marks-preserved-then-listed-out
marks-preserved-then-listed-out c =
    subst (λ left. IsListing c.args.start (take c.args.listed c.args.out.now) c.args.marks left (set c.marks.out c.marks.listed (waiting (c.args.start + c.in-Some.index))) (c.marks.listed + 1)) (sym c.in-Some.ensures.rest)
    (listing_next c.args.start (take c.args.listed c.args.out.now) c.args.marks c.marks.marks c.marks.out c.marks.listed c.in-Some.index c.marks.invariant c.in-Some.ensures.next c.if-listed-out.true)

pub marks-preserved : goal.marks-preserved
marks-preserved c =
    subst (λ left. IsListing c.args.start (take c.args.listed c.args.out.now) c.args.marks left c.marks.out c.marks.listed) (sym c.in-Some.ensures.rest)
    (listing_full c.args.start (take c.args.listed c.args.out.now) c.args.marks c.marks.marks c.marks.out c.marks.listed c.in-Some.index c.marks.invariant c.in-Some.ensures.next c.if-listed-out.false)
