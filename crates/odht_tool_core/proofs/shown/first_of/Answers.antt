use Rattle.std.proofs.Common.{sym, take_all, length-take-le, arith}
use Rattle.odht_tool_core.proofs.shown.first_of.Goals as goal

pub slice_bounds-result-end : goal.slice_bounds-result-end
slice_bounds-result-end c = sym (length-take-le 60 c.args.bytes.now (omega (arith, c.if-bytes-gt-MOST.true)))

pub returns-else-bytes-gt-MOST : goal.returns-else-bytes-gt-MOST
returns-else-bytes-gt-MOST c = sym (take_all 60 c.args.bytes.now (omega (arith, c.if-bytes-gt-MOST.false)))
