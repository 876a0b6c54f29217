use Rattle.std.proofs.Common.{arith}
use Rattle.odht_tool_core.proofs.Cuts.{no_place, cut_at_place}
use Rattle.odht_tool_core.proofs.places.cut_at.Goals as goal

pub returns-then-at-bytes : goal.returns-then-at-bytes
returns-then-at-bytes c = no_place c.args.byte c.args.bytes.now c.place_of-at.result c.place_of-at.ensures.place (omega (arith, c.if-at-bytes.true))

pub returns : goal.returns
returns c = cut_at_place c.args.byte c.args.bytes.now c.place_of-at.result c.place_of-at.ensures.place (omega (arith, c.place_of-at.ensures.within, c.if-at-bytes.false))
