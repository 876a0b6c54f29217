use Rattle.odht_tool_core.proofs.FirstPlaces.{lane_place}
use Rattle.odht_tool_core.proofs.places.place_in_lanes.Goals as goal

pub returns-else-bits-eq0 : goal.returns-else-bits-eq0
returns-else-bits-eq0 c = lane_place c.args.bytes.now c.args.byte c.requires c.if-bits-eq0.false
