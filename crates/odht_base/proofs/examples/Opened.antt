-- One name that opens every definition, for facts on literals.
use Rattle.odht_base.specs.Hashes.{pieces, fx_step, fx, un}
use Rattle.odht_base.specs.Image.{entries, controls, image}
use Rattle.odht_base.specs.Insert.{target, place, grown, insert_owned, insert_view}
use Rattle.odht_base.specs.Load.{is_power_of_two, slots_for}
use Rattle.odht_base.specs.Probe.{order}
use Rattle.odht_base.specs.Search.{search_end, reach}
use Rattle.odht_base.specs.Decoded.{decoded_cells}
use Rattle.odht_base.specs.Xxh64.{whole, rest, round, accumulated, merged, converged, opening, add_eight, add_four, add_byte, remainder, avalanche, xxh64, xxh64_low}

unfoldable pub opened : Type 1
unfolding is_power_of_two slots_for pieces fx_step fx un order entries controls image search_end reach target place grown insert_owned insert_view decoded_cells whole rest round accumulated merged converged opening add_eight add_four add_byte remainder avalanche xxh64 xxh64_low
opened = Type 0
