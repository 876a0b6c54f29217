use Rattle.std.proofs.Common.{◌∙◌, sym}
use Rattle.odht_tool_core.proofs.Tallies.{tallies-none, largest-none}
use Rattle.odht_tool_core.proofs.histogram.Histogram.new.Goals as goal

pub returns : goal.returns
returns c = record { counts = c.in_ok-vec.ensures.items_if_clones_equal (λ y e. e) ∙ sym tallies-none; longest = sym largest-none }
