use Rattle.std.proofs.lemmas.List.{append_assoc}
use Rattle.odht_tool_core.proofs.obstacles.ObstacleDisplay.fmt.Goals as goal

pub returns-in-Links-clause-writes : goal.returns-in-Links-clause-writes
returns-in-Links-clause-writes g c = rw c.in-Links.is (simp append_assoc c.write-in-Links.ensures.writes)
