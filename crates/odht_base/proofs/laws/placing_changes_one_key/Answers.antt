use Rattle.odht_base.proofs.lemmas.Places.{place-IsPlaced, map_of-place}
use Rattle.odht_base.proofs.laws.placing_changes_one_key.Goals as goal

pub returns-clause-placed : goal.returns-clause-placed
returns-clause-placed c F P Q p ok fits e = place-IsPlaced F P Q p ok e fits

pub returns-clause-maps : goal.returns-clause-maps
returns-clause-maps c = map_of-place
