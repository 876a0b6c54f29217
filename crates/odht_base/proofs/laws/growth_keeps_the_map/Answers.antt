use Rattle.odht_base.proofs.lemmas.Grown.{grown-IsGrown}
use Rattle.odht_base.proofs.laws.growth_keeps_the_map.Goals as goal

pub returns-clause-valid : goal.returns-clause-valid
returns-clause-valid c F P Q ok e = (grown-IsGrown F P ok Q e).valid

pub returns-clause-pairs : goal.returns-clause-pairs
returns-clause-pairs c F P Q ok e = (grown-IsGrown F P ok Q e).walks

pub returns-clause-maps : goal.returns-clause-maps
returns-clause-maps c F P Q ok e = (grown-IsGrown F P ok Q e).maps
