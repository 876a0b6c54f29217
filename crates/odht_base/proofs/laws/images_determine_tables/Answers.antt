use Rattle.odht_base.proofs.lemmas.Fits.{IsSized-IsPlaced}
use Rattle.odht_base.proofs.lemmas.Image.{length-image, decoded_table-image, image-injective}
use Rattle.odht_base.proofs.laws.images_determine_tables.Goals as goal

pub returns-clause-len : goal.returns-clause-len
returns-clause-len c F P ok = length-image F P (IsSized-IsPlaced F P ok.placed)

pub returns-clause-decoded : goal.returns-clause-decoded
returns-clause-decoded c = decoded_table-image

pub returns-clause-one : goal.returns-clause-one
returns-clause-one c = image-injective
