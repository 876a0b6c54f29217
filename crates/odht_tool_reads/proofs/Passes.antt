-- Bytes in which the whole check finds no error.
use Rattle.std.proofs.Common.{◌≡◌, ℕ, List, Option, None}
use Rattle.odht_base.specs.Format.{Format}
use Rattle.odht_header.specs.Refusals.{check_refusal_by}
use Rattle.odht_header.proofs.lemmas.FirstErrors.{option_or-None}
use Rattle.odht_raw.specs.Frame.{IsAccepted}
use Rattle.odht_raw.proofs.lemmas.Openings.{view_refusal-accepted}

-- they are accepted
pub passes_accepted : (F : Format) (o : Option ℕ) (B : List ℕ) → check_refusal_by F o B ≡ None → IsAccepted F B
unfolding check_refusal_by
passes_accepted F o B e = view_refusal-accepted F B (option_or-None _ _ e).0
