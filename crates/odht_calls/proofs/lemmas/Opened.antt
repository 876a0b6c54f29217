-- The checks of the bytes of a valid table return no error.
use Rattle.std.proofs.Common.{◌≡◌, ◌∙◌, sym, subst, List, ℕ, Some, None}
use Rattle.odht_base.specs.Format.{Format}
use Rattle.odht_base.specs.Table.{Table}
use Rattle.odht_base.specs.Valid.{IsImage}
use Rattle.odht_base.proofs.lemmas.Fits.{IsSized-IsPlaced}
use Rattle.odht_raw.specs.Frame.{IsAccepted}
use Rattle.odht_header.specs.Refusals.{opening_refusal}
use Rattle.odht_header.specs.declared.error.Error.{Error}
use Rattle.odht_raw.proofs.lemmas.Accepted.{IsAccepted-image}

-- its header and its length fit
pub IsAccepted-IsImage : (F : Format) (P : Table) (B : List ℕ) → IsImage F P B → IsAccepted F B
IsAccepted-IsImage F P B is = subst (IsAccepted F) (sym is.bytes) (IsAccepted-image F P is.valid.placed.slots (IsSized-IsPlaced F P is.valid.placed))

-- so opening and the whole check return no error
pub never_refused : {R : Type 0} (F : Format) (P : Table) (B : List ℕ) (e : Error) → IsImage F P B → opening_refusal F B ≡ Some e → R
never_refused F P B e is r = absurd (let both : None ≡ Some e = sym (IsAccepted-IsImage F P B is) ∙ r in cc)
