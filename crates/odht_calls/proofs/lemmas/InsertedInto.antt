-- What an insert answers that writes the former value into bytes of the caller.
use Rattle.std.proofs.Common.{◌≡◌, ◌∙◌, ℕ, Bool, true, false, List, Option, Some, None, Result, Ok, Err, ap, refl, subst}
use Rattle.std.specs.Prelude.{IfOk}
use Rattle.odht_base.specs.Format.{Format, IsFormat}
use Rattle.odht_header.specs.Refusals.{opening_refusal}
use Rattle.odht_header.specs.declared.error.Error.{Error}
use Rattle.odht_header.specs.declared.error.Error.TheVariants.{Full}
use Rattle.odht_raw.specs.FormerWrites.{IsFormerTo, IsOneInto}
use Rattle.odht_raw.specs.Frame.{IsFramed}
use Rattle.odht_raw.specs.Runs.{IsOnePlaced}
use Rattle.odht_raw.specs.DynParts.{bytes_coding}
use Rattle.odht.proofs.lemmas.ViewInserts.{one_inserted, framed-full, full-framed, framed-only_full, framed-refused}
use Rattle.odht_calls.specs.Statuses.{done, replaced, status_of}
use Rattle.odht_calls.specs.Writes.{InsertAnswers, IsFormer}
use Rattle.odht_calls.proofs.lemmas.Inserted.{accepted_insert, full_insert}

-- the status of an insert that tells whether the key had a value
abbrev pub inserted_status : Result Bool Error → ℕ
inserted_status (Ok true) = replaced
inserted_status (Ok false) = done
inserted_status (Err e) = status_of e

module _ (F : Format) (f : IsFormat F) (B C k v old new : List ℕ) (accepted : None ≡ opening_refusal F B) where
  -- a former value, or none
  former_told : (o : Option (List ℕ)) (r : Result Bool Error) (s : ℕ) → IsFormerTo (Ok o) old r new → s ≡ inserted_status r → IsFormer o old s new
  former_told None r s tells status = (status ∙ ap inserted_status tells.answered, tells.former)
  former_told (Some x) r s tells status = (status ∙ ap inserted_status tells.answered, tells.former)

  pub into_answers : (r : Result Bool Error) (s : ℕ) → IsOneInto (bytes_coding F) B k v old r C new → s ≡ inserted_status r → InsertAnswers (bytes_coding F) B k v old s C new
  into_answers r s into status = go into.answer refl
    where
      go : (a : Result (Option (List ℕ)) Error) → into.answer ≡ a → InsertAnswers (bytes_coding F) B k v old s C new
      go (Ok o) is =
          let K = bytes_coding F in
          let tells = subst (λ (a : Result (Option (List ℕ)) Error). IsFormerTo a old r new) is into.tells in
          let framed = subst (λ (a : Result (Option (List ℕ)) Error). IsFramed K B k v a C) is into.framed in
          accepted_insert K B B C C k v old s new accepted refl refl o (former_told o r s tells status)
          (λ P at. (subst (λ (a : Result (Option (List ℕ)) Error). IfOk a (λ x. IsOnePlaced K P k v x C)) is (into.placed P at)).0)
          (λ P at. one_inserted K P B _ _ _ _ at (subst (λ (a : Result (Option (List ℕ)) Error). IfOk a (λ x. IsOnePlaced K P k v x C)) is (into.placed P at)))
          framed
      go (Err e) is =
          let K = bytes_coding F in
          let tells = subst (λ (a : Result (Option (List ℕ)) Error). IsFormerTo a old r new) is into.tells in
          let framed = subst (λ (a : Result (Option (List ℕ)) Error). IsFramed K B k v a C) is into.framed in
          let only = framed-only_full K B k v (Err e) C framed in
          let full : e ≡ Full = cc in
          let stays = framed-refused K B k v (Err e) C framed in
          full_insert K B B C C k v old s new accepted refl refl (Err e) only stays (status ∙ ap inserted_status tells.answered ∙ ap status_of full) tells.former
          (λ P at. (λ is_full. framed-full K B k v f P at (Err e) C is_full framed, λ is_full. full-framed K B k v f P at (Err e) C (subst (λ (a : Result (Option (List ℕ)) Error). IfOk a (λ x. IsOnePlaced K P k v x C)) is (into.placed P at)) framed is_full)) framed
