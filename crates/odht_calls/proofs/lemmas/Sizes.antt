-- The numbers in a table's header, of bytes that are accepted.
use Rattle.std.proofs.Common.{◌≡◌, ◌∙◌, ℕ, List, sym, ap, subst, refl}
use Rattle.odht_base.specs.Format.{Format}
use Rattle.odht_base.specs.Load.{max_items, percent_of}
use Rattle.odht_base.specs.Decoded.{header_count, header_slots, header_factor}
use Rattle.odht_base.specs.Table.{Table, count, slot_count}
use Rattle.odht_base.specs.Valid.{IsImage}
use Rattle.odht_base.proofs.lemmas.Fits.{IsSized-IsPlaced}
use Rattle.odht_base.proofs.lemmas.Image.{header_count-image, header_slots-image, header_factor-image}
use Rattle.odht_raw.specs.Frame.{IsAccepted, header_maximum}
use Rattle.odht_calls.specs.Reads.{LenAnswersOf, SizesAnswers}
use Rattle.odht_calls.specs.Statuses.{status_or_ok, done}
use Rattle.odht_calls.proofs.lemmas.Refused.{not_none}

-- its numbers are the answer
pub opened_sizes : (F : Format) (B : List ℕ) (n m p : ℕ) → IsAccepted F B → SizesAnswers F B n m p done (header_slots B) (header_maximum B) (percent_of (header_factor B))
opened_sizes F B n m p none = record {
  status = ap status_or_ok (sym none);
  refused = λ e is. not_none _ e is none;
  by_header = λ is. (refl, refl, refl);
  on_valid = on_valid;
}
  where
    on_valid : (P : Table) → IsImage F P B → (header_slots B ≡ slot_count P) × (header_maximum B ≡ max_items (slot_count P) P.factor) × (percent_of (header_factor B) ≡ percent_of P.factor)
    on_valid P image =
        let slots : header_slots B ≡ slot_count P = ap header_slots image.bytes ∙ header_slots-image F P (IsSized-IsPlaced F P image.valid.placed) in
        let factor : header_factor B ≡ P.factor = ap header_factor image.bytes ∙ header_factor-image F P image.valid.factor_high in
        (slots, λ i. max_items (slots i) (factor i), ap percent_of factor)

-- however they were read
pub read_sizes : (F : Format) (B : List ℕ) (n m p slots factor maximum percent : ℕ) → IsAccepted F B → slots ≡ header_slots B → factor ≡ header_factor B → maximum ≡ max_items slots factor → percent ≡ percent_of factor
    → SizesAnswers F B n m p done slots maximum percent
read_sizes F B n m p slots factor maximum percent none hs hf hm hp =
    let most : maximum ≡ header_maximum B = hm ∙ (λ i. max_items (hs i) (hf i)) in
    subst (λ x. SizesAnswers F B n m p done x maximum percent) (sym hs)
    (subst (λ x. SizesAnswers F B n m p done (header_slots B) x percent) (sym most)
    (subst (λ x. SizesAnswers F B n m p done (header_slots B) (header_maximum B) x) (sym (hp ∙ ap percent_of hf)) (opened_sizes F B n m p none)))

-- the item count, of the bytes of a valid table
pub counted : (F : Format) (P : Table) (B : List ℕ) → IsImage F P B → header_count B ≡ count P
counted F P B is = ap header_count is.bytes ∙ header_count-image F P (IsSized-IsPlaced F P is.valid.placed)

-- is the answer
pub read_len : (F : Format) (B : List ℕ) (old n : ℕ) → IsAccepted F B → n ≡ header_count B → LenAnswersOf F B old done n
read_len F B old n none is = record {
  status = ap status_or_ok (sym none);
  refused = λ e other. not_none _ e other none;
  by_header = λ accepted. is;
  on_valid = λ P image. is ∙ counted F P B image;
}
