-- The search for a key in parts that are read to be written, and the value where it ends.
use Rattle.std.proofs.Common.{◌≡◌, ◌∙◌, ◌-◌, ◌<◌, ℕ, List, Option, ap, arith, refl, subst, sym, length}
use Rattle.std.specs.Prelude.{option_map, ⊤}
use Rattle.odht_raw.specs.Words.{controls_of, entries_of, Format, format_of, header_slots, tag as key_tag}
use Rattle.odht_raw.specs.Dumps.{parts_of}
use Rattle.odht_raw.specs.DynParts.{AreWhole, DynParts, dynamic_parts, parts_format}
use Rattle.odht_raw.specs.EndWrites.{IsKeyEnd}
use Rattle.odht_raw.specs.Formers.{former_of}
use Rattle.odht_raw.specs.Parts.{stored_in}
use Rattle.odht_raw.specs.SearchEnds.{IsEnd}
use Rattle.odht_raw.specs.SearchResults.{MatchSearchResult}
use Rattle.odht_raw.specs.Searches.{IsSearchEnd}
use Rattle.odht_raw.specs.Steps.{IsTaggedEnd}
use Rattle.odht_raw.specs.declared.raw_table.search_result.Search.{Search}
use Rattle.odht_raw.proofs.lemmas.Formers.{end_low}

module _ (kl vl : ℕ) (h : List ℕ → ℕ) (es ctrl : List ℕ) (S : DynParts) (is : S ≡ dynamic_parts kl vl (length ctrl - 16) es ctrl) where
  -- where it ends
  pub ended : (k : List ℕ) (r : Search) → IsSearchEnd (parts_format S h) S.parts.entries S.parts.control k r → IsSearchEnd (format_of kl vl h) (stored_in es ctrl) ctrl k r
  ended k r end = subst (λ (T : DynParts). IsSearchEnd (parts_format T h) T.parts.entries T.parts.control k r) is end

  -- with the key's tag
  pub tagged_end : (m : ℕ) (k : List ℕ) (r : Search × ℕ) → IsSearchEnd (parts_format S h) S.parts.entries S.parts.control k r.0 → r.1 ≡ key_tag (parts_format S h) k
      → IsTaggedEnd (format_of kl vl h) m es ctrl k r
  tagged_end m k r end tag =
      let at = ended k r.0 end in
      record { end = record { slot = at.slot; earlier = λ none. at.earlier }; tag = tag ∙ ap (λ (T : DynParts). key_tag (parts_format T h) k) is }

  -- a slot where it found the key is one of the slots
  pub low : (k : List ℕ) (r : Search) → IsEnd (format_of kl vl h) (stored_in es ctrl) ctrl k r → MatchSearchResult r (λ i. i < S.parts.entries.slots) (λ _. ⊤) ⊤
  low k r end =
      subst (λ (T : DynParts). MatchSearchResult r (λ i. i < T.parts.entries.slots) (λ _. ⊤) ⊤) (sym is) (end_low (format_of kl vl h) es ctrl k (length ctrl - 16) r refl end)

  -- the value that is there
  pub former : {V : Type 0} (f : List ℕ → V) (r : Search) (o : Option V) → o ≡ option_map f (former_of (parts_format S h) S.parts.entries.bytes r)
      → o ≡ option_map f (former_of (format_of kl vl h) es r)
  former f r o at = at ∙ ap (λ (T : DynParts). option_map f (former_of (parts_format T h) T.parts.entries.bytes r)) is

-- in the parts of some bytes a search ends where it does in the bytes
pub key_end : (kl vl : ℕ) (h : List ℕ → ℕ) (B : List ℕ) (S : DynParts) → S ≡ record { key_len = kl; value_len = vl; parts = parts_of (format_of kl vl h) B } → (m : ℕ) → AreWhole m S
    → (k : List ℕ) (r : Search × ℕ) → IsSearchEnd (parts_format S h) S.parts.entries S.parts.control k r.0 → r.1 ≡ key_tag (parts_format S h) k → IsKeyEnd (format_of kl vl h) B k r
key_end kl vl h B S is m whole k r end tag =
    let F : Format = format_of kl vl h in
    let slots : header_slots B ≡ length (controls_of F B) - 16 = omega (arith, (subst (AreWhole m) is whole).mirrored) in
    record {
      end = subst (λ s. IsSearchEnd F (record { slots = s; bytes = entries_of F B }) (controls_of F B) k r.0) slots (subst (λ (T : DynParts). IsSearchEnd (parts_format T h) T.parts.entries T.parts.control k r.0) is end);
      tag = tag ∙ ap (λ (T : DynParts). key_tag (parts_format T h) k) is;
    }
