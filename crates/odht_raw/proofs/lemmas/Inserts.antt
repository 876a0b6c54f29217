-- What the writes of an insert leave where its search ended, on the parts of a placed table.
use Rattle.std.proofs.Common.{◌≡◌, ◌∙◌, ◌+◌, ◌*◌, ◌++◌, ℕ, sym, ap, List, Some}
use Rattle.odht_raw.specs.Words.{entry_len, Format, IsBytes, IsPairOf, IsPartsOf, overwritten_at, Pair, slot_value, Table, tag, tagged}
use Rattle.odht_raw.proofs.lemmas.Below.{controls-set_value, HasLengths-HasPairsOf, overwritten_at-entries, overwritten_at-entries_value, place-IsPlaced, slot_value-entries, tagged-controls, written}
use Rattle.odht_raw.proofs.lemmas.Lookups.{IsFoundAt, IsFreeAt}

module _ (F : Format) (P : Table) (es ctrl : List ℕ) (h : IsPartsOf F P es ctrl) (k : List ℕ) (i : ℕ) where
  -- the value beside a found key is the map's
  pub found_value : (at : IsFoundAt F P k i) → slot_value F es i ≡ at.pair.value
  found_value at = ap (λ e. slot_value F e i) h.entries_are ∙ slot_value-entries F P.cells i at.pair (HasLengths-HasPairsOf F P.cells h.placed.pairs) at.holds

  -- a found key's bytes are those of the format
  pub found_key : IsFoundAt F P k i → IsBytes F.key_len k
  found_key at = rw (← at.key) (h.placed.pairs i at.pair at.holds).key

  module _ (p : Pair) (same : p.key ≡ k) (fits : IsPairOf F p) where
    -- the parts with the value overwritten are those of the table with the pair placed
    pub found_parts : IsFoundAt F P k i → IsPartsOf F (written P i p) (overwritten_at es (i * entry_len F + F.key_len) p.value) ctrl
    found_parts at =
        let key = at.key ∙ sym same in
        let lengths = HasLengths-HasPairsOf F P.cells h.placed.pairs in
        record {
          placed = place-IsPlaced F P (written P i p) p h.placed (at.places p same) fits;
          entries_are = ap (λ e. overwritten_at e (i * entry_len F + F.key_len) p.value) h.entries_are ∙ overwritten_at-entries_value F P.cells i p at.pair lengths at.holds key fits.value.len;
          controls_are = h.controls_are ∙ sym (controls-set_value F P.cells i p at.pair at.holds key);
        }

    -- and so are those with the pair written into a free slot, with its tag
    pub free_parts : IsFreeAt F P k i → IsPartsOf F (written P i p) (overwritten_at es (i * entry_len F) (p.key ++ p.value)) (tagged ctrl i (tag F p.key))
    free_parts at =
        let lengths = HasLengths-HasPairsOf F P.cells h.placed.pairs in
        record {
          placed = place-IsPlaced F P (written P i p) p h.placed (at.places p same) fits;
          entries_are = ap (λ e. overwritten_at e (i * entry_len F) (p.key ++ p.value)) h.entries_are ∙ overwritten_at-entries F P.cells i p lengths at.within fits.key.len fits.value.len;
          controls_are = ap (λ c. tagged c i (tag F p.key)) h.controls_are ∙ tagged-controls F P.cells i (Some p) h.placed.slots.least at.within;
        }
