-- Lookups of keys that are lists of bytes.
use Rattle.std.proofs.Common.{◌≡◌, ◌∙◌, ℕ, List, Option, Some, None, sym, ap, refl, length}
use Rattle.std.specs.Prelude.{option_map}
use Rattle.odht_raw.specs.Words.{Format, IsPlaced, map_of, Table, value_for}
use Rattle.odht_base.proofs.lemmas.Pairs.{value_in-Some}
use Rattle.odht_raw.specs.DynParts.{bytes_coding}

-- a table has no value for a key of another length
pub other_length : (F : Format) (P : Table) (k : List ℕ) → IsPlaced F P → (length k ≡ F.key_len → ⊥) → map_of P k ≡ None
other_length F P k ok other = go (map_of P k) refl
  where
    go : (o : Option (List ℕ)) → map_of P k ≡ o → o ≡ None
    go None e = refl
    go (Some v) e = let h = value_in-Some P.cells k v e in absurd (other (ap length h.3 ∙ (ok.pairs h.0 h.1 h.2).key.len))

-- so a lookup of such a key has no value
pub absent : (F : Format) (P : Table) (k : List ℕ) → IsPlaced F P → (length k ≡ F.key_len → ⊥) → None ≡ value_for (bytes_coding F) P k
absent F P k ok other = ap (option_map (λ (b : List ℕ). b)) (sym (other_length F P k ok other))
