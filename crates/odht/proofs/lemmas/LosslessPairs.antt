-- Keys and values that their bytes decode to.
use Rattle.std.proofs.Common.{◌≡◌, ◌∙◌, ℕ, refl, Bool, true, false, true≢false, cond, sym, ap, subst, List, [], ◌∷◌, Option, Some, None, bytes_eq, All}
use Rattle.std.specs.Prelude.{option_map}
use Rattle.std.specs.Option.{option_or}
use Rattle.std.proofs.lemmas.List.Elements.{All-nil, All-cons, All-head, All-tail}
use Rattle.odht_base.specs.Map.{last}
use Rattle.odht_raw.specs.Words.{Coding, encoded, Pair, Table}
use Rattle.odht_base.specs.Table.{fresh}
use Rattle.odht_base.proofs.lemmas.Keys.{same_bytes, key_itself}
use Rattle.odht_base.proofs.lemmas.Options.{option_or-none_right}
use Rattle.odht_base.proofs.lemmas.FreeSlots.{map_of-fresh}
use Rattle.odht_base.proofs.lemmas.InsertRuns.{last-cons}
use Rattle.odht.specs.LastValues.{IsLastValue, HasLastValues}
use Rattle.odht.specs.Lists.{encoded_all, IsAfterInserts}

module _ {K V : Type 0} (c : Coding K V) where
  -- the key and the value of the item are what their bytes decode to
  pub record IsKept (item : K × V) : Type 0 where
    pub key : c.key_of (c.key_bytes item.0) ≡ item.0
    pub value : c.value_of (c.value_bytes item.1) ≡ item.1

  module _ (k : K) (kept : c.key_of (c.key_bytes k) ≡ k) where
    -- such keys differ exactly where their bytes do
    same_key : (item : K × V) → IsKept item → bytes_eq (c.key_bytes k) (c.key_bytes item.0) ≡ true → k ≡ item.0
    same_key item is t = sym kept ∙ ap c.key_of (same_bytes (c.key_bytes k) (c.key_bytes item.0) t) ∙ is.key

    -- an item of another key
    other_key : (item : K × V) → bytes_eq (c.key_bytes k) (c.key_bytes item.0) ≡ false → item.0 ≡ k → ⊥
    other_key item t e = true≢false (sym (key_itself (c.key_bytes k)) ∙ ap (λ j. bytes_eq (c.key_bytes k) (c.key_bytes j)) (sym e) ∙ t)

    -- one item more in front, by whether a later one has the key, and whether it has it
    last_more : (item : K × V) (items : List (K × V)) → IsKept item → (o : Option (List ℕ)) → IsLastValue items k (option_map c.value_of o)
        → (b : Bool) → bytes_eq (c.key_bytes k) (c.key_bytes item.0) ≡ b
        → IsLastValue (item ∷ items) k (option_map c.value_of (option_or o (cond b (Some (c.value_bytes item.1)) None)))
    last_more item items is (Some v) h b t = record { before = item ∷ h.before; after = h.after; items_are = ap (λ xs. item ∷ xs) h.items_are; latest = h.latest }
    last_more item items is None h true t = record { before = []; after = items; items_are = λ i. (sym (same_key item is t) i, sym is.value i) ∷ items; latest = h }
    last_more item items is None h false t = All-cons (λ (x : K × V). x.0 ≡ k → ⊥) item items (other_key item t) h

    -- the value of the bytes of the last item with the bytes of the key is that of the last item with the key
    pub last-kept : (items : List (K × V)) → All IsKept items → IsLastValue items k (option_map c.value_of (last (encoded_all c items) (c.key_bytes k)))
    last-kept [] all = All-nil (λ (x : K × V). x.0 ≡ k → ⊥)
    last-kept (item ∷ items) all =
        subst (λ o. IsLastValue (item ∷ items) k (option_map c.value_of o)) (sym (last-cons (encoded c item.0 item.1) (encoded_all c items) (c.key_bytes k)))
        (last_more item items (All-head IsKept item items all) (last (encoded_all c items) (c.key_bytes k)) (last-kept items (All-tail IsKept item items all)) (bytes_eq (c.key_bytes k) (c.key_bytes item.0)) refl)

  -- a fresh table into which the items are inserted has their last values
  pub inserted-HasLastValues : (insert : Table → Pair → Option Table) (n percent : ℕ) (P : Table) (items : List (K × V)) (B : List ℕ) → fresh n percent ≡ Some P
      → IsAfterInserts c.format insert P (encoded_all c items) B → HasLastValues c items B
  inserted-HasLastValues insert n percent P items B new inserted = record {
    table = inserted.table;
    image = inserted.image;
    maps = λ k. inserted.maps k ∙ ap (option_or (last (encoded_all c items) k)) (map_of-fresh n percent P new k) ∙ option_or-none_right (last (encoded_all c items) k);
  }
