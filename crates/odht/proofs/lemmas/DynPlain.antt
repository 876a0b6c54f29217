-- The owned dynamic table, as its lengths and its plain table.
use Rattle.std.proofs.Common.{◌≡◌, ◌≢◌, ◌==◌, ◌∙◌, ℕ, Bool, true, false, List, Option, Some, None, Ok, refl, sym, ap, subst, eqb-true, eq-eqb, true≢false, length}
use Rattle.std.specs.Prelude.{option_map}
use Rattle.odht_raw.specs.Words.{decoded_table, encoded, Format, format_of, IsFormat, IsImage, map_of, Table}
use Rattle.odht_base.specs.Insert.{insert_owned}
use Rattle.odht.specs.Dynamic.{DynStore, dyn_coding, dyn_format, dyn_plain, dyn_store, IsDynImage}
use Rattle.odht.specs.DynOwned.{IsDynWith}
use Rattle.odht.specs.Inserts.{IsInsertInto}
use Rattle.odht.specs.Plain.{HasMapWith, KeepsSize}
use Rattle.odht.proofs.lemmas.DynLookups.{other_length}
use Rattle.odht.proofs.lemmas.OwnedInserts.{owned_of_view}
use Rattle.odht.proofs.lemmas.Plain.{the_table, decoded_image}
use Rattle.odht.proofs.lemmas.PlainRuns.{one_stays}

-- ---- reads
-- a value of bytes is these bytes
pub same_value : (o : Option (List ℕ)) → option_map (λ (b : List ℕ). b) o ≡ o
same_value None = refl
same_value (Some b) = refl

-- a key of another length has no value
pub value_of_length : (F : Format) (P : Table) (B : List ℕ) → IsImage F P B → (k : List ℕ) (o : Option (List ℕ))
    → (length k ≡ F.key_len → o ≡ map_of P k) → (length k ≢ F.key_len → o ≡ None) → o ≡ map_of P k
value_of_length F P B is k o same other = go (length k == F.key_len) refl
  where
    go : (b : Bool) → (length k == F.key_len) ≡ b → o ≡ map_of P k
    go true e = same (eqb-true _ _ e)
    go false e = let apart : length k ≢ F.key_len = λ long. true≢false (sym (eq-eqb _ _ long) ∙ e) in other apart ∙ sym (other_length F P k is.valid.placed apart)

-- ---- tables
-- the table with these lengths of bytes that are the image of Q
module _ (h : List ℕ → ℕ) (kl vl : ℕ) (B : List ℕ) (f : IsFormat (format_of kl vl h)) (Q : Table) (is : IsImage (format_of kl vl h) Q B) (t : DynStore (List ℕ)) (opened : t ≡ dyn_store kl vl B) where
  pub held : IsDynImage t h
  held = subst (λ (s : DynStore (List ℕ)). IsDynImage s h) (sym opened) (record { format = f; image = decoded_image (format_of kl vl h) B f (Q, is) })

  -- what holds of Q
  pub with_table : (S : Table → Type 0) → S Q → IsDynWith kl vl S (dyn_plain t h)
  with_table S holds =
      subst (λ (s : DynStore (List ℕ)). IsDynWith kl vl S (dyn_plain s h)) (sym opened)
      (record { key_len = refl; value_len = refl; store = subst S (sym (the_table (format_of kl vl h) Q B f is)) holds })

-- ---- inserts
-- what an insert that is accepted returns and leaves
abbrev pub IsDone : (List ℕ → ℕ) → DynStore Table → List ℕ → List ℕ → Option (List ℕ) → DynStore Table → Type 0
IsDone h p k v o q =
    let c = dyn_coding p h in
    (o ≡ map_of p.store k) × (insert_owned c.format p.store (encoded c k v) ≡ Some q.store) × HasMapWith p.store (encoded c k v) q.store × KeepsSize p.store 1 q.store

module _ (h : List ℕ → ℕ) (t t' : DynStore (List ℕ)) (is : IsDynImage t h) (same : t' ≡ dyn_store t.key_len t.value_len t'.store) where
  -- the lengths stay
  formats : dyn_format t' h ≡ dyn_format t h
  formats = ap (λ (s : DynStore (List ℕ)). dyn_format s h) same

  format_stays : IsFormat (dyn_format t' h)
  format_stays = subst IsFormat (sym formats) is.format

  -- the bytes are the image of Q
  module _ (Q : Table) (image : IsImage (dyn_format t h) Q t'.store) where
    pub held_after : IsDynImage t' h
    held_after = record {
      format = format_stays;
      image = decoded_image (dyn_format t' h) t'.store format_stays (Q, subst (λ (G : Format). IsImage G Q t'.store) (sym formats) image);
    }

    -- which the table stands for
    stands : Q ≡ decoded_table (dyn_format t' h) t'.store
    stands = sym (the_table (dyn_format t h) Q t'.store is.format image) ∙ ap (λ (G : Format). decoded_table G t'.store) (sym formats)

  -- of tables, what is said of bytes
  pub done : (k v : List ℕ) (o : Option (List ℕ)) → IsInsertInto (dyn_coding t h) (decoded_table (dyn_format t h) t.store) k v (Ok o) t'.store → IsDone h (dyn_plain t h) k v o (dyn_plain t' h)
  done k v o insert =
      let F = dyn_format t h in
      let c = dyn_coding t h in
      let P = decoded_table F t.store in
      let into = insert.inserted in
      let runs = owned_of_view c P k v o t'.store insert in
      let at = stands into.table into.image in (
        insert.former ∙ same_value (map_of P k),
        runs ∙ ap Some at,
        subst (HasMapWith P (encoded c k v)) at into.maps,
        subst (KeepsSize P 1) at (one_stays F P (encoded c k v) into.table t.store t'.store is.image runs into.image),
      )
