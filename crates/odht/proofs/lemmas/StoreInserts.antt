-- An insert into the bytes of a store that was borrowed for it.
use Rattle.std.proofs.Common.{◌≡◌, ◌∙◌, List, ℕ, Option, Result, OnErr, ap, sym, subst, length}
use Rattle.std.specs.Prelude.{IfOk}
use Rattle.std.proofs.lemmas.Result.{on_err_weaker}
use Rattle.odht_raw.specs.Words.{Coding, Error, IsFormat, IsImage, Table}
use Rattle.odht_raw.specs.Frame.{IsAccepted, IsFramed}
use Rattle.odht_raw.specs.Runs.{IsOnePlaced}
use Rattle.odht_raw.proofs.lemmas.Borrows.{borrowed-bytes, borrowed-same}
use Rattle.odht.specs.DynInserts.{IsStoreInsert}
use Rattle.odht.proofs.lemmas.ViewInserts.{if_inserted, if_former, framed-full, full-framed, framed-only_full, framed-refused, held_same_bytes}

-- what an insert does to a valid table and to any bytes is what it does to a view
pub view_insert : {K V : Type 0} (c : Coding K V) → IsFormat c.format → (B : List ℕ) (k : K) (v : V) (r : Result (Option V) Error) (B' : List ℕ)
    → ((P : Table) → IsImage c.format P B → IfOk r (λ old. IsOnePlaced c P k v old B')) → IsFramed c B k v r B' → IsAccepted c.format B' → IsStoreInsert c B k v r B'
view_insert c f B k v r B' placed framed accepted = record {
  on_valid = λ P is. record {
    former = if_former c P k v r B' (placed P is);
    inserted = if_inserted c P B k v r B' is (placed P is);
    full = (λ e. framed-full c B k v f P is r B' e framed, λ full. full-framed c B k v f P is r B' (placed P is) framed full);
  };
  on_any = record { frame = framed; only_full = framed-only_full c B k v r B' framed; accepted = accepted };
}

-- the store t is s after the insert
pub record IsStored {K V S : Type 0} (bytes : S → List ℕ) (holding : S → List ℕ → S) (c : Coding K V) (s : S) (k : K) (v : V) (r : Result (Option V) Error) (t : S) : Type 0 where
  pub insert : IsStoreInsert c (bytes s) k v r (bytes t)
  pub same_store : t ≡ holding s (bytes t)
  pub refused : OnErr r (t ≡ s)
  pub len : length (bytes t) ≡ length (bytes s)

module _ {S : Type 0} (bytes : S → List ℕ) (holding after_borrow : S → List ℕ → S) (held : (s : S) (b : List ℕ) → bytes (holding s b) ≡ b)
    (held_same : (s : S) → holding s (bytes s) ≡ s) (fits : (s : S) (b : List ℕ) → length b ≡ length (bytes s) → after_borrow s b ≡ holding s b) where
  pub stored : {K V : Type 0} (c : Coding K V) (s : S) (B : List ℕ) (k : K) (v : V) (r : Result (Option V) Error) (B' : List ℕ) → B ≡ bytes s → length B' ≡ length B
      → IsStoreInsert c B k v r B' → IsStored bytes holding c s k v r (after_borrow s B')
  stored c s B k v r B' was len into =
      let left = after_borrow s B' in
      let long = len ∙ ap length was in
      let same : bytes left ≡ B' = borrowed-bytes bytes holding after_borrow held fits s B' long in
      let same_store : left ≡ holding s (bytes left) = borrowed-same bytes holding after_borrow held fits s B' long in
      let insert = subst (λ X. IsStoreInsert c (bytes s) k v r X) (sym same) (subst (λ X. IsStoreInsert c X k v r B') was into) in
      record {
        insert = insert;
        same_store = same_store;
        refused = on_err_weaker r (λ kept. held_same_bytes holding bytes held_same s left same_store kept) (framed-refused c (bytes s) k v r (bytes left) insert.on_any.frame);
        len = ap length same ∙ long;
      }
