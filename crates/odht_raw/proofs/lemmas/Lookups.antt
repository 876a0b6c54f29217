-- What the answer of a search in a placed table says: about its map, and about where a pair goes.
use Rattle.std.proofs.Common.{◌≡◌, ◌<◌, ◌∙◌, ◌||◌, ℕ, Bool, true, false, true≢false, sym, ap, subst, refl, List, Option, Some, None}
use Rattle.std.specs.Prelude.{is_none, option_map, option_and_then, if◌then◌else◌}
use Rattle.std.specs.Option.{option_map_or}
use Rattle.odht_raw.specs.Words.{cell_at, Format, has_key, HoldsPair, is_free, IsPlaced, map_of, Pair, place, search_end, slot_count, Table}
use Rattle.odht_raw.proofs.lemmas.Below.{is_free-target, key_pair, map_of-holds, map_of-search_end, pair_key, place-at, place-search_end, search_end-IsTarget, written}
use Rattle.odht_raw.specs.SearchResults.{answer, IsWherePlaced}
use Rattle.odht_raw.specs.declared.raw_table.search_result.Search.{Search}
use Rattle.odht_raw.specs.declared.raw_table.search_result.Search.TheVariants.{Found, Free, Neither}

-- a found key: its slot's pair, the map's value, and that a pair with the key goes there
pub record IsFoundAt (F : Format) (P : Table) (k : List ℕ) (i : ℕ) : Type 0 where
  pub pair : Pair
  pub holds : HoldsPair P i pair
  pub key : pair.key ≡ k
  pub within : i < slot_count P
  pub value : map_of P k ≡ Some pair.value
  pub places : (p : Pair) → p.key ≡ k → place F P p ≡ Some (written P i p)

-- a free end: the map has no value, and a pair with the key goes there
pub record IsFreeAt (F : Format) (P : Table) (k : List ℕ) (i : ℕ) : Type 0 where
  pub free : cell_at P.cells i ≡ None
  pub within : i < slot_count P
  pub value : map_of P k ≡ None
  pub places : (p : Pair) → p.key ≡ k → place F P p ≡ Some (written P i p)

-- no end: the map has no value, and a pair with the key has no place
pub record IsNowhere (F : Format) (P : Table) (k : List ℕ) : Type 0 where
  pub value : map_of P k ≡ None
  pub places : (p : Pair) → p.key ≡ k → place F P p ≡ None

module _ (F : Format) (P : Table) (k : List ℕ) (ok : IsPlaced F P) where
  -- a pair with the key goes where its search ends
  goes : (i : ℕ) → search_end F P.cells k ≡ Some i → (p : Pair) → p.key ≡ k → place F P p ≡ Some (written P i p)
  goes i e p same = place-at F P p ok i (ap (search_end F P.cells) same ∙ e)

  -- a search ends at an occupied slot
  found_at : (i : ℕ) → search_end F P.cells k ≡ Some i → is_free P.cells i ≡ false → IsFoundAt F P k i
  found_at i e occupied =
      let t = search_end-IsTarget F P k ok i e in
      let q = key_pair k (cell_at P.cells i) (key_of (cell_at P.cells i) t.stops occupied) in
      record {
        pair = q.0;
        holds = q.1;
        key = sym q.2;
        within = t.within;
        value = ap (map_of P) q.2 ∙ map_of-holds F P i q.0 ok q.1;
        places = goes i e;
      }
    where
      key_of : (c : Option Pair) → (is_none c || has_key k c) ≡ true → is_none c ≡ false → has_key k c ≡ true
      key_of None s f = absurd (true≢false f)
      key_of (Some p) s f = s

  -- or at a free one
  free_at : (i : ℕ) → search_end F P.cells k ≡ Some i → is_free P.cells i ≡ true → IsFreeAt F P k i
  free_at i e free =
      let t = search_end-IsTarget F P k ok i e in
      record {
        free = none_of (cell_at P.cells i) free;
        within = t.within;
        value = none_of (map_of P k) (sym (is_free-target F P k i t) ∙ free);
        places = goes i e;
      }
    where
      none_of : {X : Type 0} (o : Option X) → is_none o ≡ true → o ≡ None
      none_of None n = refl
      none_of (Some x) n = absurd (true≢false (sym n))

  pub answer-Found : (i : ℕ) → Found i ≡ answer F P.cells k → IsFoundAt F P k i
  unfolding answer
  answer-Found i h = go (search_end F P.cells k) refl h
    where
      at : (j : ℕ) → search_end F P.cells k ≡ Some j → (b : Bool) → is_free P.cells j ≡ b → Found i ≡ (if b then Free j else Found j) → IsFoundAt F P k i
      at j e true t g = cc
      at j e false t g = let same : j ≡ i = cc in subst (IsFoundAt F P k) same (found_at j e t)

      go : (o : Option ℕ) → search_end F P.cells k ≡ o → Found i ≡ option_map_or (λ j. if is_free P.cells j then Free j else Found j) o Neither → IsFoundAt F P k i
      go None e g = cc
      go (Some j) e g = at j e (is_free P.cells j) refl g

  pub answer-Free : (i : ℕ) → Free i ≡ answer F P.cells k → IsFreeAt F P k i
  unfolding answer
  answer-Free i h = go (search_end F P.cells k) refl h
    where
      at : (j : ℕ) → search_end F P.cells k ≡ Some j → (b : Bool) → is_free P.cells j ≡ b → Free i ≡ (if b then Free j else Found j) → IsFreeAt F P k i
      at j e true t g = let same : j ≡ i = cc in subst (IsFreeAt F P k) same (free_at j e t)
      at j e false t g = cc

      go : (o : Option ℕ) → search_end F P.cells k ≡ o → Free i ≡ option_map_or (λ j. if is_free P.cells j then Free j else Found j) o Neither → IsFreeAt F P k i
      go None e g = cc
      go (Some j) e g = at j e (is_free P.cells j) refl g

  pub answer-Neither : Neither ≡ answer F P.cells k → IsNowhere F P k
  unfolding answer
  answer-Neither h = go (search_end F P.cells k) refl h
    where
      at : (j : ℕ) (b : Bool) → Neither ≡ (if b then Free j else Found j) → IsNowhere F P k
      at j true g = cc
      at j false g = cc

      go : (o : Option ℕ) → search_end F P.cells k ≡ o → Neither ≡ option_map_or (λ j. if is_free P.cells j then Free j else Found j) o Neither → IsNowhere F P k
      go (Some j) e g = at j (is_free P.cells j) g
      go None e g = record {
        value = map_of-search_end F P k ok ∙ ap (option_and_then (λ i. option_map (λ (p : Pair). p.value) (cell_at P.cells i))) e;
        places = λ p same. place-search_end F P p ok None (ap (search_end F P.cells) same ∙ e);
      }

  -- an answer is where a pair with the key is placed
  pub answer-IsWherePlaced : (r : Search) → r ≡ answer F P.cells k → IsWherePlaced F P k r
  answer-IsWherePlaced (Found i) e =
      let at = answer-Found i e in (pair_key k (cell_at P.cells i) at.pair at.holds (sym at.key), λ v. at.places (record { key = k; value = v }) refl)
  answer-IsWherePlaced (Free i) e =
      let at = answer-Free i e in (ap is_none at.free, λ v. at.places (record { key = k; value = v }) refl)
  answer-IsWherePlaced Neither e = let at = answer-Neither e in λ v. at.places (record { key = k; value = v }) refl
