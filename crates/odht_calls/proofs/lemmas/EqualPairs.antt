-- Pairs whose keys and values have no bytes: all are equal, so what the first of them leaves all leave.
use Rattle.std.proofs.Common.{◌≡◌, ◌≤◌, ◌<◌, ◌+◌, ◌-◌, ◌*◌, ◌∙◌, ◌++◌, ◌⊎◌, inl, inr, ℕ, zero, suc, true, true≢false, sym, ap, subst, refl, arith, List, [], ◌∷◌, Option, Some, None, Ok, take, drop, set, slice_get, take-append-drop, append-nil}
use Rattle.std.specs.List.{zip}
use Rattle.std.specs.Option.{option_or}
use Rattle.std.proofs.lemmas.Bool.{or_parts}
use Rattle.std.proofs.lemmas.List.{map-append, set-get_or}
use Rattle.odht_base.specs.Format.{Format, format_of}
use Rattle.odht_base.specs.Insert.{place, insert_owned, insert_view}
use Rattle.odht_base.specs.Map.{map_of, last}
use Rattle.odht_base.specs.Search.{search_end}
use Rattle.odht_base.specs.Table.{Pair, Table, cell_at, has_key}
use Rattle.odht_base.specs.Valid.{HoldsPair, IsPlaced, IsValid}
use Rattle.odht_base.proofs.lemmas.FreshRuns.{PlacesBelow, insert_view-PlacesBelow, insert_owned-PlacesBelow}
use Rattle.odht_base.proofs.lemmas.InsertRuns.{IsInsert, last-append}
use Rattle.odht_base.proofs.lemmas.Keys.{cell_at-within, pair_key}
use Rattle.odht_base.proofs.lemmas.Pairs.{value_in-Some}
use Rattle.odht_base.proofs.lemmas.Places.{place-at}
use Rattle.odht_base.proofs.lemmas.SearchEnds.{search_end-IsTarget, search_end-None}
use Rattle.odht_base.proofs.lemmas.TableInserts.{there, insert_view-takes, insert_owned-takes, insert_view-IsInsert, insert_owned-IsInsert}
use Rattle.odht_header.specs.Coding.{encoded}
use Rattle.odht_raw.specs.Frame.{IsAccepted, IsFramed, InsertFrame}
use Rattle.odht_raw.specs.DynParts.{bytes_coding}
use Rattle.odht_raw.proofs.lemmas.Accepted.{accepted_slots}
use Rattle.odht.specs.Lists.{encoded_all, IsAfterInserts, IsFramedRun}
use Rattle.odht.proofs.lemmas.DynLists.{take_next}
use Rattle.odht.proofs.lemmas.ListInserts.{inserted_more}
use Rattle.odht_calls.specs.Builds.{IsGrownAfterInserts}
use Rattle.odht_calls.specs.Pieces.{pieces}
use Rattle.odht_calls.proofs.lemmas.Pieces.{piece_at, zip_at}

-- ---- a pair that a table holds is placed where it is, and changes nothing
module _ (F : Format) (P : Table) (p : Pair) (ok : IsPlaced F P) (holds : map_of P p.key ≡ Some p.value) where
  held : (i : ℕ) × HoldsPair P i p
  held =
      let g = value_in-Some P.cells p.key p.value holds in
      let same : g.1 ≡ p = λ j. record { key = sym g.3 j; value = g.4 j } in
      (g.0, g.2 ∙ ap Some same)

  has : has_key p.key (cell_at P.cells held.0) ≡ true
  has = pair_key p.key (cell_at P.cells held.0) p held.1 refl

  pub placed_again : place F P p ≡ Some P
  placed_again = go (search_end F P.cells p.key) refl
    where
      go : (o : Option ℕ) → search_end F P.cells p.key ≡ o → place F P p ≡ Some P
      go None e =
          let within = cell_at-within P.cells held.0 p held.1 in
          absurd (true≢false (sym has ∙ (or_parts _ _ (search_end-None F P p.key ok e held.0 within)).1))
      go (Some i) e =
          let here : held.0 ≡ i = (search_end-IsTarget F P p.key ok i e).others held.0 has in
          let cell : Some p ≡ cell_at P.cells i = sym held.1 ∙ ap (cell_at P.cells) here in
          place-at F P p ok i e ∙ ap (λ cs. Some (record P { cells = cs })) (ap (set P.cells i) cell ∙ set-get_or P.cells i None)

-- so it is with both inserts
abbrev KeepsHeld : Format → (Table → Pair → Option Table) → Type 0
KeepsHeld F insert = (P : Table) (p : Pair) → IsValid F P → map_of P p.key ≡ Some p.value → insert P p ≡ Some P

insert_view-KeepsHeld : (F : Format) → KeepsHeld F (insert_view F)
insert_view-KeepsHeld F P p ok holds = insert_view-takes F P p (inr (there P p.key p.value holds)) ∙ placed_again F P p ok.placed holds

insert_owned-KeepsHeld : (F : Format) → KeepsHeld F (insert_owned F)
insert_owned-KeepsHeld F P p ok holds = insert_owned-takes F P p (inr (there P p.key p.value holds)) ∙ placed_again F P p ok.placed holds

-- ---- the pair of no bytes
abbrev nothing : List ℕ × List ℕ
nothing = ([], [])

abbrev no_bytes : Pair
no_bytes = record { key = []; value = [] }

module _ (F : Format) (insert : Table → Pair → Option Table) (is : IsInsert F (IsValid F) insert) (places : PlacesBelow F insert) (keeps : KeepsHeld F insert) (P : Table) (B : List ℕ) where
  -- inserted a second time it leaves what it left
  twice : (ps : List Pair) → IsAfterInserts F insert P (ps ++ no_bytes ∷ []) B → IsAfterInserts F insert P ((ps ++ no_bytes ∷ []) ++ no_bytes ∷ []) B
  twice ps h =
      let latest : last (ps ++ no_bytes ∷ []) [] ≡ Some [] = last-append ps (no_bytes ∷ []) [] in
      let holds : map_of h.table [] ≡ Some [] = h.maps [] ∙ ap (λ o. option_or o (map_of P [])) latest in
      inserted_more F insert is places P (ps ++ no_bytes ∷ []) no_bytes B B h h.table (keeps h.table no_bytes h.image.valid holds) h.image

  pub inserted_twice : (xs : List (List ℕ × List ℕ)) → IsAfterInserts F insert P (encoded_all (bytes_coding F) (xs ++ nothing ∷ [])) B
      → IsAfterInserts F insert P (encoded_all (bytes_coding F) ((xs ++ nothing ∷ []) ++ nothing ∷ [])) B
  inserted_twice xs h =
      let f : List ℕ × List ℕ → Pair = λ x. encoded (bytes_coding F) x.0 x.1 in
      let one = map-append f xs (nothing ∷ []) in
      let two = map-append f (xs ++ nothing ∷ []) (nothing ∷ []) ∙ ap (λ ps. ps ++ no_bytes ∷ []) one in
      subst (λ (ps : List Pair). IsAfterInserts F insert P ps B) (sym two) (twice (encoded_all (bytes_coding F) xs) (subst (λ (ps : List Pair). IsAfterInserts F insert P ps B) one h))

-- any slot has it, in bytes that are accepted, and an insert there changes nothing
framed_nothing : (h : List ℕ → ℕ) (B : List ℕ) → IsAccepted (format_of 0 0 h) B → IsFramed (bytes_coding (format_of 0 0 h)) B [] [] (Ok (Some [])) B
framed_nothing h B accepted =
    let F : Format = format_of 0 0 h in
    let least = (accepted_slots F B accepted).least in
    let same : take 32 B ++ [] ++ drop 32 B ≡ B = ap (λ xs. xs ++ drop 32 B) (append-nil (take 32 B)) ∙ take-append-drop 32 B in
    (Ok (Some []), refl, subst (InsertFrame F B no_bytes (Ok (Some []))) same (InsertFrame.overwrote 0 (omega (arith, least)) refl))

-- ---- a list of equal items
module _ {X : Type 0} (T : List X → Type 0) (xs : List X) (x : X) (n : ℕ) (all : (i : ℕ) → i < n → slice_get xs i ≡ Some x) (more : (ys : List X) → T (ys ++ x ∷ []) → T ((ys ++ x ∷ []) ++ x ∷ [])) where
  -- what holds of one, and of one more, holds of all
  repeated : (i : ℕ) → i < n → T (take 1 xs) → T (take (i + 1) xs)
  repeated zero low one = one
  repeated (suc i) low one =
      let here : take (i + 1) xs ≡ take i xs ++ x ∷ [] = take_next xs i x (all i (omega (arith, low))) in
      let same : suc i ≡ i + 1 = omega arith in
      let two : take (suc i + 1) xs ≡ (take i xs ++ x ∷ []) ++ x ∷ [] = take_next xs (suc i) x (all (suc i) low) ∙ ap (λ ys. ys ++ x ∷ []) (ap (λ k. take k xs) same ∙ here) in
      subst T (sym two) (more (take i xs) (subst T here (repeated i (omega (arith, low)) one)))

-- ---- the first d of n pairs decide what all n leave: they are all, or there are no bytes in any
abbrev pub Decide : ℕ → ℕ → ℕ → ℕ → Type 0
Decide kl vl n d = (d ≡ n) ⊎ ((kl ≡ 0) × (vl ≡ 0) × (d ≡ 1))

module _ (kl vl n d : ℕ) (ks vs : List ℕ) where
  abbrev items : List (List ℕ × List ℕ)
  items = zip (pieces kl n ks) (pieces vl n vs)

  -- pieces of no bytes
  empty_piece : (len i : ℕ) (B : List ℕ) → len ≡ 0 → i < n → slice_get (pieces len n B) i ≡ Some []
  empty_piece len i B none low = piece_at len n i B low ∙ ap (λ k. Some (take k (drop (i * len) B))) none

  decided : (T : List (List ℕ × List ℕ) → Type 0) → d ≤ n → Decide kl vl n d
      → (kl ≡ 0 → vl ≡ 0 → (ys : List (List ℕ × List ℕ)) → T (ys ++ nothing ∷ []) → T ((ys ++ nothing ∷ []) ++ nothing ∷ [])) → T (take d items) → T (take n items)
  decided T most (inl all) more first = subst (λ m. T (take m items)) all first
  decided T most (inr none) more first =
      let equal : (i : ℕ) → i < n → slice_get items i ≡ Some nothing = λ i low. zip_at (pieces kl n ks) (pieces vl n vs) i [] [] (empty_piece kl i ks none.0 low) (empty_piece vl i vs none.1 low) in
      subst (λ m. T (take m items)) (omega (arith, most, none.2))
      (repeated T items nothing n equal (more none.0 none.1) (n - 1) (omega (arith, most, none.2)) (subst (λ m. T (take m items)) none.2 first))

  module _ (h : List ℕ → ℕ) (most : d ≤ n) (decide : Decide kl vl n d) where
    abbrev F : Format
    F = format_of kl vl h

    -- inserts into accepted bytes, valid or not
    pub decided_framed : (B C : List ℕ) → IsAccepted F C → IsFramedRun (bytes_coding F) B (take d items) C → IsFramedRun (bytes_coding F) B (take n items) C
    decided_framed B C accepted =
        decided (λ xs. IsFramedRun (bytes_coding F) B xs C) most decide
        (λ key value ys run.
        let same : format_of 0 0 h ≡ F = λ i. format_of (sym key i) (sym value i) h in
        let frame = subst (λ (G : Format). IsFramed (bytes_coding G) C [] [] (Ok (Some [])) C) same (framed_nothing h C (subst (λ (G : Format). IsAccepted G C) (sym same) accepted)) in
        IsFramedRun.accepted (ys ++ nothing ∷ []) [] [] (Some []) C C run frame)

    -- into a table
    pub decided_inserted : (P : Table) (C : List ℕ) → IsAfterInserts F (insert_view F) P (encoded_all (bytes_coding F) (take d items)) C
        → IsAfterInserts F (insert_view F) P (encoded_all (bytes_coding F) (take n items)) C
    decided_inserted P C =
        decided (λ xs. IsAfterInserts F (insert_view F) P (encoded_all (bytes_coding F) xs) C) most decide
        (λ key value. inserted_twice F (insert_view F) (insert_view-IsInsert F) (insert_view-PlacesBelow F) (insert_view-KeepsHeld F) P C)

    -- and into a table that grows
    pub decided_grown : (C : List ℕ) → IsGrownAfterInserts (bytes_coding F) (take d items) C → IsGrownAfterInserts (bytes_coding F) (take n items) C
    decided_grown C grown P new =
        decided (λ xs. IsAfterInserts F (insert_owned F) P (encoded_all (bytes_coding F) xs) C) most decide
        (λ key value. inserted_twice F (insert_owned F) (insert_owned-IsInsert F) (insert_owned-PlacesBelow F) (insert_owned-KeepsHeld F) P C)
        (grown P new)
