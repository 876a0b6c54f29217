-- Inserts of items that are bytes, as inserts of the items of a configuration.
use Rattle.std.proofs.Common.{◌≡◌, ◌∙◌, ◌-◌, ℕ, inl, inr, sym, ap, subst, refl, arith, length, List, [], ◌∷◌, ◌++◌, map, drop, take, Option, Some, None, Ok, Err, slice_get}
use Rattle.std.specs.Prelude.{option_map, ⊤}
use Rattle.std.specs.List.{slice_range}
use Rattle.odht_raw.proofs.lemmas.Below.{drop-map, length-map, slice_get-map, take-map}
use Rattle.odht_raw.specs.Words.{Coding, encoded, Error, Full, Pair}
use Rattle.odht_raw.specs.DynParts.{bytes_coding}
use Rattle.odht_raw.specs.Frame.{IsFramed}
use Rattle.odht_raw.specs.Runs.{encoded_all, IsFramedRun, IsAllPlaced, IsStoppedAt, IsListRun, IsEncodedRun}
use Rattle.odht_raw.proofs.lemmas.Formers.{decoded_ok, decoded_err}

-- a list that is mapped, and its last item
mapped_last : {X Y : Type 0} (f : X → Y) (zs : List Y) (z : Y) (ys : List X) → zs ++ z ∷ [] ≡ map f ys → (xs : List X) × (x : X) × (ys ≡ xs ++ x ∷ []) × (zs ≡ map f xs) × (z ≡ f x)
mapped_last f [] z [] e = absurd cc
mapped_last f [] z (y ∷ []) e = ([], y, refl, refl, cc)
mapped_last f [] z (y ∷ x ∷ ys) e = absurd cc
mapped_last f (w ∷ zs) z [] e = absurd cc
mapped_last f (w ∷ zs) z (y ∷ ys) e =
    let rest : zs ++ z ∷ [] ≡ map f ys = cc in
    let first : w ≡ f y = cc in
    let t = mapped_last f zs z ys rest in
    (y ∷ t.0, t.1, ap (λ xs. y ∷ xs) t.2, (λ i. first i ∷ t.3 i), t.4)

module _ {K V : Type 0} (c : Coding K V) where
  abbrev F : Coding (List ℕ) (List ℕ)
  F = bytes_coding c.format

  -- the bytes of an item
  abbrev bytes_of : K × V → List ℕ × List ℕ
  bytes_of item = (c.key_bytes item.0, c.value_bytes item.1)

  -- the pairs of the bytes are those of the items
  pairs_are : (items : List (K × V)) → encoded_all F (map bytes_of items) ≡ encoded_all c items
  pairs_are [] = refl
  pairs_are (item ∷ items) = ap (λ ps. encoded c item.0 item.1 ∷ ps) (pairs_are items)

  range_is : (items : List (K × V)) (a b : ℕ) → slice_range (map bytes_of items) a b ≡ map bytes_of (slice_range items a b)
  range_is items a b = ap (take (b - a)) (drop-map bytes_of a items) ∙ take-map bytes_of (b - a) (drop a items)

  -- an insert of the bytes of an item
  framed_ok : (B B' : List ℕ) (item : K × V) (o : Option (List ℕ)) → IsFramed F B (bytes_of item).0 (bytes_of item).1 (Ok o) B' → IsFramed c B item.0 item.1 (Ok (option_map c.value_of o)) B'
  framed_ok B B' item o h = (h.0, decoded_ok c.value_of o h.0 h.1, h.2)

  framed_err : (B B' : List ℕ) (item : K × V) (e : Error) → IsFramed F B (bytes_of item).0 (bytes_of item).1 (Err e) B' → IsFramed c B item.0 item.1 (Err e) B'
  framed_err B B' item e h = (h.0, decoded_err c.value_of e h.0 h.1, h.2)

  -- and inserts in turn
  framed_run : (B zs B' : _) → IsFramedRun F B zs B' → (ys : List (K × V)) → zs ≡ map bytes_of ys → IsFramedRun c B ys B'
  framed_run B zs B' (IsFramedRun.start) [] e = IsFramedRun.start
  framed_run B zs B' (IsFramedRun.start) (y ∷ ys) e = absurd cc
  framed_run B zs B' (IsFramedRun.accepted items k v o C D run framed) ys e =
      let t = mapped_last bytes_of items (k, v) ys e in
      let item : K × V = t.1 in
      let here : IsFramed F C (bytes_of item).0 (bytes_of item).1 (Ok o) D = subst (λ (x : List ℕ × List ℕ). IsFramed F C x.0 x.1 (Ok o) D) t.4 framed in
      subst (λ (xs : List (K × V)). IsFramedRun c B xs D) (sym t.2)
      (IsFramedRun.accepted t.0 item.0 item.1 (option_map c.value_of o) C D (framed_run B items C run t.0 t.3) (framed_ok C D item o here))

  -- an item that stops them
  stopped_at : (items : List (K × V)) (i : ℕ) (B : List ℕ) → IsStoppedAt F (map bytes_of items) i B → IsStoppedAt c items i B
  stopped_at items i B h = go (slice_get items i) refl (sym h.at ∙ slice_get-map bytes_of items i)
    where
      go : (o : Option (K × V)) → slice_get items i ≡ o → Some h.item ≡ option_map bytes_of (slice_get items i) → IsStoppedAt c items i B
      go None is e = absurd (let both : Some h.item ≡ None = e ∙ ap (option_map bytes_of) is in cc)
      go (Some item) is e =
          let same : h.item ≡ bytes_of item = (let both : Some h.item ≡ Some (bytes_of item) = e ∙ ap (option_map bytes_of) is in cc) in
          record { item = item; at = is; framed = framed_err B B item Full (subst (λ (x : List ℕ × List ℕ). IsFramed F B x.0 x.1 (Err Full) B) same h.framed) }

  -- a list of items, each of which fits
  pub list_run : (B : List ℕ) (items : List (K × V)) (from i : ℕ) (B' : List ℕ) → IsEncodedRun (λ _. ⊤) F B (map bytes_of items) from i B' → IsListRun c B items from i B'
  list_run B items from i B' h =
      let range = range_is items from i in
      let pairs : encoded_all F (slice_range (map bytes_of items) from i) ≡ encoded_all c (slice_range items from i) = ap (encoded_all F) range ∙ pairs_are (slice_range items from i) in
      let long : length (map bytes_of items) ≡ length items = length-map items bytes_of in
      record {
        after = h.after;
        within = omega (arith, h.within, long);
        placed = λ P is. subst (λ (ps : List Pair). IsAllPlaced c.format P ps B') pairs (h.placed P is);
        framed = framed_run B _ B' h.framed (slice_range items from i) range;
        stopped = elim h.stopped [
          | inl e ↦ inl (e ∙ long)
          | inr (inl other) ↦ absurd (other tt)
          | inr (inr stopped) ↦ inr (stopped_at items i B' stopped)
        ];
      }
