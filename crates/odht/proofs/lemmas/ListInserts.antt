-- Inserts in turn: one more pair.
use Rattle.std.proofs.Common.{◌≡◌, ◌<◌, ◌≤◌, ◌+◌, ◌∙◌, ◌++◌, ℕ, Bool, true, false, cond, sym, ap, refl, List, ◌∷◌, Option, Some, None, Err, subst, take, length, bytes_eq, get_or, arith, length-append, []}
use Rattle.std.proofs.lemmas.List.{take_all, take_more, map-append, length-map}
use Rattle.std.specs.Prelude.{option_and_then}
use Rattle.std.specs.Option.{option_or}
use Rattle.std.specs.List.{slice_range}
use Rattle.odht_raw.specs.Words.{Coding, count, encoded, factor_of, Format, Full, IsFormat, IsImage, IsValid, map_of, max_items, Pair, place, slot_count, Table}
use Rattle.odht_base.specs.Insert.{run, insert_owned}
use Rattle.odht_base.specs.Map.{last, overwritten}
use Rattle.odht_base.specs.Table.{fresh}
use Rattle.odht_base.proofs.lemmas.FreshRuns.{PlacesBelow}
use Rattle.odht_base.proofs.lemmas.Grown.{slot_count-place_all}
use Rattle.odht_base.proofs.lemmas.Places.{slot_count-place, factor-place, count-place_le}
use Rattle.odht_base.proofs.lemmas.FreeSlots.{fresh-slots, slot_count-empty, count-empty, max_items-holds}
use Rattle.odht_base.proofs.lemmas.InsertRuns.{IsInsert, run-append, run-push, last-append, last-cons, map_of-run, factor-run, count-run}
use Rattle.odht_raw.specs.Runs.{IsAllPlaced}
use Rattle.odht_raw.proofs.lemmas.PartRuns.{take-range}
use Rattle.odht.proofs.lemmas.FittingRuns.{PlacesTaken, run-fitting}
use Rattle.odht.proofs.lemmas.ViewInserts.{framed-full}
use Rattle.odht.specs.Lists.{encoded_all, HasSizeOf, IsAfterInserts, IsFreshAfterInserts, IsRefusedAt, IsStoppedAt}

-- no pairs leave the table as it is
pub inserted_none : (F : Format) (insert : Table → Pair → Option Table) (P : Table) (B : List ℕ) → IsImage F P B → IsAfterInserts F insert P [] B
inserted_none F insert P B is = record { table = P; runs = refl; image = is; maps = λ k. refl; stays = λ room. ((refl, refl), omega arith) }

module _ (F : Format) (insert : Table → Pair → Option Table) (is : IsInsert F (IsValid F) insert) (places : PlacesBelow F insert) (P : Table) where
  -- one more gives its key this value
  pub inserted_more : (ps : List Pair) (p : Pair) (B C : List ℕ) (h : IsAfterInserts F insert P ps B) (Q : Table) → insert h.table p ≡ Some Q → IsImage F Q C → IsAfterInserts F insert P (ps ++ p ∷ []) C
  inserted_more ps p B C h Q e image = record {
    table = Q;
    runs = run-push insert P ps p ∙ ap (option_and_then (λ R. insert R p)) h.runs ∙ e;
    image = image;
    maps = λ k. is.maps h.table Q p h.image.valid e k ∙ go k (bytes_eq k p.key) refl;
    stays = stays;
  }
    where
      long : length (ps ++ p ∷ []) ≡ length ps + 1
      long = length-append ps (p ∷ [])

      stays : count P + length (ps ++ p ∷ []) ≤ max_items (slot_count P) P.factor → HasSizeOf P Q × (count Q ≤ count P + length (ps ++ p ∷ []))
      stays room =
          let so_far = h.stays (omega (arith, room, long)) in
          let max_is : max_items (slot_count h.table) h.table.factor ≡ max_items (slot_count P) P.factor = λ i. max_items (so_far.0.0 i) (so_far.0.1 i) in
          let placed : place F h.table p ≡ Some Q = sym (places h.table p h.image.valid (omega (arith, so_far.1, room, long, max_is))) ∙ e in
          let valid = h.image.valid.placed in
          let few = count-place_le F h.table Q p valid placed in
          ((slot_count-place F h.table Q p valid placed ∙ so_far.0.0, factor-place F h.table Q p valid placed ∙ so_far.0.1), omega (arith, few, so_far.1, long))

      -- the last value of a key, by whether it is the last pair's
      latest : (k : List ℕ) (b : Bool) → bytes_eq k p.key ≡ b → last (ps ++ p ∷ []) k ≡ option_or (cond b (Some p.value) None) (last ps k)
      latest k b t = last-append ps (p ∷ []) k ∙ ap (λ o. option_or o (last ps k)) (last-cons p [] k ∙ ap (λ c. cond c (Some p.value) None) t)

      go : (k : List ℕ) (b : Bool) → bytes_eq k p.key ≡ b → cond b (Some p.value) (map_of h.table k) ≡ overwritten (map_of P) (last (ps ++ p ∷ [])) k
      go k true t = sym (ap (λ o. option_or o (map_of P k)) (latest k true t))
      go k false t = h.maps k ∙ sym (ap (λ o. option_or o (map_of P k)) (latest k false t))

  -- pairs that are placed give their keys these values
  pub inserted_placed : (taken : PlacesTaken F insert) (ps qs : List Pair) (B C : List ℕ) (h : IsAfterInserts F insert P ps B) → IsAllPlaced F h.table qs C → IsAfterInserts F insert P (ps ++ qs) C
  inserted_placed taken ps qs B C h more = record {
    table = more.table;
    runs = run-append insert P ps qs ∙ ap (option_and_then (λ R. run insert R qs)) h.runs ∙ runs;
    image = more.image;
    maps = λ k. map_of-run F (IsValid F) insert is h.table more.table qs ok more.fits runs k ∙ over k (last qs k) refl;
    stays = stays;
  }
    where
      ok : IsValid F h.table
      ok = h.image.valid

      runs : run insert h.table qs ≡ Some more.table
      runs = run-fitting F insert taken h.table qs more.table ok more.fits more.placed more.image.valid

      -- the last value of a key, by whether it is among the later pairs
      over : (k : List ℕ) (o : Option (List ℕ)) → last qs k ≡ o → option_or (last qs k) (map_of h.table k) ≡ overwritten (map_of P) (last (ps ++ qs)) k
      over k (Some v) e = ap (λ l. option_or l (map_of h.table k)) e ∙ sym (ap (λ l. option_or l (map_of P k)) (last-append ps qs k ∙ ap (λ l. option_or l (last ps k)) e))
      over k None e = ap (λ l. option_or l (map_of h.table k)) e ∙ h.maps k ∙ sym (ap (λ l. option_or l (map_of P k)) (last-append ps qs k ∙ ap (λ l. option_or l (last ps k)) e))

      stays : count P + length (ps ++ qs) ≤ max_items (slot_count P) P.factor → HasSizeOf P more.table × (count more.table ≤ count P + length (ps ++ qs))
      stays room =
          let long = length-append ps qs in
          let so_far = h.stays (omega (arith, room, long)) in
          let few = count-run F (IsValid F) insert is h.table more.table qs ok more.fits runs in (
            (slot_count-place_all F h.table more.table qs ok.placed more.fits more.placed ∙ so_far.0.0, factor-run F (IsValid F) insert is h.table more.table qs ok more.fits runs ∙ so_far.0.1),
            omega (arith, few, so_far.1, long),
          )

-- the first items of a list and the items after them as pairs
pub encoded_all-range : {K V : Type 0} (c : Coding K V) (items : List (K × V)) (a b : ℕ) → a ≤ b → encoded_all c (take a items) ++ encoded_all c (slice_range items a b) ≡ encoded_all c (take b items)
encoded_all-range {K = K} {V = V} c items a b within = sym (map-append (λ (t : K × V). encoded c t.0 t.1) (take a items) (slice_range items a b)) ∙ ap (encoded_all c) (take-range items a b within)

-- the first n + 1 items are the first n, and item n
pub encoded_all-more : {K V : Type 0} (c : Coding K V) (items : List (K × V)) (n : ℕ) (item : K × V) → n < length items → get_or items n item ≡ item
    → encoded_all c (take (n + 1) items) ≡ encoded_all c (take n items) ++ encoded c item.0 item.1 ∷ []
encoded_all-more {K = K} {V = V} c items n item low at =
    ap (encoded_all c) (take_more items n item low ∙ ap (λ t. take n items ++ t ∷ []) at) ∙ map-append (λ (t : K × V). encoded c t.0 t.1) (take n items) (item ∷ [])

-- the item whose insert failed: the table is full for its key
pub refused_here : {K V : Type 0} (c : Coding K V) → IsFormat c.format → (P : Table) (items : List (K × V)) (n : ℕ) (B : List ℕ) → IsImage c.format P B → IsStoppedAt c items n B → IsRefusedAt c P items n
refused_here c fits P items n B is stopped = record { item = stopped.item; at = stopped.at; full = framed-full c B stopped.item.0 stopped.item.1 fits P is (Err Full) B refl stopped.framed }

-- once each item is accepted, all are
pub inserted_all : {K V : Type 0} (c : Coding K V) (insert : Table → Pair → Option Table) (P : Table) (items : List (K × V)) (n : ℕ) (B : List ℕ) → length items ≤ n
    → IsAfterInserts c.format insert P (encoded_all c (take n items)) B → IsAfterInserts c.format insert P (encoded_all c items) B
inserted_all {K = K} {V = V} c insert P items n B all inserted = subst (λ (xs : List (K × V)). IsAfterInserts c.format insert P (encoded_all c xs) B) (take_all n items all) inserted

-- the fresh table for as many items as are inserted into it never grows
pub fresh_inserted : {K V : Type 0} (c : Coding K V) (percent : ℕ) (items : List (K × V)) (B : List ℕ) (P : Table) → fresh (length items) percent ≡ Some P
    → IsAfterInserts c.format (insert_owned c.format) P (encoded_all c items) B → IsFreshAfterInserts c percent items B
fresh_inserted {K = K} {V = V} c percent items B P new inserted =
    let s = fresh-slots (length items) percent P new in
    let long : length (encoded_all c items) ≡ length items = length-map items (λ (t : K × V). encoded c t.0 t.1) in
    let holds = max_items-holds (length items) s.0 (factor_of percent) s.1.holds in
    let empty : count P ≡ 0 = ap count (sym s.2) ∙ count-empty s.0 (factor_of percent) in
    let slots : slot_count P ≡ s.0 = ap slot_count (sym s.2) ∙ slot_count-empty s.0 (factor_of percent) in
    let factor : P.factor ≡ factor_of percent = ap (λ (Q : Table). Q.factor) (sym s.2) in
    let most : max_items (slot_count P) P.factor ≡ max_items s.0 (factor_of percent) = λ i. max_items (slots i) (factor i) in
    record { start = P; new = new; inserted = inserted; never_grown = (inserted.stays (omega (arith, long, holds, empty, most))).0 }
