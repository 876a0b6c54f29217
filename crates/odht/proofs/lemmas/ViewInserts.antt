-- An insert into the bytes of a table that cannot grow: what it leaves of a plain table, and when it is an error.
use Rattle.std.proofs.Common.{◌≡◌, ◌∙◌, ◌+◌, ◌-◌, ℕ, sym, ap, refl, subst, arith, List, ◌∷◌, length, Option, Some, None, Result, Ok, Err, []}
use Rattle.std.specs.Prelude.{option_map, option_and_then, IfOk, OnErr, OnOk}
use Rattle.std.specs.Result.{result_map_both}
use Rattle.std.proofs.lemmas.Option.{none-some}
use Rattle.odht_raw.specs.Words.{Coding, controls_of, count, encoded, entries_of, Error, Format, Full, header_count, header_factor, header_slots, IsFormat, IsImage, IsPartsOf, map_of, max_items, slot_count, Table, value_at, value_for}
use Rattle.odht_base.specs.Insert.{insert_view, IsFullFor}
use Rattle.odht_base.proofs.lemmas.Fits.{IsSized-IsPlaced}
use Rattle.odht_base.proofs.lemmas.FreeSlots.{max_items-lt}
use Rattle.odht_base.proofs.lemmas.Image.{header_count-image, header_slots-image, header_factor-image, entries_of-image, controls_of-image}
use Rattle.odht_base.proofs.lemmas.Parts.{length-controls}
use Rattle.odht_base.proofs.lemmas.SlotCounts.{slots_pos}
use Rattle.odht_base.proofs.lemmas.TableInserts.{insert_view-IsInsert, insert_view-None}
use Rattle.odht_raw.specs.Frame.{EachCountsAsOccupied, IsAbsent, IsMissing, InsertFrame, IsFramed}
use Rattle.odht_raw.specs.Runs.{IsOnePlaced}
use Rattle.odht_raw.proofs.lemmas.Steps.{missing-absent, has_free_slot}
use Rattle.odht.specs.Inserts.{IsInserted}
use Rattle.odht.proofs.lemmas.FittingRuns.{run-fitting, insert_view-PlacesTaken}

-- ---- what the bytes of a valid table say of it
module _ (F : Format) (P : Table) (B : List ℕ) (is : IsImage F P B) where
  -- the count
  pub count_header : header_count B ≡ count P
  count_header = ap header_count is.bytes ∙ header_count-image F P (IsSized-IsPlaced F P is.valid.placed)

  -- the load factor
  pub factor_header : header_factor B ≡ P.factor
  factor_header = ap header_factor is.bytes ∙ header_factor-image F P is.valid.factor_high

  slots_header : header_slots B ≡ slot_count P
  slots_header = ap header_slots is.bytes ∙ header_slots-image F P (IsSized-IsPlaced F P is.valid.placed)

  -- the maximum that its slot count and load factor give
  max_header : max_items (header_slots B) (header_factor B) ≡ max_items (slot_count P) P.factor
  max_header = λ i. max_items (slots_header i) (factor_header i)

  -- and its parts
  pub parts_here : IsPartsOf F P (entries_of F B) (controls_of F B)
  parts_here =
      let sized = IsSized-IsPlaced F P is.valid.placed in
      record { placed = is.valid.placed; entries_are = ap (entries_of F) is.bytes ∙ entries_of-image F P sized; controls_are = ap (controls_of F) is.bytes ∙ controls_of-image F P sized }

  long : length (controls_of F B) ≡ slot_count P + 16
  long = ap length parts_here.controls_are ∙ length-controls F P.cells is.valid.placed.slots.least

  slots_read : length (controls_of F B) - 16 ≡ header_slots B
  slots_read = omega (arith, long, slots_header)

  -- a key that is absent by the bytes is not in the map
  absent_key : IsFormat F → (k : List ℕ) → IsAbsent F B k → map_of P k ≡ None
  absent_key f k absent =
      missing-absent F P (entries_of F B) (controls_of F B) f parts_here (slot_count P) long k
      (subst (λ n. IsMissing F (record { slots = n; bytes = entries_of F B }) (controls_of F B) k) (sym slots_read) absent)

  -- some slot counts as free
  free_here : IsFormat F → EachCountsAsOccupied (controls_of F B) (header_slots B) → ⊥
  free_here f none =
      let below = max_items-lt (slot_count P) P.factor (slots_pos (slot_count P) is.valid.placed.slots) is.valid.factor_high in
      has_free_slot F P (entries_of F B) (controls_of F B) f parts_here (slot_count P) long (omega (arith, below, is.valid.room))
      (subst (EachCountsAsOccupied (controls_of F B)) (sym slots_read) none)

-- ---- an insert that is accepted
-- the first of the inserts of one pair
first_of_one : (o : Option Table) (Q : Table) → option_and_then (λ R. Some R) o ≡ Some Q → o ≡ Some Q
first_of_one None Q e = e
first_of_one (Some R) Q e = e

-- leaves the bytes of the table after the insert
pub one_inserted : {K V : Type 0} (c : Coding K V) (P : Table) (B : List ℕ) (k : K) (v : V) (old : Option V) (B' : List ℕ) → IsImage c.format P B → IsOnePlaced c P k v old B'
    → IsInserted c.format (insert_view c.format) P (encoded c k v) B'
one_inserted c P B k v old B' is (former, placed) =
    let Q = placed.table in
    let inserted = first_of_one (insert_view c.format P (encoded c k v)) Q
    (run-fitting c.format (insert_view c.format) (insert_view-PlacesTaken c.format) P (encoded c k v ∷ []) Q is.valid placed.fits placed.placed placed.image.valid) in
    record { table = Q; inserted = inserted; image = placed.image; maps = (insert_view-IsInsert c.format).maps P Q (encoded c k v) is.valid inserted }

-- the same, whatever the result
pub if_inserted : {K V : Type 0} (c : Coding K V) (P : Table) (B : List ℕ) (k : K) (v : V) (r : Result (Option V) Error) (B' : List ℕ) → IsImage c.format P B → IfOk r (λ old. IsOnePlaced c P k v old B')
    → OnOk r (IsInserted c.format (insert_view c.format) P (encoded c k v) B')
if_inserted c P B k v (Ok old) B' is placed = one_inserted c P B k v old B' is placed
if_inserted c P B k v (Err e) B' is placed = tt

-- and it returns the former value
pub if_former : {K V : Type 0} (c : Coding K V) (P : Table) (k : K) (v : V) (r : Result (Option V) Error) (B' : List ℕ) → IfOk r (λ old. IsOnePlaced c P k v old B')
    → IfOk r (λ former. former ≡ value_for c P k)
if_former c P k v (Ok old) B' placed = placed.0
if_former c P k v (Err e) B' placed = tt

-- ---- an insert that fails
module _ {K V : Type 0} (c : Coding K V) (B : List ℕ) (k : K) (v : V) where
  -- the error is Full
  pub framed-only_full : (r : Result (Option V) Error) (B' : List ℕ) → IsFramed c B k v r B' → OnErr r (r ≡ Err Full)
  framed-only_full (Ok o) B' framed = tt
  framed-only_full (Err e) B' framed = go (Err e) refl B' framed.0 framed.1 framed.2
    where
      go : (r : Result (Option V) Error) → r ≡ Err e → (B' : List ℕ) (a : Result (Option (List ℕ)) Error) → r ≡ result_map_both (option_map c.value_of) (λ x. x) a → InsertFrame c.format B (encoded c k v) a B' → r ≡ Err Full
      go r err B' a is (InsertFrame.full most absent) = is
      go r err B' a is (InsertFrame.no_slot none absent) = is
      go r err B' a is (InsertFrame.overwrote i low key) = absurd (let both : Err e ≡ Ok (Some (c.value_of (value_at c.format B i))) = sym err ∙ is in cc)
      go r err B' a is (InsertFrame.added i low free room) = absurd (let both : Err e ≡ Ok None = sym err ∙ is in cc)

  -- and leaves the bytes
  pub framed-refused : (r : Result (Option V) Error) (B' : List ℕ) → IsFramed c B k v r B' → OnErr r (B' ≡ B)
  framed-refused (Ok o) B' framed = tt
  framed-refused (Err e) B' framed = go B' framed.0 framed.1 framed.2
    where
      go : (B' : List ℕ) (a : Result (Option (List ℕ)) Error) → Err e ≡ result_map_both (option_map c.value_of) (λ x. x) a → InsertFrame c.format B (encoded c k v) a B' → B' ≡ B
      go B' a is (InsertFrame.full most absent) = refl
      go B' a is (InsertFrame.no_slot none absent) = refl
      go B' a is (InsertFrame.overwrote i low key) = absurd (let both : Err e ≡ Ok (Some (c.value_of (value_at c.format B i))) = is in cc)
      go B' a is (InsertFrame.added i low free room) = absurd (let both : Err e ≡ Ok None = is in cc)

  module _ (f : IsFormat c.format) (P : Table) (is : IsImage c.format P B) where
    -- on the bytes of a valid table it is full for the key
    pub framed-full : (r : Result (Option V) Error) (B' : List ℕ) → r ≡ Err Full → IsFramed c B k v r B' → IsFullFor P (c.key_bytes k)
    framed-full r B' full framed = go B' framed.0 framed.1 framed.2
      where
        go : (B' : List ℕ) (a : Result (Option (List ℕ)) Error) → r ≡ result_map_both (option_map c.value_of) (λ x. x) a → InsertFrame c.format B (encoded c k v) a B' → IsFullFor P (c.key_bytes k)
        go B' a e (InsertFrame.full most absent) =
            (omega (arith, most, count_header c.format P B is, max_header c.format P B is, is.valid.room), absent_key c.format P B is f (c.key_bytes k) absent)
        go B' a e (InsertFrame.no_slot none absent) = absurd (free_here c.format P B is f none)
        go B' a e (InsertFrame.overwrote i low key) = absurd (let both : Err Full ≡ Ok (Some (c.value_of (value_at c.format B i))) = sym full ∙ e in cc)
        go B' a e (InsertFrame.added i low free room) = absurd (let both : Err Full ≡ Ok None = sym full ∙ e in cc)

    -- and where it is full for the key the insert fails
    pub full-framed : (r : Result (Option V) Error) (B' : List ℕ) → IfOk r (λ old. IsOnePlaced c P k v old B') → IsFramed c B k v r B' → IsFullFor P (c.key_bytes k) → r ≡ Err Full
    full-framed (Ok old) B' placed framed full =
        let inserted = (one_inserted c P B k v old B' is placed).inserted in
        absurd (none-some _ (sym ((insert_view-None c.format P (encoded c k v) is.valid).1 full) ∙ inserted))
    full-framed (Err e) B' placed framed full = framed-only_full (Err e) B' framed

-- a store that holds the bytes it had is as it was
pub held_same_bytes : {S : Type 0} (holding : S → List ℕ → S) (bytes : S → List ℕ) (held_same : (s : S) → holding s (bytes s) ≡ s) (s t : S) → t ≡ holding s (bytes t) → bytes t ≡ bytes s → t ≡ s
held_same_bytes holding bytes held_same s t same kept = same ∙ ap (holding s) kept ∙ held_same s
