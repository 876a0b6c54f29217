-- A walk over the slots, sixteen at a time, and what it gives of a table's bytes.
use Rattle.std.proofs.Common.{All, ◌≡◌, ℕ, zero, suc, ◌+◌, ◌-◌, ◌<◌, ◌≤◌, ◌∙◌, ◌++◌, Bool, true, false, min, inl, inr, sym, ap, subst, refl, arith, List, [], ◌∷◌, length, map, drop, slice_index, slice_get, Option, Some, None, nat_lt, lt-ltb, le-ltb, le-leb, ltb-true}
use Rattle.odht_raw.proofs.lemmas.Below.{All-filter, All-head, All-tail, cases_lt, decoded_table-image, drop-map, filter_map-append, filter_passes, get_or-range_with_len, length-range_with_len, lt-leb, none-some, occupied-positions, positions_of, same_Some, walk-IsPairOf}
use Rattle.std.specs.Prelude.{slice_index_or}
use native.Mathlib.Decide.{dec_lt}
use Rattle.std.specs.Prelude.{option_map}
use Rattle.std.specs.List.{filter_map, cons_option, range_with_len}
use Rattle.odht_raw.specs.Words.{Cells, controls_of, counts_as_free, decoded_cell, decoded_cells, decoded_pairs, decoded_table, entries_of, Format, format_of, IsFormat, IsImage, IsPairOf, IsPlaced, numbered, Pair, slot_key, slot_value, slots_from, Table, walk}
use Rattle.odht_base.specs.Groups.{occupied}
use Rattle.odht_raw.specs.Parts.{TableParts, entry_format}
use Rattle.odht_raw.specs.declared.raw_table.stored.Entry.{Entry}
use Rattle.odht_raw.specs.Walks.{Item, item, slot_item, slot_numbered, items_of, items_from, numbered_of, numbered_from, AreOccupied, decoded_items, decoded_numbered, stored}

-- ---- slots by groups
-- a list without a first item
pub list-none : (xs : List ℕ) → None ≡ slice_get xs 0 → xs ≡ []
list-none [] e = refl
list-none (y ∷ xs) e = absurd (none-some y e)

-- a list with a first item
pub list-first : (xs : List ℕ) (x : ℕ) → Some x ≡ slice_get xs 0 → xs ≡ x ∷ drop 1 xs
list-first [] x e = absurd (none-some x (sym e))
list-first (y ∷ xs) x e = ap (λ z. z ∷ xs) (sym (same_Some x y e))

-- a range in two parts
pub range-append : (a m n : ℕ) → range_with_len a (m + n) ≡ range_with_len a m ++ range_with_len (a + m) n
range-append a zero n = let e : a ≡ a + 0 = omega arith in let z : 0 + n ≡ n = omega arith in rw z (ap (λ b. range_with_len b n) e)
range-append a (suc m) n =
    let e : a + 1 + m ≡ a + suc m = omega arith in
    let z : suc m + n ≡ suc (m + n) = omega arith in
    rw z (ap (λ xs. a ∷ xs) (range-append (a + 1) m n ∙ ap (λ b. range_with_len (a + 1) m ++ range_with_len b n) e))

pub zero_add : (i : ℕ) → 0 + i ≡ i
zero_add i = omega arith

-- a range without its first numbers
pub drop-range : (m a n : ℕ) → drop m (range_with_len a n) ≡ range_with_len (a + m) (n - m)
drop-range zero a n = let start : a ≡ a + 0 = omega arith in let all : n ≡ n - 0 = omega arith in λ i. range_with_len (start i) (all i)
drop-range (suc m) a zero = let none : 0 - suc m ≡ 0 = omega arith in rw none refl
drop-range (suc m) a (suc n) =
    let next : a + 1 + m ≡ a + suc m = omega arith in
    let less : n - m ≡ suc n - suc m = omega arith in
    drop-range m (a + 1) n ∙ (λ i. range_with_len (next i) (less i))

-- positions that are counted from another start
positions-shift : (a i : ℕ) (bs : List Bool) → map (λ j. a + j) (positions_of i bs) ≡ positions_of (a + i) bs
positions-shift a i [] = refl
positions-shift a i (b ∷ bs) =
    let e : a + (i + 1) ≡ a + i + 1 = omega arith in
    go b (positions-shift a (i + 1) bs ∙ ap (λ n. positions_of n bs) e)
  where
    go : (x : Bool) → map (λ j. a + j) (positions_of (i + 1) bs) ≡ positions_of (a + i + 1) bs → map (λ j. a + j) (positions_of i (x ∷ bs)) ≡ positions_of (a + i) (x ∷ bs)
    go true r = ap (λ xs. (a + i) ∷ xs) r
    go false r = r

-- each position of an occupied byte is one of the list's, and occupied
pub occupied-All : (T : TableParts) (a : ℕ) (bs : List ℕ) → a + length bs ≤ T.entries.slots → ((k : ℕ) → k < length bs → slice_index T.control (a + k) ≡ slice_index bs k) → AreOccupied T a (occupied bs)
occupied-All T a bs fits are k d l =
    let within = All-filter (λ i. nat_lt (slice_index bs i) 128) (λ i. i < length bs) (range_with_len 0 (length bs)) (λ j e h. let n = length-range_with_len 0 (length bs) in let m : j < length bs = omega arith in subst (λ x. x < length bs) (sym (get_or-range_with_len 0 (length bs) j e m ∙ (let z : 0 + j ≡ j = omega arith in z))) m) k d l in
    let passes = filter_passes (λ i. nat_lt (slice_index bs i) 128) (range_with_len 0 (length bs)) k d l in
    let low = ltb-true (slice_index bs (slice_index_or (occupied bs) k d)) 128 passes in
    (omega (arith, within), ap counts_as_free (are _ within) ∙ lt-leb 128 (slice_index bs (slice_index_or (occupied bs) k d)) low)

module _ {K V : Type 0} (f : List ℕ → K) (g : List ℕ → V) (F : Format) (T : TableParts) where
  -- the items of slots whose control bytes are these are those of the occupied ones
  numbered_of-occupied : (a : ℕ) (bs : List ℕ) → ((k : ℕ) → k < length bs → slice_index T.control (a + k) ≡ slice_index bs k)
      → numbered_of f g F T (range_with_len a (length bs)) ≡ numbered_of f g F T (positions_of a (map (λ x. nat_lt x 128) bs))
  numbered_of-occupied a [] are = refl
  numbered_of-occupied a (x ∷ bs) are =
      let first : a ≡ a + 0 = omega arith in
      let here : slice_index T.control a ≡ x = ap (slice_index T.control) first ∙ are 0 (omega arith) in
      let rest = numbered_of-occupied (a + 1) bs (λ k l. let behind : a + 1 + k ≡ a + suc k = omega arith in ap (slice_index T.control) behind ∙ are (suc k) (omega arith)) in
      elim (dec_lt x 128) [
        | yes p ↦ rw (lt-ltb x 128 p) (ap (cons_option (slot_numbered f g F T a)) rest)
        | no p ↦
            let free : counts_as_free (slice_index T.control a) ≡ true = ap counts_as_free here ∙ le-leb 128 x (omega arith) in
            rw (le-ltb x 128 (omega arith), free) rest
      ]

  -- the items from a slot on are those of the occupied ones of the next n, and those behind these
  pub numbered_from-group : (a n : ℕ) (bs : List ℕ) → length bs ≡ n → a + n ≤ T.entries.slots → ((k : ℕ) → k < length bs → slice_index T.control (a + k) ≡ slice_index bs k)
      → numbered_from f g F T a ≡ numbered_of f g F T (map (λ i. a + i) (occupied bs)) ++ numbered_from f g F T (a + n)
  numbered_from-group a n bs len fits are =
      let split : T.entries.slots - a ≡ n + (T.entries.slots - (a + n)) = omega arith in
      let zero : a + 0 ≡ a = omega arith in
      let slots : map (λ i. a + i) (occupied bs) ≡ positions_of a (map (λ x. nat_lt x 128) bs) = ap (map (λ i. a + i)) (occupied-positions bs) ∙ positions-shift a 0 (map (λ x. nat_lt x 128) bs) ∙ ap (λ m. positions_of m (map (λ x. nat_lt x 128) bs)) zero in
      ap (λ m. numbered_of f g F T (range_with_len a m)) split
      ∙ ap (numbered_of f g F T) (range-append a n (T.entries.slots - (a + n)))
      ∙ filter_map-append (slot_numbered f g F T) (range_with_len a n) (range_with_len (a + n) (T.entries.slots - (a + n)))
      ∙ ap (λ xs. xs ++ numbered_from f g F T (a + n)) (sym (ap (λ m. numbered_of f g F T (range_with_len a m)) len) ∙ numbered_of-occupied a bs are ∙ ap (numbered_of f g F T) (sym slots))

  -- the items of numbered slots of which the first is occupied
  pub numbered_of-first : (i : ℕ) (is : List ℕ) (e : Entry K V) → counts_as_free (slice_index T.control i) ≡ false
      → e.key ≡ f (slot_key F T.entries.bytes i) → e.value ≡ g (slot_value F T.entries.bytes i)
      → numbered_of f g F T (i ∷ is) ≡ (i, (slice_index T.control i, e)) ∷ numbered_of f g F T is
  numbered_of-first i is e used key value =
      rw used (λ j. (i, (slice_index T.control i, record { key = sym key j; value = sym value j })) ∷ numbered_of f g F T is)

  -- the items of numbered slots
  items-numbered_of : (is : List ℕ) → map (λ (x : ℕ × Item K V). x.1) (numbered_of f g F T is) ≡ items_of f g F T is
  items-numbered_of [] = refl
  items-numbered_of (i ∷ is) = go (slot_item f g F T i) (items-numbered_of is)
    where
      go : (o : Option (Item K V)) → map (λ (x : ℕ × Item K V). x.1) (numbered_of f g F T is) ≡ items_of f g F T is
          → map (λ (x : ℕ × Item K V). x.1) (cons_option (option_map (λ x. (i, x)) o) (numbered_of f g F T is)) ≡ cons_option o (items_of f g F T is)
      go None e = e
      go (Some x) e = ap (λ xs. x ∷ xs) e

  pub items-numbered_from : (i : ℕ) → map (λ (x : ℕ × Item K V). x.1) (numbered_from f g F T i) ≡ items_from f g F T i
  items-numbered_from i = items-numbered_of (range_with_len i (T.entries.slots - i))

  -- past the last slot there is none
  pub numbered_from-min : (i : ℕ) → numbered_from f g F T (min i T.entries.slots) ≡ numbered_from f g F T i
  numbered_from-min i = elim (cases_lt T.entries.slots i) [
    | inl past ↦
        let last : min i T.entries.slots ≡ T.entries.slots = omega (arith, past) in
        let none : T.entries.slots - T.entries.slots ≡ 0 = omega arith in
        let none' : T.entries.slots - i ≡ 0 = omega (arith, past) in
        ap (numbered_from f g F T) last ∙ ap (λ m. numbered_of f g F T (range_with_len T.entries.slots m)) none ∙ sym (ap (λ m. numbered_of f g F T (range_with_len i m)) none')
    | inr within ↦ let same : min i T.entries.slots ≡ i = omega (arith, within) in ap (numbered_from f g F T) same
  ]

-- no more come than there are
length-filter_map : {X Y : Type 0} (h : X → Option Y) (xs : List X) → length (filter_map h xs) ≤ length xs
length-filter_map h [] = omega arith
length-filter_map h (x ∷ xs) = go (h x) (length-filter_map h xs)
  where
    go : (o : Option _) → length (filter_map h xs) ≤ length xs → length (cons_option o (filter_map h xs)) ≤ length (x ∷ xs)
    go None l = omega (arith, l)
    go (Some y) l = omega (arith, l)

-- no more items than slots
pub few-numbered : {K V : Type 0} (f : List ℕ → K) (g : List ℕ → V) (F : Format) (T : TableParts) (i : ℕ) → length (numbered_from f g F T i) ≤ T.entries.slots
few-numbered f g F T i = omega (arith, length-filter_map (slot_numbered f g F T) (range_with_len i (T.entries.slots - i)), length-range_with_len i (T.entries.slots - i))

module _ {EK EV K V : Type 0} (f : List ℕ → EK) (g : List ℕ → EV) (decode_key : EK → K) (decode_value : EV → V) where
  abbrev pair_of : Pair → K × V
  pair_of p = (decode_key (f p.key), decode_value (g p.value))

  -- the items of slots, decoded, are the pairs of these slots, decoded
  decoded_items-slots : (F : Format) (T : TableParts) (is : List ℕ)
      → decoded_items decode_key decode_value (filter_map (slot_item f g F T) is) ≡ map pair_of (filter_map (λ c. c) (map (decoded_cell F T.entries.bytes T.control) is))
  decoded_items-slots F T [] = refl
  decoded_items-slots F T (i ∷ is) = go (decoded_cell F T.entries.bytes T.control i) (decoded_items-slots F T is)
    where
      go : (c : Option Pair)
          → decoded_items decode_key decode_value (filter_map (slot_item f g F T) is) ≡ map pair_of (filter_map (λ c. c) (map (decoded_cell F T.entries.bytes T.control) is))
          → decoded_items decode_key decode_value (cons_option (option_map (item f g (slice_index T.control i)) c) (filter_map (slot_item f g F T) is))
          ≡ map pair_of (cons_option c (filter_map (λ c. c) (map (decoded_cell F T.entries.bytes T.control) is)))
      go None e = e
      go (Some p) e = ap (λ xs. pair_of p ∷ xs) e

  -- a walk over all slots, decoded, gives the pairs of the parts
  pub decoded_items-decoded_cells : (key_len value_len : ℕ) (hash : List ℕ → ℕ) (T : TableParts) → length T.control ≡ T.entries.slots + 16
      → decoded_items decode_key decode_value (items_from f g (entry_format key_len value_len) T 0)
      ≡ map pair_of (filter_map (λ c. c) (decoded_cells (format_of key_len value_len hash) T.entries.bytes T.control))
  unfolding decoded_cells
  decoded_items-decoded_cells key_len value_len hash T long =
      let slots : T.entries.slots - 0 ≡ length T.control - 16 = omega (arith, long) in
      decoded_items-slots (entry_format key_len value_len) T (range_with_len 0 (T.entries.slots - 0))
      ∙ ap (λ n. map pair_of (filter_map (λ c. c) (map (decoded_cell (entry_format key_len value_len) T.entries.bytes T.control) (range_with_len 0 n)))) slots

  -- numbered items, decoded, are the numbered pairs of the cells of the slots
  numbered-cells : (F : Format) (T : TableParts) (i n : ℕ)
      → decoded_numbered decode_key decode_value (filter_map (slot_numbered f g F T) (range_with_len i n))
      ≡ map (λ (x : ℕ × Pair). (x.0, pair_of x.1)) (numbered i (map (decoded_cell F T.entries.bytes T.control) (range_with_len i n)))
  numbered-cells F T i zero = refl
  numbered-cells F T i (suc n) = go (map (decoded_cell F T.entries.bytes T.control) (range_with_len (i + 1) n)) (decoded_cell F T.entries.bytes T.control i) (numbered-cells F T (i + 1) n)
    where
      go : (rest : Cells) (c : Option Pair)
          → decoded_numbered decode_key decode_value (filter_map (slot_numbered f g F T) (range_with_len (i + 1) n))
          ≡ map (λ (x : ℕ × Pair). (x.0, pair_of x.1)) (numbered (i + 1) rest)
          → decoded_numbered decode_key decode_value
          (cons_option (option_map (λ x. (i, x)) (option_map (item f g (slice_index T.control i)) c)) (filter_map (slot_numbered f g F T) (range_with_len (i + 1) n)))
          ≡ map (λ (x : ℕ × Pair). (x.0, pair_of x.1)) (numbered i (c ∷ rest))
      go rest None e = e
      go rest (Some p) e = ap (λ xs. (i, pair_of p) ∷ xs) e

  -- so a walk from a slot on, decoded, gives the pairs of the bytes from there on
  pub decoded_numbered-decoded_table : (key_len value_len : ℕ) (hash : List ℕ → ℕ) (T : TableParts) (B : List ℕ) (i : ℕ) → length T.control ≡ T.entries.slots + 16
      → T.entries.bytes ≡ entries_of (format_of key_len value_len hash) B → T.control ≡ controls_of (format_of key_len value_len hash) B
      → decoded_numbered decode_key decode_value (numbered_from f g (entry_format key_len value_len) T i)
      ≡ map (λ (x : ℕ × Pair). (x.0, pair_of x.1)) (slots_from (decoded_table (format_of key_len value_len hash) B) i)
  unfolding decoded_cells
  decoded_numbered-decoded_table key_len value_len hash T B i long entries control =
      let slots : T.entries.slots ≡ length T.control - 16 = omega (arith, long) in
      let cell = decoded_cell (entry_format key_len value_len) T.entries.bytes T.control in
      let here : map cell (range_with_len i (T.entries.slots - i)) ≡ drop i (map cell (range_with_len 0 (length T.control - 16))) =
      sym (ap (map cell) (drop-range i 0 T.entries.slots ∙ ap (λ a. range_with_len a (T.entries.slots - i)) (zero_add i)))
      ∙ sym (drop-map cell i (range_with_len 0 T.entries.slots)) ∙ ap (λ n. drop i (map cell (range_with_len 0 n))) slots in
      numbered-cells (entry_format key_len value_len) T i (T.entries.slots - i)
      ∙ ap (λ cs. map (λ (x : ℕ × Pair). (x.0, pair_of x.1)) (numbered i cs)) here
      ∙ (λ j. map (λ (x : ℕ × Pair). (x.0, pair_of x.1)) (numbered i (drop i (decoded_cells (format_of key_len value_len hash) (entries j) (control j)))))

-- the bytes of a valid table decode to its pairs
pub decoded_pairs-image : (F : Format) (P : Table) (B : List ℕ) → IsFormat F → IsImage F P B → decoded_pairs F B ≡ walk P
decoded_pairs-image F P B f is = ap (decoded_pairs F) is.bytes ∙ ap walk (decoded_table-image F P f is.valid)

-- and from each slot on those of its slots
pub slots-image : (F : Format) (P : Table) (B : List ℕ) (i : ℕ) → IsFormat F → IsImage F P B → slots_from (decoded_table F B) i ≡ slots_from P i
slots-image F P B i f is = ap (λ b. slots_from (decoded_table F b) i) is.bytes ∙ ap (λ T. slots_from T i) (decoded_table-image F P f is.valid)

-- ---- the items as pairs of bytes
module _ {EK EV : Type 0} (key_bytes : EK → List ℕ) (value_bytes : EV → List ℕ) where
  -- those of a walk over the parts of a table are its pairs
  module _ (f : List ℕ → EK) (g : List ℕ → EV) (key_len value_len : ℕ) (hash : List ℕ → ℕ) (key_kept : (b : List ℕ) → length b ≡ key_len → key_bytes (f b) ≡ b) (value_kept : (b : List ℕ) → length b ≡ value_len → value_bytes (g b) ≡ b) where
    stored-item : (i : ℕ) (p : Pair) → IsPairOf (format_of key_len value_len hash) p → stored key_bytes value_bytes (item f g i p) ≡ p
    stored-item i p is = λ j. record { key = key_kept p.key is.key.len j; value = value_kept p.value is.value.len j }

    stored-slots : (F : Format) (T : TableParts) (is : List ℕ) → All (IsPairOf (format_of key_len value_len hash)) (filter_map (λ c. c) (map (decoded_cell F T.entries.bytes T.control) is))
        → map (stored key_bytes value_bytes) (filter_map (slot_item f g F T) is) ≡ filter_map (λ c. c) (map (decoded_cell F T.entries.bytes T.control) is)
    stored-slots F T [] fit = refl
    stored-slots F T (i ∷ is) fit = go (decoded_cell F T.entries.bytes T.control i) (stored-slots F T is) fit
      where
        go : (c : Option Pair)
            → (All (IsPairOf (format_of key_len value_len hash)) (filter_map (λ c. c) (map (decoded_cell F T.entries.bytes T.control) is)) → map (stored key_bytes value_bytes) (filter_map (slot_item f g F T) is) ≡ filter_map (λ c. c) (map (decoded_cell F T.entries.bytes T.control) is))
            → All (IsPairOf (format_of key_len value_len hash)) (cons_option c (filter_map (λ c. c) (map (decoded_cell F T.entries.bytes T.control) is)))
            → map (stored key_bytes value_bytes) (cons_option (option_map (item f g (slice_index T.control i)) c) (filter_map (slot_item f g F T) is))
            ≡ cons_option c (filter_map (λ c. c) (map (decoded_cell F T.entries.bytes T.control) is))
        go None rest h = rest h
        go (Some p) rest h = λ j. stored-item (slice_index T.control i) p (All-head (IsPairOf (format_of key_len value_len hash)) p _ h) j ∷ rest (All-tail (IsPairOf (format_of key_len value_len hash)) p _ h) j

    pub stored-walk : (P : Table) (T : TableParts) → IsPlaced (format_of key_len value_len hash) P → length T.control ≡ T.entries.slots + 16
        → filter_map (λ c. c) (decoded_cells (format_of key_len value_len hash) T.entries.bytes T.control) ≡ walk P
        → map (stored key_bytes value_bytes) (items_from f g (entry_format key_len value_len) T 0) ≡ walk P
    unfolding decoded_cells
    stored-walk P T ok long decoded_table =
        let F = format_of key_len value_len hash in
        let slots : T.entries.slots - 0 ≡ length T.control - 16 = omega (arith, long) in
        let same : filter_map (λ c. c) (map (decoded_cell (entry_format key_len value_len) T.entries.bytes T.control) (range_with_len 0 (T.entries.slots - 0))) ≡ walk P =
        ap (λ n. filter_map (λ c. c) (map (decoded_cell (entry_format key_len value_len) T.entries.bytes T.control) (range_with_len 0 n))) slots ∙ decoded_table in
        stored-slots (entry_format key_len value_len) T (range_with_len 0 (T.entries.slots - 0)) (subst (All (IsPairOf F)) (sym same) (walk-IsPairOf F P ok)) ∙ same
