-- A header, entries and control bytes joined, and what they are once items were inserted in turn into the parts.
--     joined H n es ctrl   the bytes of the header H with the item count n, the entries es and the control bytes ctrl
use Rattle.std.proofs.Common.{◌≡◌, ◌<◌, ◌≤◌, ◌+◌, ◌-◌, ◌*◌, ◌^◌, ◌∙◌, ◌++◌, ℕ, sym, ap, subst, refl, List, [], ◌∷◌, Option, Some, None, Result, Ok, Err, take, drop, set, length, All, Bool, true, false, cond, ltb, arith, lit≤, length-drop, append_assoc, length-append, take_at, drop_at, length-set}
use Rattle.std.specs.Prelude.{option_map}
use Rattle.odht_raw.proofs.lemmas.Below.{All-bytes_at, bytes_at-between, bytes_at-drop, bytes_at-take_front, drop-append-le, drop-overwritten_at, factor-run, le_bytes-num_at, length-bytes_at, length-overwritten_at, num-le_bytes, place-IsInsert, slot_count-place_all, slot_within, take-append-le, take-overwritten_at, with_count-append, with_pair-append, with_value-append}
use Rattle.odht_raw.specs.Words.{bytes_at, Coding, controls_of, count, encoded, entries_of, entry_len, Error, Format, header_bytes, header_count, header_factor, header_slots, image, IsPairOf, IsPlaced, IsValid, le_bytes, max_items, num, overwritten_at, Pair, place, slot_count, slot_key, slot_value, Table, tag, tagged, with_count, with_pair, with_value}
use Rattle.odht_raw.specs.Frame.{IsAccepted, header_maximum, InsertFrame, PartsFrame, IsAbsent, EachCountsAsOccupied, CountsAsFree, IsMissing}
use Rattle.odht_raw.specs.Parts.{stored_in}
use Rattle.odht_raw.specs.Steps.{StepFrame}
use Rattle.odht_raw.specs.Runs.{IsFramedRun, IsPartsRun, ArePartsOfRun, IsAllPlaced, count_after}
use Rattle.odht_raw.proofs.lemmas.NewTables.{bytes_at-overwritten_at, overwritten_at-same}
use Rattle.odht_raw.proofs.lemmas.Accepted.{opening_refusal-same}

abbrev pub joined : List ℕ → ℕ → List ℕ → List ℕ → List ℕ
joined H n es ctrl = with_count H n ++ (es ++ ctrl)

-- ---- what the header says
module _ (H : List ℕ) (n : ℕ) (es ctrl : List ℕ) (h : length H ≡ 32) where
  -- its length stays
  pub length-with_count : length (with_count H n) ≡ 32
  length-with_count = length-overwritten_at H 8 (le_bytes 8 n) (omega (arith, h)) ∙ h

  -- a field of it is read in its own bytes
  in_header : (at m : ℕ) → at + m ≤ 32 → bytes_at (joined H n es ctrl) at m ≡ bytes_at (with_count H n) at m
  in_header at m fits = sym (bytes_at-take_front (joined H n es ctrl) at m 32 fits) ∙ ap (λ t. bytes_at t at m) (take_at (with_count H n) (es ++ ctrl) 32 length-with_count)

  -- a field behind the item count is that of H
  behind_count : (at m k : ℕ) → at + m ≤ 32 → 16 + k ≡ at → bytes_at (joined H n es ctrl) at m ≡ bytes_at H at m
  behind_count at m k fits e =
      in_header at m fits ∙ sym (bytes_at-drop (with_count H n) 16 k m at e)
      ∙ ap (λ t. bytes_at t k m) (drop-overwritten_at H 8 16 (le_bytes 8 n) (lit≤ tt) (omega (arith, h))) ∙ bytes_at-drop H 16 k m at e

  pub joined-slots : header_slots (joined H n es ctrl) ≡ header_slots H
  joined-slots = ap num (behind_count 16 8 0 (lit≤ tt) refl)

  pub joined-factor : header_factor (joined H n es ctrl) ≡ header_factor H
  joined-factor = ap num (behind_count 28 2 12 (lit≤ tt) refl)

  pub joined-count : n < 2 ^ 64 → header_count (joined H n es ctrl) ≡ n
  joined-count small =
      ap num (in_header 8 8 (lit≤ tt) ∙ bytes_at-overwritten_at H 8 8 (le_bytes 8 n) (omega (arith, h)) refl) ∙ num-le_bytes 8 n small

  pub joined-maximum : header_maximum (joined H n es ctrl) ≡ header_maximum H
  joined-maximum = λ i. max_items (joined-slots i) (joined-factor i)

-- ---- its parts
module _ (F : Format) (H : List ℕ) (n : ℕ) (es ctrl : List ℕ) (h : length H ≡ 32) (long : length es ≡ header_slots H * entry_len F) where
  pub joined-entries : entries_of F (joined H n es ctrl) ≡ es
  joined-entries =
      ap (λ s. bytes_at (joined H n es ctrl) 32 (s * entry_len F)) (joined-slots H n es ctrl h)
      ∙ bytes_at-between (with_count H n) es ctrl 32 (header_slots H * entry_len F) (length-with_count H n es ctrl h) long

  pub joined-controls : controls_of F (joined H n es ctrl) ≡ ctrl
  joined-controls =
      let front : length (with_count H n ++ es) ≡ 32 + header_slots H * entry_len F = length-append (with_count H n) es ∙ omega (arith, length-with_count H n es ctrl h, long) in
      ap (λ s. drop (32 + s * entry_len F) (joined H n es ctrl)) (joined-slots H n es ctrl h)
      ∙ ap (drop (32 + header_slots H * entry_len F)) (sym (append_assoc (with_count H n) es ctrl))
      ∙ drop_at (with_count H n ++ es) ctrl (32 + header_slots H * entry_len F) front

-- a count over a count
with_count-twice : (H : List ℕ) (n m : ℕ) → length H ≡ 32 → with_count (with_count H n) m ≡ with_count H m
with_count-twice H n m h =
    (λ i. take-overwritten_at H 8 8 (le_bytes 8 n) (lit≤ tt) (omega (arith, h)) i ++ le_bytes 8 m ++ drop-overwritten_at H 8 16 (le_bytes 8 n) (lit≤ tt) (omega (arith, h)) i)

-- ---- one insert
module _ (F : Format) (H : List ℕ) (h : length H ≡ 32) (small : header_maximum H < 2 ^ 64) where
  -- a key that is missing in the parts is absent in the joined bytes
  absent_joined : (k : List ℕ) (n : ℕ) (es ctrl : List ℕ) → length es ≡ header_slots H * entry_len F → length ctrl ≡ header_slots H + 16
      → IsMissing F (stored_in es ctrl) ctrl k → IsAbsent F (joined H n es ctrl) k
  absent_joined k n es ctrl long mirrored missing =
      let slots = joined-slots H n es ctrl h in
      let same : length ctrl - 16 ≡ header_slots (joined H n es ctrl) = omega (arith, mirrored, slots) in
      let controls = joined-controls F H n es ctrl h long in
      let entry = joined-entries F H n es ctrl h long in
      subst (λ (x : (ℕ × List ℕ) × List ℕ). IsMissing F (record { slots = x.0.0; bytes = x.0.1 }) x.1 k) (λ j. ((same j, sym entry j), sym controls j)) missing

  -- what an insert into the parts may do, it does to the joined bytes
  pub frame_joined : (p : Pair) (n : ℕ) (es ctrl : List ℕ) (a : Result (Option (List ℕ)) Error) (es' ctrl' : List ℕ)
      → ((o : Option (List ℕ)) → a ≡ Ok o → IsPairOf F p) → (a ≡ Ok None → n < header_maximum H) → length es ≡ header_slots H * entry_len F → length ctrl ≡ header_slots H + 16
      → PartsFrame F es ctrl p a es' ctrl' → InsertFrame F (joined H n es ctrl) p a (joined H (count_after n a) es' ctrl')
  frame_joined p n es ctrl a es' ctrl' fits room long mirrored (PartsFrame.no_slot none missing) =
      let slots = joined-slots H n es ctrl h in
      let same : length ctrl - 16 ≡ header_slots (joined H n es ctrl) = omega (arith, mirrored, slots) in
      let controls = joined-controls F H n es ctrl h long in
      InsertFrame.no_slot (subst (λ c. EachCountsAsOccupied c (header_slots (joined H n es ctrl))) (sym controls) (subst (EachCountsAsOccupied ctrl) same none)) (absent_joined p.key n es ctrl long mirrored missing)
  frame_joined p n es ctrl a es' ctrl' fits room long mirrored (PartsFrame.overwrote i low key) =
      let B = joined H n es ctrl in
      let pair = fits (Some (slot_value F es i)) refl in
      let slots = joined-slots H n es ctrl h in
      let entry = joined-entries F H n es ctrl h long in
      let within : i < header_slots H = omega (arith, low, mirrored) in
      let value : slot_value F (entries_of F B) i ≡ slot_value F es i = ap (λ e. slot_value F e i) entry in
      let written : with_value F B i p.value ≡ joined H n (overwritten_at es (i * entry_len F + F.key_len) p.value) ctrl =
      with_value-append F (header_slots H) (with_count H n) es ctrl i p.value (length-with_count H n es ctrl h) long within pair.value.len in
      subst (λ (x : List ℕ × List ℕ). InsertFrame F B p (Ok (Some x.0)) x.1) (λ j. (value j, written j))
      (InsertFrame.overwrote i (omega (arith, within, slots)) (ap (λ e. slot_key F e i) entry ∙ key))
  frame_joined p n es ctrl a es' ctrl' fits room long mirrored (PartsFrame.added i low free) =
      let B = joined H n es ctrl in
      let pair = fits None refl in
      let slots = joined-slots H n es ctrl h in
      let low_count = room refl in
      let counted = joined-count H n es ctrl h (omega (arith, low_count, small)) in
      let within : i < header_slots H = omega (arith, low, mirrored) in
      let d = overwritten_at es (i * entry_len F) (p.key ++ p.value) ++ tagged ctrl i (tag F p.key) in
      let written : with_count (with_pair F (header_slots B) B i p) (header_count B + 1) ≡ with_count H (n + 1) ++ d =
      (λ j. with_count (with_pair F (slots j) B i p) (counted j + 1))
      ∙ ap (λ t. with_count t (n + 1)) (with_pair-append F (header_slots H) (with_count H n) es ctrl i p (length-with_count H n es ctrl h) long mirrored within pair.key.len pair.value.len)
      ∙ with_count-append (with_count H n) d (n + 1) (omega (arith, length-with_count H n es ctrl h))
      ∙ ap (λ t. t ++ d) (with_count-twice H n (n + 1) h) in
      let most = joined-maximum H n es ctrl h in
      subst (InsertFrame F B p (Ok None)) written
      (InsertFrame.added i (omega (arith, within, slots)) (subst (λ c. CountsAsFree c i) (sym (joined-controls F H n es ctrl h long)) free) (omega (arith, low_count, counted, most)))

  -- and so does an insert with as much room as the header has
  pub step_joined : (p : Pair) (n : ℕ) (es ctrl : List ℕ) (a : Result (Option (List ℕ)) Error) (es' ctrl' : List ℕ)
      → ((o : Option (List ℕ)) → a ≡ Ok o → IsPairOf F p) → n < 2 ^ 64 → length es ≡ header_slots H * entry_len F → length ctrl ≡ header_slots H + 16
      → StepFrame F (header_maximum H - n) es ctrl p a es' ctrl' → InsertFrame F (joined H n es ctrl) p a (joined H (count_after n a) es' ctrl')
  step_joined p n es ctrl a es' ctrl' fits fit long mirrored (StepFrame.no_room none missing) =
      let counted = joined-count H n es ctrl h fit in
      let most = joined-maximum H n es ctrl h in
      InsertFrame.full (omega (arith, none, counted, most)) (absent_joined p.key n es ctrl long mirrored missing)
  step_joined p n es ctrl a es' ctrl' fits fit long mirrored (StepFrame.framed _ _ _ room frame) =
      frame_joined p n es ctrl a es' ctrl' fits (λ e. (let r = room e in omega (arith, r))) long mirrored frame

-- ---- inserts in turn
-- an answer adds one entry at most
count_after-le : (n : ℕ) (o : Option (List ℕ)) → count_after n (Ok o) ≤ n + 1
count_after-le n None = omega arith
count_after-le n (Some v) = omega arith

-- and takes none away
count_after-ge : (n : ℕ) (o : Option (List ℕ)) → n ≤ count_after n (Ok o)
count_after-ge n None = omega arith
count_after-ge n (Some v) = omega arith

-- an entry that is added had room
room_for : (most m n : ℕ) (a : Result (Option (List ℕ)) Error) → a ≡ Ok None → count_after n a ≤ most - m → m + n < most
room_for most m n (Ok None) e room = omega (arith, room)
room_for most m n (Ok (Some v)) e room = cc
room_for most m n (Err x) e room = cc

-- to a larger count as to a smaller
pub count_after-add : (m n : ℕ) (o : Option (List ℕ)) → count_after (m + n) (Ok o) ≡ m + count_after n (Ok o)
count_after-add m n None = omega arith
count_after-add m n (Some v) = refl

-- what a run on the parts does to the joined bytes
pub record IsJoinedRun {K V : Type 0} (c : Coding K V) (H : List ℕ) (m : ℕ) (es ctrl : List ℕ) (items : List (K × V)) (n : ℕ) (es' ctrl' : List ℕ) : Type 0 where
  pub framed : IsFramedRun c (joined H m es ctrl) items (joined H (m + n) es' ctrl')
  pub entries_len : length es' ≡ length es
  pub control_len : length ctrl' ≡ length ctrl
  pub few : n ≤ length items

-- one insert keeps the lengths of the parts
frame-lengths : (F : Format) (p : Pair) (es ctrl : List ℕ) (a : Result (Option (List ℕ)) Error) (es' ctrl' : List ℕ) (s : ℕ) → IsPairOf F p
    → length es ≡ s * entry_len F → length ctrl ≡ s + 16 → PartsFrame F es ctrl p a es' ctrl' → (length es' ≡ length es) × (length ctrl' ≡ length ctrl)
frame-lengths F p es ctrl a es' ctrl' s fits long mirrored (PartsFrame.no_slot none missing) = (refl, refl)
frame-lengths F p es ctrl a es' ctrl' s fits long mirrored (PartsFrame.overwrote i low key) =
    let w = slot_within i s (entry_len F) (omega (arith, low, mirrored)) in
    (length-overwritten_at es (i * entry_len F + F.key_len) p.value (omega (arith, w, long, fits.value.len)), refl)
frame-lengths F p es ctrl a es' ctrl' s fits long mirrored (PartsFrame.added i low free) =
    let w = slot_within i s (entry_len F) (omega (arith, low, mirrored)) in
    (length-overwritten_at es (i * entry_len F) (p.key ++ p.value) (omega (arith, w, long, length-append p.key p.value, fits.key.len, fits.value.len)), length-tagged ctrl i (tag F p.key))
  where
    length-tagged : (cs : List ℕ) (j t : ℕ) → length (tagged cs j t) ≡ length cs
    length-tagged cs j t = go (ltb j 16)
      where
        go : (b : Bool) → length (cond b (set (set cs j t) (j + (length cs - 16)) t) (set cs j t)) ≡ length cs
        go true = length-set (set cs j t) (j + (length cs - 16)) t ∙ length-set cs j t
        go false = length-set cs j t

pub run_joined : {K V : Type 0} (c : Coding K V) (H : List ℕ) (m : ℕ) (es ctrl : List ℕ) → length H ≡ 32 → header_maximum H < 2 ^ 64
    → length es ≡ header_slots H * entry_len c.format → length ctrl ≡ header_slots H + 16
    → (items : List (K × V)) (n : ℕ) (es' ctrl' : List ℕ) → n ≤ header_maximum H - m
    → IsPartsRun c es ctrl items n es' ctrl' → IsJoinedRun c H m es ctrl items n es' ctrl'
run_joined c H m es ctrl h small long mirrored items n es' ctrl' room (IsPartsRun.start) =
    let none : m ≡ m + 0 = omega arith in
    record {
      framed = subst (λ x. IsFramedRun c (joined H m es ctrl) [] (joined H x es ctrl)) none IsFramedRun.start;
      entries_len = refl;
      control_len = refl;
      few = omega arith;
    }
run_joined {K = K} {V = V} c H m es ctrl h small long mirrored items n es' ctrl' room (IsPartsRun.accepted before k v x o es1 ctrl1 es2 ctrl2 run fits frame) =
    let more : length (before ++ (k, v) ∷ []) ≡ length before + 1 = length-append before ((k, v) ∷ []) in
    let ih = run_joined c H m es ctrl h small long mirrored before x es1 ctrl1 (omega (arith, room, count_after-ge x o)) run in
    let p = encoded c k v in
    let long1 = ih.entries_len ∙ long in
    let mirrored1 = ih.control_len ∙ mirrored in
    let there = frame_joined c.format H h small p (m + x) es1 ctrl1 (Ok o) es2 ctrl2 (λ w e. fits) (λ e. room_for (header_maximum H) m x (Ok o) e room) long1 mirrored1 frame in
    let sizes = frame-lengths c.format p es1 ctrl1 (Ok o) es2 ctrl2 (header_slots H) fits long1 mirrored1 frame in
    record {
      framed = subst (λ y. IsFramedRun c (joined H m es ctrl) (before ++ (k, v) ∷ []) (joined H y es2 ctrl2)) (count_after-add m x o)
          (IsFramedRun.accepted before k v (option_map c.value_of o) (joined H (m + x) es1 ctrl1) (joined H (count_after (m + x) (Ok o)) es2 ctrl2) ih.framed (Ok o, refl, there));
      entries_len = sizes.0 ∙ ih.entries_len;
      control_len = sizes.1 ∙ ih.control_len;
      few = omega (arith, ih.few, more, count_after-le x o);
    }

-- ---- the whole bytes
-- a header with its own count is unchanged
pub with_count-by_header : (H : List ℕ) → length H ≡ 32 → All (λ x. x < 256) H → with_count H (num (bytes_at H 8 8)) ≡ H
with_count-by_header H h small =
    let same : le_bytes 8 (num (bytes_at H 8 8)) ≡ bytes_at H 8 8 = le_bytes-num_at 8 (bytes_at H 8 8) (length-bytes_at H 8 8 (omega (arith, h))) (All-bytes_at H 8 8 small) in
    overwritten_at-same H 8 (le_bytes 8 (num (bytes_at H 8 8))) (sym same)

-- bytes with another count and other parts of the same lengths are accepted alike
pub accepted_joined : (F : Format) (H : List ℕ) (n : ℕ) (X Y : List ℕ) → length H ≡ 32 → length X ≡ length Y → IsAccepted F (H ++ X) → IsAccepted F (with_count H n ++ Y)
accepted_joined F H n X Y h same is =
    let W = with_count H n in
    let w = length-with_count H n [] [] h in
    let longW : length (W ++ Y) ≡ length (H ++ X) = omega (arith, length-append W Y, length-append H X, w, h, same) in
    let front : take 8 (W ++ Y) ≡ take 8 (H ++ X) =
    take-append-le 8 W Y (omega (arith, w)) ∙ take-overwritten_at H 8 8 (le_bytes 8 n) (lit≤ tt) (omega (arith, h)) ∙ sym (take-append-le 8 H X (omega (arith, h))) in
    let back : take 16 (drop 16 (W ++ Y)) ≡ take 16 (drop 16 (H ++ X)) =
    ap (take 16) (drop-append-le 16 W Y (omega (arith, w))) ∙ take-append-le 16 (drop 16 W) Y (omega (arith, w, length-drop 16 W))
    ∙ ap (take 16) (drop-overwritten_at H 8 16 (le_bytes 8 n) (lit≤ tt) (omega (arith, h)))
    ∙ sym (ap (take 16) (drop-append-le 16 H X (omega (arith, h))) ∙ take-append-le 16 (drop 16 H) X (omega (arith, h, length-drop 16 H))) in
    opening_refusal-same F (W ++ Y) (H ++ X) longW front back ∙ is

-- the image of a table, with the count and the parts of the table after a run, is that table's
pub placed_joined : (F : Format) (P : Table) (ps : List Pair) (n : ℕ) (H es' ctrl' : List ℕ) → IsValid F P → H ≡ header_bytes F (slot_count P) (count P) P.factor → All (IsPairOf F) ps
    → count P + n ≤ max_items (slot_count P) P.factor → ArePartsOfRun F P ps n es' ctrl' → IsAllPlaced F P ps (joined H (count P + n) es' ctrl')
unfolding image
placed_joined F P ps n H es' ctrl' ok front fit room h =
    let Q = h.table in
    let slots = slot_count-place_all F P Q ps ok.placed fit h.placed in
    let factor = factor-run F (IsPlaced F) (place F) (place-IsInsert F) P Q ps ok.placed fit h.placed in
    record {
      fits = fit;
      table = Q;
      placed = h.placed;
      image = record {
        valid = record {
          placed = h.parts.placed;
          factor_low = omega (arith, ok.factor_low, factor);
          factor_high = omega (arith, ok.factor_high, factor);
          room = subst (λ s. count Q ≤ max_items s Q.factor) (sym slots) (subst (λ f. count Q ≤ max_items (slot_count P) f) (sym factor) (omega (arith, h.counted, room)));
        };
        bytes = ap (λ t. with_count t (count P + n) ++ (es' ++ ctrl')) front
            ∙ (λ i. header_bytes F (sym slots i) (sym h.counted i) (sym factor i) ++ (h.parts.entries_are i ++ h.parts.controls_are i));
      };
    }
