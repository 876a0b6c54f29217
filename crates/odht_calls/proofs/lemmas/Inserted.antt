-- What inserts into bytes answer whose header and length are accepted.
use Rattle.std.proofs.Common.{◌≡◌, ◌<◌, ◌≤◌, arith, length, map, take, zip, ◌∙◌, ℕ, List, inl, inr, sym, ap, subst, refl, Option, Some, None, Result, Ok, Err, ◌↔◌}
use Rattle.std.specs.Prelude.{⊤}
use Rattle.std.specs.List.{slice_range}
use Rattle.std.proofs.Math.Nat.{eq-or-lt_of_le}
use Rattle.std.proofs.lemmas.List.{get_or-take, length-map, length-take, take_all, take-take}
use Rattle.std.proofs.lemmas.Option.{get_or_from_slice_get, slice_get-get_or}
use Rattle.std.proofs.lemmas.Slice.Zip.{length-zip}
use Rattle.odht_base.specs.Format.{IsFormat}
use Rattle.odht_base.specs.Insert.{insert_view, IsFullFor}
use Rattle.odht_base.specs.Table.{Pair, Table}
use Rattle.odht_base.specs.Valid.{IsImage}
use Rattle.odht_base.proofs.lemmas.FreshRuns.{insert_view-PlacesBelow}
use Rattle.odht_base.proofs.lemmas.TableInserts.{insert_view-IsInsert, insert_view-None}
use Rattle.odht_header.specs.Coding.{Coding, encoded, value_for}
use Rattle.odht_raw.specs.DynParts.{bytes_coding}
use Rattle.odht_raw.specs.Frame.{IsFramed}
use Rattle.odht_raw.proofs.lemmas.EncodedRuns.{list_run}
use Rattle.odht_raw.specs.Runs.{IsEncodedRun, IsListRun}
use Rattle.odht_raw.proofs.lemmas.PartRuns.{take-range}
use Rattle.odht_header.specs.Refusals.{opening_refusal}
use Rattle.odht_header.specs.declared.error.Error.{Error}
use Rattle.odht_header.specs.declared.error.Error.TheVariants.{Full}
use Rattle.odht.specs.Inserts.{IsInserted}
use Rattle.odht.specs.Lists.{encoded_all, IsAfterInserts, IsFramedRun, IsRefusedAt, IsStoppedAt}
use Rattle.odht.specs.Tables.{OfTable}
use Rattle.odht.proofs.lemmas.FittingRuns.{insert_view-PlacesTaken}
use Rattle.odht.proofs.lemmas.ListInserts.{inserted_none, inserted_placed, encoded_all-range, refused_here}
use Rattle.odht_calls.specs.Statuses.{done, status_of}
use Rattle.odht_calls.specs.Writes.{IsFormer, InsertAnswers, InsertAllAnswers, IsListAnswered}
use Rattle.odht_calls.proofs.lemmas.Refused.{not_none}

-- B were the bytes, S what the table saw of them and T what it left, and these are now C
module _ {K V : Type 0} (c : Coding K V) (B S T C : List ℕ) (k : K) (v old : V) (s : ℕ) (new : V)
    (accepted : None ≡ opening_refusal c.format B) (reads : S ≡ B) (left : C ≡ T) where
  image : (P : Table) → IsImage c.format P B → IsImage c.format P S
  image P is = subst (IsImage c.format P) (sym reads) is

  framed : (r : Result (Option V) Error) → IsFramed c S k v r T → IsFramed c B k v r C
  framed r frame = subst (λ X. IsFramed c X k v r C) reads (subst (λ X. IsFramed c S k v r X) (sym left) frame)

  -- the key has this value now
  pub accepted_insert : (o : Option V) → IsFormer o old s new
      → OfTable c.format S (λ P. o ≡ value_for c P k) → OfTable c.format S (λ P. IsInserted c.format (insert_view c.format) P (encoded c k v) T)
      → IsFramed c S k v (Ok o) T → InsertAnswers c B k v old s C new
  accepted_insert o former was tells frame = record {
    refused = λ e is. not_none _ e is (sym accepted);
    on_valid = λ P is. (
        let insert = tells P (image P is) in
        rw insert.inserted (subst (IsImage c.format insert.table) (sym left) insert.image, subst (λ o. IsFormer o old s new) (was P (image P is)) former));
    on_any = λ none. (Ok o, former, framed (Ok o) frame);
  }

  -- or the table is full, and is unchanged
  pub full_insert : (r : Result (Option V) Error) → r ≡ Err Full → T ≡ S → s ≡ status_of Full → new ≡ old
      → ((P : Table) → IsImage c.format P S → (r ≡ Err Full) ↔ IsFullFor P (c.key_bytes k)) → IsFramed c S k v r T → InsertAnswers c B k v old s C new
  full_insert r is_full stays status kept full frame = record {
    refused = λ e is. not_none _ e is (sym accepted);
    on_valid = λ P is. (
        let none : insert_view c.format P (encoded c k v) ≡ None = (insert_view-None c.format P (encoded c k v) is.valid).1 ((full P (image P is)).0 is_full) in
        rw none (subst (IsImage c.format P) (sym (left ∙ stays ∙ reads)) is, status, kept));
    on_any = λ none. (Err Full, (status, kept), framed (Err Full) (subst (λ r. IsFramed c S k v r T) is_full frame));
  }

-- inserts of pairs in turn into the bytes B leave C
module _ {K V : Type 0} (c : Coding K V) (B C : List ℕ) (keys : List K) (values : List V) (before n : ℕ)
    (accepted : None ≡ opening_refusal c.format B) (equal : length values ≡ length keys)
    (framed : IsFramedRun c B (take n (zip keys values)) C)
    (inserted : (P : Table) → IsImage c.format P B → IsAfterInserts c.format (insert_view c.format) P (encoded_all c (take n (zip keys values))) C) where
  -- all are inserted
  pub accepted_insert_all : n ≡ length keys → InsertAllAnswers c B keys values before done C (length keys)
  accepted_insert_all every = record {
    lengths = λ other. absurd (other equal);
    refused = λ e long is. not_none _ e is (sym accepted);
    bound = λ long is. omega arith;
    all = λ long is e. refl;
    some = λ long is less. absurd (omega (arith, less));
    inserted = λ P long is. rw (sym every) (inserted P is);
    framed = λ long is. rw (sym every) framed;
    at_maximum = λ P long is image less. absurd (omega (arith, less));
    stopped = λ long is less. absurd (omega (arith, less));
  }

  -- the next one is answered with Full, as the table is full for its key, and these bytes are D now
  pub full_insert_all : (D : List ℕ) (s : ℕ) → D ≡ C → n < length keys → s ≡ status_of Full
      → ((P : Table) → IsImage c.format P C → IsRefusedAt c P (zip keys values) n) → IsStoppedAt c (zip keys values) n C
      → InsertAllAnswers c B keys values before s D n
  full_insert_all D s same less status full stop = record {
    lengths = λ other. absurd (other equal);
    refused = λ e long is. not_none _ e is (sym accepted);
    bound = λ long is. omega (arith, less);
    all = λ long is e. absurd (omega (arith, e, less));
    some = λ long is l. status;
    inserted = λ P long is. rw same (inserted P is);
    framed = λ long is. rw same framed;
    at_maximum = λ P long is image l. full P (subst (IsImage c.format P) same image);
    stopped = λ long is l. rw same stop;
  }

-- a run over the first d of some items, up to item n
module _ {K V : Type 0} (c : Coding K V) (B C : List ℕ) (xs : List (K × V)) (d n : ℕ) (run : IsListRun c B (take d xs) 0 n C) where
  few : n ≤ d
  few = omega (arith, run.within, length-take d xs)

  first : take n (take d xs) ≡ take n xs
  first = take-take n d xs few

  -- inserts these items
  pub run_framed : IsFramedRun c B (take n xs) C
  run_framed = subst (λ (ys : List (K × V)). IsFramedRun c B ys C) (take-range (take d xs) 0 n (omega arith) ∙ first) run.framed

  pub run_inserted : (P : Table) → IsImage c.format P B → IsAfterInserts c.format (insert_view c.format) P (encoded_all c (take n xs)) C
  run_inserted P is =
      let insert = insert_view c.format in
      let ys = take d xs in
      let h = inserted_none c.format insert P B is in
      subst (λ (ps : List Pair). IsAfterInserts c.format insert P ps C) (encoded_all-range c ys 0 n (omega arith) ∙ ap (encoded_all c) first)
      (inserted_placed c.format insert (insert_view-IsInsert c.format) (insert_view-PlacesBelow c.format) P (insert_view-PlacesTaken c.format) (encoded_all c (take 0 ys)) (encoded_all c (slice_range ys 0 n)) B C
      h (run.placed h.table h.image))

  -- and stops at item n
  pub run_stopped : d ≤ length xs → n < d → IsStoppedAt c xs n C
  run_stopped long low = elim run.stopped [
    | inl e ↦ absurd (omega (arith, e, low, long, length-take d xs))
    | inr stop ↦ record {
      item = stop.item;
      at = slice_get-get_or xs n stop.item (omega (arith, low, long)) ∙ ap (λ x. Some x) (sym (get_or-take d xs n stop.item low) ∙ get_or_from_slice_get (take d xs) n stop.item stop.item stop.at);
      framed = stop.framed;
    }
  ]

  -- where these d decide what all m pairs leave
  module _ (keys : List K) (values : List V) (zipped : xs ≡ zip keys values) (equal : length values ≡ length keys) (m : ℕ) (many : m ≡ length keys) (most : d ≤ m) (fits : IsFormat c.format) (accepted : None ≡ opening_refusal c.format B) where
    pub listed : (before s n' : ℕ) → (n < d → (n' ≡ n) × (s ≡ status_of Full)) → (n ≡ d → (n' ≡ m) × (s ≡ done)) → (IsFramedRun c B (take d xs) C → IsFramedRun c B (take m xs) C)
        → ((P : Table) → IsAfterInserts c.format (insert_view c.format) P (encoded_all c (take d xs)) C → IsAfterInserts c.format (insert_view c.format) P (encoded_all c (take m xs)) C) → InsertAllAnswers c B keys values before s C n'
    listed before s n' some all more_framed more_inserted = elim (eq-or-lt_of_le few) [
      | inl e ↦ (
          let framed : IsFramedRun c B (take m (zip keys values)) C = subst (λ (ys : List (K × V)). IsFramedRun c B (take m ys) C) zipped (more_framed (subst (λ k. IsFramedRun c B (take k xs) C) e run_framed)) in
          let inserted : (P : Table) → IsImage c.format P B → IsAfterInserts c.format (insert_view c.format) P (encoded_all c (take m (zip keys values))) C =
          λ P is. subst (λ (ys : List (K × V)). IsAfterInserts c.format (insert_view c.format) P (encoded_all c (take m ys)) C) zipped (more_inserted P (subst (λ k. IsAfterInserts c.format (insert_view c.format) P (encoded_all c (take k xs)) C) e (run_inserted P is))) in
          rw ((all e).0 ∙ many, (all e).1) (accepted_insert_all c B C keys values before m accepted equal framed inserted many))
      | inr low ↦ (
          let stop : IsStoppedAt c (zip keys values) n C = subst (λ (ys : List (K × V)). IsStoppedAt c ys n C) zipped (run_stopped (omega (arith, most, many, ap length zipped, length-zip keys values, equal)) low) in
          rw ((some low).0) (full_insert_all c B C keys values before n accepted equal (subst (λ (ys : List (K × V)). IsFramedRun c B (take n ys) C) zipped run_framed)
          (λ P is. subst (λ (ys : List (K × V)). IsAfterInserts c.format (insert_view c.format) P (encoded_all c (take n ys)) C) zipped (run_inserted P is))
          C s refl (omega (arith, low, most, many)) (some low).1 (λ P is. refused_here c fits P (zip keys values) n C is stop) stop))
    ]

-- items that all fit
pub list_of : {K V : Type 0} (c : Coding K V) (B : List ℕ) (xs : List (K × V)) (n : ℕ) (C : List ℕ) → IsEncodedRun (λ _. ⊤) c B xs 0 n C → IsListRun c B xs 0 n C
list_of c B xs n C h = record {
  after = h.after;
  within = h.within;
  placed = h.placed;
  framed = h.framed;
  stopped = elim h.stopped [ inl e ↦ inl e | inr (inl other) ↦ absurd (other tt) | inr (inr stop) ↦ inr stop ];
}

-- the pairs of a configuration
pub pairs_listed : {K V : Type 0} (c : Coding K V) → IsFormat c.format → (B C : List ℕ) (keys : List K) (values : List V) → length values ≡ length keys → None ≡ opening_refusal c.format B → (items : List (K × V)) → items ≡ zip keys values → (before s n : ℕ)
    → IsListAnswered (λ _. ⊤) (bytes_coding c.format) B (map (λ (item : K × V). (c.key_bytes item.0, c.value_bytes item.1)) items) s C n → InsertAllAnswers c B keys values before s C n
pairs_listed {K = K} {V = V} c fits B C keys values equal accepted items zipped before s n answers =
    let xs = zip keys values in
    let d = length keys in
    let long : length xs ≡ d = omega (arith, length-zip keys values, equal) in
    let count : length (map {B = List ℕ × List ℕ} (λ (item : K × V). (c.key_bytes item.0, c.value_bytes item.1)) items) ≡ d =
    length-map {B = List ℕ × List ℕ} items (λ (item : K × V). (c.key_bytes item.0, c.value_bytes item.1)) ∙ ap length zipped ∙ long in
    let whole : take d xs ≡ xs = take_all d xs (omega (arith, long)) in
    let run : IsListRun c B (take d xs) 0 n C = subst (λ (ys : List (K × V)). IsListRun c B ys 0 n C) (zipped ∙ sym whole) (list_run c B items 0 n C answers.run) in
    listed c B C xs d n run keys values refl equal d refl (omega arith) fits accepted before s n
    (λ low. (refl, answers.some (omega (arith, low, count)))) (λ e. (e, answers.all (omega (arith, e, count)))) (λ framed. framed) (λ P inserted. inserted)
