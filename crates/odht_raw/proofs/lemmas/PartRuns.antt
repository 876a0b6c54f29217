-- Items inserted in turn into the parts of a table: one more item.
use Rattle.std.proofs.Common.{◌≡◌, ◌<◌, ◌≤◌, ◌+◌, ◌-◌, ◌∙◌, ◌++◌, ℕ, cond, sym, ap, subst, refl, List, [], ◌∷◌, Option, Some, None, Result, Ok, Err, take, drop, length, slice_get, All, arith, length-drop, get_or, get_or-drop}
use Rattle.odht_raw.proofs.lemmas.Below.{All-append, All-cons, All-nil, count-place, map-append, run-push, slice_get-get_or, some_same, take-add, take_more}
use Rattle.std.specs.Prelude.{is_none, option_map, option_and_then, IfOk}
use Rattle.std.specs.List.{slice_range}
use Rattle.std.specs.Result.{result_map_both}
use Rattle.odht_raw.specs.Words.{Coding, count, encoded, Error, Format, IsPairOf, IsPartsOf, map_of, Pair, place, Table}
use Rattle.odht_raw.specs.Frame.{PartsFrame, IsPartsFramed}
use Rattle.odht_raw.specs.Steps.{IsStepFramed}
use Rattle.odht_raw.specs.PartsInserts.{AnswersFormer, ArePartsPlaced}
use Rattle.odht_raw.specs.Runs.{encoded_all, count_after, IsPartsRun, ArePartsOfRun, IsRunTo, IsRefusedIn}
use Rattle.odht_raw.proofs.lemmas.RunsInTurn.{range-append, encoded-append, run_then, placed_then}
use Rattle.odht_raw.proofs.lemmas.Steps.{step_added, step_accepted}

-- an item that is read is the item there
pub read_item : {X : Type 0} (xs : List X) (n : ℕ) (x : X) → n < length xs → slice_get xs n ≡ Some x → get_or xs n x ≡ x
read_item xs n x low at = some_same _ _ (sym (slice_get-get_or xs n x low) ∙ at)

-- the first items, and a piece behind them
pub take-range : {X : Type 0} (xs : List X) (a b : ℕ) → a ≤ b → take a xs ++ slice_range xs a b ≡ take b xs
take-range xs a b within = let sum : a + (b - a) ≡ b = omega arith in sym (take-add a (b - a) xs) ∙ ap (λ n. take n xs) sum

-- a piece of a list, and the item behind it
pub range_more : {X : Type 0} (xs : List X) (a n : ℕ) (x : X) → a ≤ n → n < length xs → slice_get xs n ≡ Some x → slice_range xs a (n + 1) ≡ slice_range xs a n ++ x ∷ []
range_more xs a n x from low at =
    let more : n + 1 - a ≡ n - a + 1 = omega arith in
    let there : a + (n - a) ≡ n = omega arith in
    let long : n - a < length (drop a xs) = omega (arith, length-drop a xs) in
    let here : get_or (drop a xs) (n - a) x ≡ x = get_or-drop a xs (n - a) x ∙ ap (λ i. get_or xs i x) there ∙ read_item xs n x low at in
    ap (λ m. take m (drop a xs)) more ∙ take_more (drop a xs) (n - a) x long ∙ ap (λ y. take (n - a) (drop a xs) ++ y ∷ []) here

-- no items
pub range_none : {X : Type 0} (xs : List X) (a : ℕ) → slice_range xs a a ≡ []
range_none xs a = let none : a - a ≡ 0 = omega arith in ap (λ m. take m (drop a xs)) none

-- one more item as a pair
pub encoded_push : {K V : Type 0} (c : Coding K V) (items : List (K × V)) (k : K) (v : V) → encoded_all c (items ++ (k, v) ∷ []) ≡ encoded_all c items ++ encoded c k v ∷ []
encoded_push {K = K} {V = V} c items k v = map-append (λ (t : K × V). encoded c t.0 t.1) items ((k, v) ∷ [])

-- an answer adds an entry exactly where there was no former value
count_after-former : {W : Type 0} (f : List ℕ → W) (n : ℕ) (o : Option (List ℕ)) (old : Option W) → old ≡ option_map f o → count_after n (Ok o) ≡ cond (is_none old) (n + 1) n
count_after-former f n None None e = refl
count_after-former f n None (Some w) e = cc
count_after-former f n (Some v) None e = cc
count_after-former f n (Some v) (Some w) e = refl

-- one more item on any parts
pub run_more : {K V : Type 0} (c : Coding K V) (es0 ctrl0 : List ℕ) (items : List (K × V)) (k : K) (v : V) (n : ℕ) (es ctrl es' ctrl' : List ℕ)
    → IsPartsRun c es0 ctrl0 items n es ctrl → IsPairOf c.format (encoded c k v)
    → {W : Type 0} (f : List ℕ → W) (r : Result (Option W) Error) (old : Option W) → r ≡ Ok old → IsPartsFramed c.format f es ctrl (encoded c k v) r es' ctrl'
    → IsPartsRun c es0 ctrl0 (items ++ (k, v) ∷ []) (cond (is_none old) (n + 1) n) es' ctrl'
run_more {K = K} {V = V} c es0 ctrl0 items k v n es ctrl es' ctrl' before fits {W = W} f r old ok framed = go framed.0 framed.1 framed.2
  where
    go : (a : Result (Option (List ℕ)) Error) → r ≡ result_map_both (option_map f) (λ e. e) a → PartsFrame c.format es ctrl (encoded c k v) a es' ctrl'
        → IsPartsRun c es0 ctrl0 (items ++ (k, v) ∷ []) (cond (is_none old) (n + 1) n) es' ctrl'
    go (Ok o) e frame =
        let same : old ≡ option_map f o = (let both : Ok old ≡ Ok (option_map f o) = sym ok ∙ e in cc) in
        subst (λ m. IsPartsRun c es0 ctrl0 (items ++ (k, v) ∷ []) m es' ctrl') (count_after-former f n o old same)
        (IsPartsRun.accepted items k v n o es ctrl es' ctrl' before fits frame)
    go (Err x) e frame = absurd (let both : Ok old ≡ Err x = sym ok ∙ e in cc)

-- one more item on the parts of a placed table
pub placed_more : (F : Format) (P : Table) (ps : List Pair) (n : ℕ) (es ctrl : List ℕ) (h : ArePartsOfRun F P ps n es ctrl) (p : Pair) (es' ctrl' : List ℕ)
    → {W : Type 0} (f : List ℕ → W) (r : Result (Option W) Error) (old : Option W) → r ≡ Ok old → AnswersFormer F f h.table p r es' ctrl'
    → ArePartsOfRun F P (ps ++ p ∷ []) (cond (is_none old) (n + 1) n) es' ctrl'
placed_more F P ps n es ctrl h p es' ctrl' {W = W} f r old ok answers =
    let known = subst (λ (a : Result (Option W) Error). IfOk a (λ o. (o ≡ option_map f (map_of h.table p.key)) × ArePartsPlaced F h.table p es' ctrl')) ok answers in
    record {
      table = known.1.0;
      placed = run-push (place F) P ps p ∙ ap (option_and_then (λ R. place F R p)) h.placed ∙ known.1.1;
      parts = known.1.2;
      counted = go (map_of h.table p.key) old known.0 (count-place F h.table known.1.0 p h.parts.placed known.1.1);
    }
  where
    go : {m : ℕ} (o : Option (List ℕ)) (w : Option W) → w ≡ option_map f o → m ≡ cond (is_none o) (count h.table + 1) (count h.table) → m ≡ count P + cond (is_none w) (n + 1) n
    go None None e more = omega (arith, more, h.counted)
    go None (Some w) e more = cc
    go (Some v) None e more = cc
    go (Some v) (Some w) e same = omega (arith, same, h.counted)

-- the pairs of accepted items are of the format
pub run_fits : {K V : Type 0} (c : Coding K V) (es ctrl : List ℕ) (items : List (K × V)) (n : ℕ) (es' ctrl' : List ℕ) → IsPartsRun c es ctrl items n es' ctrl' → All (IsPairOf c.format) (encoded_all c items)
run_fits c es ctrl items n es' ctrl' (IsPartsRun.start) = All-nil (IsPairOf c.format)
run_fits c es ctrl items n es' ctrl' (IsPartsRun.accepted before k v m o es1 ctrl1 es2 ctrl2 run fits frame) =
    subst (All (IsPairOf c.format)) (sym (encoded_push c before k v)) (All-append (IsPairOf c.format) (encoded_all c before) (encoded c k v ∷ []) (run_fits c es ctrl before m es1 ctrl1 run)
    (All-cons (IsPairOf c.format) (encoded c k v) [] fits (All-nil (IsPairOf c.format))))

-- ---- a run with room for that many new entries
module _ {K V : Type 0} (c : Coding K V) (m : ℕ) (es0 ctrl0 : List ℕ) (items : List (K × V)) (from : ℕ) where
  -- no items
  pub run_to_none : IsRunTo c m es0 ctrl0 items from from 0 es0 ctrl0
  run_to_none =
      let none = range_none items from in
      record {
        few = omega arith;
        room = omega arith;
        run = subst (λ (xs : List (K × V)). IsPartsRun c es0 ctrl0 xs 0 es0 ctrl0) (sym none) IsPartsRun.start;
        placed = λ P parts.
            subst (λ (xs : List (K × V)). ArePartsOfRun c.format P (encoded_all c xs) 0 es0 ctrl0) (sym none)
            (record { table = P; placed = refl; parts = parts; counted = omega arith });
      }

  -- one more item
  pub run_to_more : (i n : ℕ) (es ctrl : List ℕ) (h : IsRunTo c m es0 ctrl0 items from i n es ctrl) (k : K) (v : V) → i < length items → slice_get items i ≡ Some (k, v)
      → IsPairOf c.format (encoded c k v) → {W : Type 0} (f : List ℕ → W) (r : Result (Option W) Error) (old : Option W) (es' ctrl' : List ℕ) → r ≡ Ok old
      → IsStepFramed c.format f (m - n) es ctrl (encoded c k v) r es' ctrl'
      → ((P : Table) (parts : IsPartsOf c.format P es0 ctrl0) → AnswersFormer c.format f (h.placed P parts).table (encoded c k v) r es' ctrl')
      → (n' : ℕ) → n' ≡ cond (is_none old) (n + 1) n → IsRunTo c m es0 ctrl0 items from (i + 1) n' es' ctrl'
  run_to_more i n es ctrl h k v low at fits {W = W} f r old es' ctrl' ok framed answers n' counted =
      let more = range_more items from i (k, v) (omega (arith, h.few)) low at in
      let before = slice_range items from i in
      record {
        few = (bound old refl (λ e. step_added c.format f (m - n) (encoded c k v) r es ctrl es' ctrl' (ok ∙ ap Ok e) framed)).0;
        room = (bound old refl (λ e. step_added c.format f (m - n) (encoded c k v) r es ctrl es' ctrl' (ok ∙ ap Ok e) framed)).1;
        run =
            subst (λ x. IsPartsRun c es0 ctrl0 (slice_range items from (i + 1)) x es' ctrl') (sym counted)
            (subst (λ (xs : List (K × V)). IsPartsRun c es0 ctrl0 xs (cond (is_none old) (n + 1) n) es' ctrl') (sym more)
            (run_more c es0 ctrl0 before k v n es ctrl es' ctrl' h.run fits f r old ok (step_accepted c.format f (m - n) (encoded c k v) r es ctrl es' ctrl' old ok framed)));
        placed = λ P parts.
            subst (λ x. ArePartsOfRun c.format P (encoded_all c (slice_range items from (i + 1))) x es' ctrl') (sym counted)
            (subst (λ (ps : List Pair). ArePartsOfRun c.format P ps (cond (is_none old) (n + 1) n) es' ctrl') (sym (ap (encoded_all c) more ∙ encoded_push c before k v))
            (placed_more c.format P (encoded_all c before) n es ctrl (h.placed P parts) (encoded c k v) es' ctrl' f r old ok (answers P parts)));
      }
    where
      bound : (o : Option W) → o ≡ old → (old ≡ None → 0 < m - n) → (from + n' ≤ i + 1) × (n' ≤ m)
      bound None e some =
          let left = some (sym e) in
          let count : n' ≡ n + 1 = counted ∙ ap (λ (x : Option W). cond (is_none x) (n + 1) n) (sym e) in
          (omega (arith, count, h.few), omega (arith, count, left))
      bound (Some w) e some =
          let count : n' ≡ n = counted ∙ ap (λ (x : Option W). cond (is_none x) (n + 1) n) (sym e) in
          (omega (arith, count, h.few), omega (arith, count, h.room))

-- a run, and one behind it with the room that it leaves
pub run_to_then : {K V : Type 0} (c : Coding K V) (m : ℕ) (es ctrl : List ℕ) (items : List (K × V)) (a b d n : ℕ) (es1 ctrl1 : List ℕ) (l : ℕ) (es2 ctrl2 : List ℕ)
    → IsRunTo c m es ctrl items a b n es1 ctrl1 → IsRunTo c (m - n) es1 ctrl1 items b d l es2 ctrl2 → IsRunTo c m es ctrl items a d (n + l) es2 ctrl2
run_to_then {K = K} {V = V} c m es ctrl items a b d n es1 ctrl1 l es2 ctrl2 first second = record {
  few = omega (arith, first.few, second.few);
  room = omega (arith, first.room, second.room);
  run = subst (λ (xs : List (K × V)). IsPartsRun c es ctrl xs (n + l) es2 ctrl2) (range-append items a b d before after)
      (run_then c es ctrl (slice_range items a b) n es1 ctrl1 (slice_range items b d) l es2 ctrl2 first.run second.run);
  placed = λ P parts.
      let h = first.placed P parts in
      subst (λ (ps : List Pair). ArePartsOfRun c.format P ps (n + l) es2 ctrl2) (sym (encoded-append c (slice_range items a b) (slice_range items b d)) ∙ ap (encoded_all c) (range-append items a b d before after))
      (placed_then c.format P (encoded_all c (slice_range items a b)) n es1 ctrl1 h (encoded_all c (slice_range items b d)) l es2 ctrl2 (second.placed h.table h.parts));
}
  where
    before : a ≤ b
    before = omega (arith, first.few)

    after : b ≤ d
    after = omega (arith, second.few)

-- what is refused, with the room written in two ways
pub refused_room : {K V : Type 0} (c : Coding K V) (m m' : ℕ) (items : List (K × V)) (i : ℕ) (es ctrl : List ℕ) → m ≡ m' → IsRefusedIn c m items i es ctrl → IsRefusedIn c m' items i es ctrl
refused_room c m m' items i es ctrl same refused = subst (λ x. IsRefusedIn c x items i es ctrl) same refused
