-- Two runs of inserts, the second behind the first, are one; and the same of pieces of a list.
use Rattle.std.proofs.Common.{◌≡◌, ◌∙◌, ◌+◌, ◌-◌, ◌≤◌, ◌++◌, ℕ, sym, ap, subst, arith, List, [], ◌∷◌, Ok, take, drop, append_assoc}
use Rattle.odht_raw.proofs.lemmas.Below.{append-nil, drop-drop, map-append, run-append, take-add}
use Rattle.std.specs.List.{slice_range}
use Rattle.std.specs.Prelude.{option_and_then}
use Rattle.odht_raw.specs.Words.{Coding, encoded, Format, Pair, place, place_all, Table}
use Rattle.odht_raw.specs.Runs.{encoded_all, count_after, IsPartsRun, ArePartsOfRun}
use Rattle.odht_raw.proofs.lemmas.JoinedRuns.{count_after-add}

-- neighbouring pieces of a list are one piece
pub range-append : {X : Type 0} (xs : List X) (a b d : ℕ) → a ≤ b → b ≤ d → slice_range xs a b ++ slice_range xs b d ≡ slice_range xs a d
range-append xs a b d first second =
    let sum : b - a + (d - b) ≡ d - a = omega arith in
    let there : a + (b - a) ≡ b = omega arith in
    sym (ap (λ n. take n (drop a xs)) (sym sum) ∙ take-add (b - a) (d - b) (drop a xs)
    ∙ ap (λ ys. take (b - a) (drop a xs) ++ take (d - b) ys) (drop-drop (b - a) a xs ∙ ap (λ n. drop n xs) there))

-- the pairs of two lists
pub encoded-append : {K V : Type 0} (c : Coding K V) (xs ys : List (K × V)) → encoded_all c (xs ++ ys) ≡ encoded_all c xs ++ encoded_all c ys
encoded-append {K = K} {V = V} c xs ys = map-append (λ (t : K × V). encoded c t.0 t.1) xs ys

-- a run behind a run on any parts
pub run_then : {K V : Type 0} (c : Coding K V) (es ctrl : List ℕ) (xs : List (K × V)) (n : ℕ) (es1 ctrl1 : List ℕ) (ys : List (K × V)) (m : ℕ) (es2 ctrl2 : List ℕ)
    → IsPartsRun c es ctrl xs n es1 ctrl1 → IsPartsRun c es1 ctrl1 ys m es2 ctrl2 → IsPartsRun c es ctrl (xs ++ ys) (n + m) es2 ctrl2
run_then {K = K} {V = V} c es ctrl xs n es1 ctrl1 ys m es2 ctrl2 first (IsPartsRun.start) =
    let none : n ≡ n + 0 = omega arith in
    subst (λ (zs : List (K × V)). IsPartsRun c es ctrl zs (n + 0) es1 ctrl1) (sym (append-nil xs)) (subst (λ x. IsPartsRun c es ctrl xs x es1 ctrl1) none first)
run_then {K = K} {V = V} c es ctrl xs n es1 ctrl1 ys m es2 ctrl2 first (IsPartsRun.accepted before k v x o es3 ctrl3 es4 ctrl4 run fits frame) =
    let ih = run_then c es ctrl xs n es1 ctrl1 before x es3 ctrl3 first run in
    subst (λ (zs : List (K × V)). IsPartsRun c es ctrl zs (n + count_after x (Ok o)) es4 ctrl4) (append_assoc xs before ((k, v) ∷ []))
    (subst (λ y. IsPartsRun c es ctrl ((xs ++ before) ++ (k, v) ∷ []) y es4 ctrl4) (count_after-add n x o)
    (IsPartsRun.accepted (xs ++ before) k v (n + x) o es3 ctrl3 es4 ctrl4 ih fits frame))

-- and on the parts of a placed table
pub placed_then : (F : Format) (P : Table) (ps : List Pair) (n : ℕ) (es1 ctrl1 : List ℕ) (h : ArePartsOfRun F P ps n es1 ctrl1) (qs : List Pair) (m : ℕ) (es2 ctrl2 : List ℕ)
    → ArePartsOfRun F h.table qs m es2 ctrl2 → ArePartsOfRun F P (ps ++ qs) (n + m) es2 ctrl2
placed_then F P ps n es1 ctrl1 h qs m es2 ctrl2 t = record {
  table = t.table;
  placed = run-append (place F) P ps qs ∙ ap (option_and_then (λ R. place_all F R qs)) h.placed ∙ t.placed;
  parts = t.parts;
  counted = omega (arith, t.counted, h.counted);
}
