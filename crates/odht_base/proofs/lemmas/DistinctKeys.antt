-- Lists of pairs of different keys, such as a placed table's walk.
use Rattle.std.proofs.Common.{◌≡◌, ◌∙◌, ℕ, suc, Bool, true, false, cond, sym, ap, refl, List, [], ◌∷◌, Option, Some, None, arith, bytes_eq, All}
use Rattle.std.specs.Option.{option_or}
use Rattle.std.proofs.lemmas.List.Elements.{All-cons}
use Rattle.std.proofs.lemmas.Bool.{false_from_ne_true}
use Rattle.odht_base.specs.Format.{Format}
use Rattle.odht_base.specs.Map.{value_in, last, KeysApart}
use Rattle.odht_base.specs.Table.{Pair, Table, Cells, cell_at, walk}
use Rattle.odht_base.specs.Valid.{IsPairOf, IsPlaced}
use Rattle.odht_base.proofs.lemmas.Counts.{pairs}
use Rattle.odht_base.proofs.lemmas.Keys.{same_bytes, key_pair}
use Rattle.odht_base.proofs.lemmas.Pairs.{value_in-cons, value_in-None}
use Rattle.odht_base.proofs.lemmas.InsertRuns.{last-cons}
use Rattle.std.proofs.lemmas.Option.{none-some}

-- of different keys, the last value is the first
pub last-apart : (ps : List Pair) → KeysApart ps → (k : List ℕ) → last ps k ≡ value_in ps k
last-apart [] a k = refl
last-apart (p ∷ ps) a k =
    last-cons p ps k
    ∙ ap (λ o. option_or o (cond (bytes_eq k p.key) (Some p.value) None)) (last-apart ps a.1 k)
    ∙ go (bytes_eq k p.key) refl (value_in ps k) refl
    ∙ sym (value_in-cons p ps k)
  where
    go : (b : Bool) → bytes_eq k p.key ≡ b → (o : Option (List ℕ)) → value_in ps k ≡ o → option_or o (cond b (Some p.value) None) ≡ cond b (Some p.value) o
    go true t None e = refl
    go true t (Some v) e = absurd (none-some v (sym a.0 ∙ ap (value_in ps) (sym (same_bytes k p.key t)) ∙ e))
    go false t None e = refl
    go false t (Some v) e = refl

-- cells of different keys have pairs of different keys
pairs-apart : (cs : Cells) → ((i j : ℕ) (p q : Pair) → cell_at cs i ≡ Some p → cell_at cs j ≡ Some q → p.key ≡ q.key → i ≡ j) → KeysApart (pairs cs)
pairs-apart [] d = tt
pairs-apart (None ∷ cs) d = pairs-apart cs (λ i j p q hp hq e. let z = d (suc i) (suc j) p q hp hq e in omega arith)
pairs-apart (Some c ∷ cs) d = (
  value_in-None cs c.key (λ j. false_from_ne_true _ (λ h.
      let q = key_pair c.key (cell_at cs j) h in
      let z = d 0 (suc j) c q.0 refl q.1 q.2 in omega arith)),
  pairs-apart cs (λ i j p q hp hq e. let z = d (suc i) (suc j) p q hp hq e in omega arith),
)

-- a placed table's walk has each key once
pub walk-KeysApart : (F : Format) (P : Table) → IsPlaced F P → KeysApart (walk P)
walk-KeysApart F P ok = pairs-apart P.cells ok.distinct

-- what holds of each held pair holds of each of the pairs
pub pairs-All : (A : Pair → Type 0) (cs : Cells) → ((i : ℕ) (p : Pair) → cell_at cs i ≡ Some p → A p) → All A (pairs cs)
pairs-All A [] h = λ k d l. absurd (omega arith)
pairs-All A (None ∷ cs) h = pairs-All A cs (λ i. h (suc i))
pairs-All A (Some c ∷ cs) h = All-cons A c (pairs cs) (h 0 c refl) (pairs-All A cs (λ i. h (suc i)))

-- each of its pairs has the lengths of F
pub walk-IsPairOf : (F : Format) (P : Table) → IsPlaced F P → All (IsPairOf F) (walk P)
walk-IsPairOf F P ok = pairs-All (IsPairOf F) P.cells ok.pairs
