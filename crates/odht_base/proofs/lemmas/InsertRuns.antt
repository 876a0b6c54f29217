-- Inserts in turn, by any insert that keeps a property of tables and overwrites the map at the key.
use Rattle.std.proofs.Common.{◌≡◌, ◌≤◌, ◌+◌, ◌∙◌, ℕ, Bool, true, false, cond, sym, ap, subst, refl, List, [], ◌∷◌, ◌++◌, Option, Some, None, length, find, arith, bytes_eq, All}
use Rattle.std.specs.Prelude.{is_none, option_map, option_and_then, reverse, if◌then◌else◌}
use Rattle.std.specs.Option.{option_or}
use Rattle.std.proofs.lemmas.List.{reverse-append}
use Rattle.std.proofs.lemmas.List.Folds.{find-append}
use Rattle.std.proofs.lemmas.List.Elements.{All-head, All-tail}
use Rattle.odht_base.specs.Format.{Format}
use Rattle.odht_base.specs.Insert.{run}
use Rattle.odht_base.specs.Map.{Values, value_in, map_of, last, overwritten}
use Rattle.odht_base.specs.Table.{Pair, Table, count}
use Rattle.odht_base.specs.Valid.{IsPairOf}
use Rattle.odht_base.proofs.lemmas.Options.{some_same, and_then_some}
use Rattle.odht_base.proofs.lemmas.Pairs.{value_in-cons}

-- ---- the last value of a key
pub value_in-append : (ps qs : List Pair) (k : List ℕ) → value_in (ps ++ qs) k ≡ option_or (value_in ps k) (value_in qs k)
value_in-append ps qs k =
    ap (option_map (λ (p : Pair). p.value)) (find-append (λ (p : Pair). bytes_eq k p.key) ps qs)
    ∙ go (find (λ (p : Pair). bytes_eq k p.key) ps)
  where
    go : (o : Option Pair) → option_map (λ (p : Pair). p.value) (option_or o (find (λ (p : Pair). bytes_eq k p.key) qs)) ≡ option_or (option_map (λ (p : Pair). p.value) o) (value_in qs k)
    go None = refl
    go (Some p) = refl

-- the later list wins
pub last-append : (ps qs : List Pair) (k : List ℕ) → last (ps ++ qs) k ≡ overwritten (last ps) (last qs) k
last-append ps qs k = ap (λ x. value_in x k) (reverse-append ps qs) ∙ value_in-append (reverse qs) (reverse ps) k

-- the first pair gives way to the rest
pub last-cons : (p : Pair) (ps : List Pair) (k : List ℕ) → last (p ∷ ps) k ≡ option_or (last ps k) (if bytes_eq k p.key then Some p.value else None)
last-cons p ps k = last-append (p ∷ []) ps k ∙ ap (option_or (last ps k)) (value_in-cons p [] k)

-- the map, with a pair and then the list over it
pub overwritten-last : (m n : Values) (p : Pair) (ps : List Pair) (k : List ℕ) → n k ≡ (if bytes_eq k p.key then Some p.value else m k) → overwritten n (last ps) k ≡ overwritten m (last (p ∷ ps)) k
overwritten-last m n p ps k e = ap (option_or (last ps k)) e ∙ go (last ps k) (bytes_eq k p.key) ∙ ap (λ o. option_or o (m k)) (sym (last-cons p ps k))
  where
    go : (o : Option (List ℕ)) (b : Bool) → option_or o (cond b (Some p.value) (m k)) ≡ option_or (option_or o (cond b (Some p.value) None)) (m k)
    go (Some v) b = refl
    go None true = refl
    go None false = refl

-- ---- inserts in turn
pub run-append : (insert : Table → Pair → Option Table) (P : Table) (ps qs : List Pair) → run insert P (ps ++ qs) ≡ option_and_then (λ Q. run insert Q qs) (run insert P ps)
run-append insert P [] qs = refl
run-append insert P (p ∷ ps) qs = go (insert P p) (λ Q. run-append insert Q ps qs)
  where
    go : (o : Option Table) → ((Q : Table) → run insert Q (ps ++ qs) ≡ option_and_then (λ R. run insert R qs) (run insert Q ps))
        → option_and_then (λ Q. run insert Q (ps ++ qs)) o ≡ option_and_then (λ R. run insert R qs) (option_and_then (λ Q. run insert Q ps) o)
    go None ih = refl
    go (Some Q) ih = ih Q

-- one more insert
pub run-push : (insert : Table → Pair → Option Table) (P : Table) (ps : List Pair) (p : Pair) → run insert P (ps ++ p ∷ []) ≡ option_and_then (λ Q. insert Q p) (run insert P ps)
run-push insert P ps p = run-append insert P ps (p ∷ []) ∙ go (run insert P ps)
  where
    one : (o : Option Table) → option_and_then (λ Q. Some Q) o ≡ o
    one None = refl
    one (Some Q) = refl

    go : (o : Option Table) → option_and_then (λ Q. run insert Q (p ∷ [])) o ≡ option_and_then (λ Q. insert Q p) o
    go None = refl
    go (Some Q) = one (insert Q p)

-- an insert keeps I and the factor, counts a new key, and overwrites the map at the key alone
pub record IsInsert (F : Format) (I : Table → Type 0) (insert : Table → Pair → Option Table) : Type 0 where
  pub keeps : (P Q : Table) (p : Pair) → I P → IsPairOf F p → insert P p ≡ Some Q → I Q
  pub factor : (P Q : Table) (p : Pair) → I P → insert P p ≡ Some Q → Q.factor ≡ P.factor
  pub counts : (P Q : Table) (p : Pair) → I P → insert P p ≡ Some Q → count Q ≡ (if is_none (map_of P p.key) then count P + 1 else count P)
  pub maps : (P Q : Table) (p : Pair) → I P → insert P p ≡ Some Q → (k : List ℕ) → map_of Q k ≡ (if bytes_eq k p.key then Some p.value else map_of P k)

module _ (F : Format) (I : Table → Type 0) (insert : Table → Pair → Option Table) (is : IsInsert F I insert) where
  -- inserts in turn keep I
  pub run-keeps : (P Q : Table) (ps : List Pair) → I P → All (IsPairOf F) ps → run insert P ps ≡ Some Q → I Q
  run-keeps P Q [] ok fit e = subst I (some_same P Q e) ok
  run-keeps P Q (p ∷ ps) ok fit e =
      let t = and_then_some (λ R. run insert R ps) (insert P p) Q e in
      run-keeps t.0 Q ps (is.keeps P t.0 p ok (All-head (IsPairOf F) p ps fit) t.1) (All-tail (IsPairOf F) p ps fit) t.2

  -- inserts in turn keep the factor
  pub factor-run : (P Q : Table) (ps : List Pair) → I P → All (IsPairOf F) ps → run insert P ps ≡ Some Q → Q.factor ≡ P.factor
  factor-run P Q [] ok fit e = ap (λ (x : Table). x.factor) (sym (some_same P Q e))
  factor-run P Q (p ∷ ps) ok fit e =
      let t = and_then_some (λ R. run insert R ps) (insert P p) Q e in
      factor-run t.0 Q ps (is.keeps P t.0 p ok (All-head (IsPairOf F) p ps fit) t.1) (All-tail (IsPairOf F) p ps fit) t.2 ∙ is.factor P t.0 p ok t.1

  -- the map of last values over the map
  pub map_of-run : (P Q : Table) (ps : List Pair) → I P → All (IsPairOf F) ps → run insert P ps ≡ Some Q → (k : List ℕ) → map_of Q k ≡ overwritten (map_of P) (last ps) k
  map_of-run P Q [] ok fit e k = ap (λ x. map_of x k) (sym (some_same P Q e))
  map_of-run P Q (p ∷ ps) ok fit e k =
      let t = and_then_some (λ R. run insert R ps) (insert P p) Q e in
      map_of-run t.0 Q ps (is.keeps P t.0 p ok (All-head (IsPairOf F) p ps fit) t.1) (All-tail (IsPairOf F) p ps fit) t.2 k
      ∙ overwritten-last (map_of P) (map_of t.0) p ps k (is.maps P t.0 p ok t.1 k)

  -- each insert counts one pair at most
  pub count-run : (P Q : Table) (ps : List Pair) → I P → All (IsPairOf F) ps → run insert P ps ≡ Some Q → count Q ≤ count P + length ps
  count-run P Q [] ok fit e = let same = ap count (some_same P Q e) in omega arith
  count-run P Q (p ∷ ps) ok fit e =
      let t = and_then_some (λ R. run insert R ps) (insert P p) Q e in
      let rest = count-run t.0 Q ps (is.keeps P t.0 p ok (All-head (IsPairOf F) p ps fit) t.1) (All-tail (IsPairOf F) p ps fit) t.2 in
      go (is_none (map_of P p.key)) (is.counts P t.0 p ok t.1) rest
    where
      go : {n : ℕ} (b : Bool) → n ≡ cond b (count P + 1) (count P) → count Q ≤ n + length ps → count Q ≤ count P + length (p ∷ ps)
      go true h l = omega arith
      go false h l = omega arith
