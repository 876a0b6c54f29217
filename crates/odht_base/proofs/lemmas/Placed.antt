-- A table is placed where each pair is in the slot where a search for its key ends, and tests decide it.
use Rattle.std.proofs.Common.{◌≡◌, ◌<◌, ◌∙◌, ℕ, zero, suc, Bool, true, ◌&&◌, nat_lt, ◌==◌, sym, ap, subst, List, [], ◌∷◌, Option, Some, None, length, arith, eqb-true, ltb-true, ◌+◌, zero-add}
use Rattle.std.specs.List.{list_all}
use Rattle.std.proofs.lemmas.Option.{slice_get_within}
use Rattle.std.proofs.lemmas.Bool.{and_parts, or_parts}
use Rattle.std.proofs.lemmas.List.Sums.{AllPass-from_list_all}
use Rattle.odht_base.specs.Format.{Format, home}
use Rattle.odht_base.specs.Load.{IsSlotCount}
use Rattle.odht_base.specs.Numbers.{IsBytes}
use Rattle.odht_base.specs.Probe.{order, probe_slot}
use Rattle.odht_base.specs.Search.{search_end, stops_at, is_at}
use Rattle.odht_base.specs.Table.{Pair, Table, Cells, slot_count, cell_at}
use Rattle.odht_base.specs.Valid.{IsPairOf, HasPairsOf, HoldsPair, IsReached, IsPlaced}
use Rattle.odht_base.proofs.lemmas.FirstMatch.{find-Some}
use Rattle.odht_base.proofs.lemmas.Keys.{cell_at-within}
use Rattle.odht_base.proofs.lemmas.Options.{some_same}
use Rattle.odht_base.proofs.lemmas.Orders.{length-order, slice_get-order}
use Rattle.std.proofs.lemmas.Option.{none-some}

-- each pair is in the slot where a search for its key ends
abbrev pub AllArrive : Format → Table → Type 0
AllArrive F P = (i : ℕ) (p : Pair) → HoldsPair P i p → search_end F P.cells p.key ≡ Some i

IsReached-search_end : (F : Format) (P : Table) (k : List ℕ) (i : ℕ) → search_end F P.cells k ≡ Some i → IsReached F P k i
unfolding search_end
IsReached-search_end F P k i e =
    let s = slot_count P in
    let b = home F k s in
    let first = find-Some (stops_at P.cells k) (order b s) i e in
    let in_order : first.position < s = subst (λ n. first.position < n) (length-order b s) (slice_get_within (order b s) first.position i first.is) in
    record {
      position = first.position;
      in_order = in_order;
      slot_is = some_same _ _ (sym (slice_get-order b s first.position in_order) ∙ first.is);
      earlier_occupied = λ q h. (or_parts _ _ (first.before q (probe_slot b s q) h (slice_get-order b s q (below q first.position s h in_order)))).0;
    }
  where
    below : (q n s : ℕ) → q < n → n < s → q < s
    below q n s h g = omega arith

pub IsPlaced-AllArrive : (F : Format) (P : Table) → IsSlotCount (slot_count P) → HasPairsOf F P.cells → AllArrive F P → IsPlaced F P
IsPlaced-AllArrive F P s pairs a = record {
  slots = s;
  pairs = pairs;
  distinct = λ i j p q hp hq e. some_same i j (sym (a i p hp) ∙ ap (search_end F P.cells) e ∙ a j q hq);
  reached = λ i p h. IsReached-search_end F P p.key i (a i p h);
}

-- the tests of a pair, and of its slot
abbrev pub is_bytes : ℕ → List ℕ → Bool
is_bytes w b = (length b == w) && list_all (λ x. nat_lt x 256) b

abbrev pub pair_fits : Format → Option Pair → Bool
pair_fits F None = true
pair_fits F (Some p) = is_bytes F.key_len p.key && is_bytes F.value_len p.value

abbrev pub arrives : Format → Cells → ℕ → Option Pair → Bool
arrives F cs i None = true
arrives F cs i (Some p) = is_at i (search_end F cs p.key)

abbrev pub all_arrive : Format → Cells → ℕ → Cells → Bool
all_arrive F cs i [] = true
all_arrive F cs i (c ∷ rest) = arrives F cs i c && all_arrive F cs (suc i) rest

IsBytes-is_bytes : (w : ℕ) (b : List ℕ) → is_bytes w b ≡ true → IsBytes w b
IsBytes-is_bytes w b h =
    let all = AllPass-from_list_all (λ x. nat_lt x 256) b (and_parts _ _ h).1 in
    record {
      len = eqb-true (length b) w (and_parts _ _ h).0;
      each = λ k d g. ltb-true _ 256 (all k d g);
    }

-- a pair that passes is one of the format
pub IsPairOf-pair_fits : (F : Format) (p : Pair) → pair_fits F (Some p) ≡ true → IsPairOf F p
IsPairOf-pair_fits F p t = record { key = IsBytes-is_bytes F.key_len p.key (and_parts _ _ t).0; value = IsBytes-is_bytes F.value_len p.value (and_parts _ _ t).1 }

pair_fits-at : (F : Format) (P : Table) → list_all (pair_fits F) P.cells ≡ true → (i : ℕ) (p : Pair) → HoldsPair P i p → pair_fits F (Some p) ≡ true
pair_fits-at F P h i p g =
    subst (λ c. pair_fits F c ≡ true) g (AllPass-from_list_all (pair_fits F) P.cells h i None (cell_at-within P.cells i p g))

-- a search that ends there
pub is_at-true : (i : ℕ) (o : Option ℕ) → is_at i o ≡ true → o ≡ Some i
is_at-true i None h = cc
is_at-true i (Some j) h = ap Some (sym (eqb-true i j h))

arrives-from : (F : Format) (cs : Cells) (n : ℕ) (rest : Cells) (i j : ℕ) (p : Pair) → all_arrive F cs n rest ≡ true → cell_at rest j ≡ Some p → n + j ≡ i → search_end F cs p.key ≡ Some i
arrives-from F cs n [] i j p h g e = absurd (none-some _ g)
arrives-from F cs n (c ∷ rest) i zero p h g e =
    let here = subst (λ d. arrives F cs n d ≡ true) g (and_parts _ _ h).0 in
    let at : n ≡ i = omega arith in
    subst (λ m. search_end F cs p.key ≡ Some m) at (is_at-true n (search_end F cs p.key) here)
arrives-from F cs n (c ∷ rest) i (suc j) p h g e = arrives-from F cs (suc n) rest i j p (and_parts _ _ h).1 g (omega arith)

-- the tests decide it
pub IsPlaced-tests : (F : Format) (P : Table) → IsSlotCount (slot_count P) → list_all (pair_fits F) P.cells ≡ true → all_arrive F P.cells 0 P.cells ≡ true → IsPlaced F P
IsPlaced-tests F P s fits arrive = IsPlaced-AllArrive F P s
    (λ i p h. IsPairOf-pair_fits F p (pair_fits-at F P fits i p h))
    (λ i p h. arrives-from F P.cells 0 P.cells i i p arrive h (zero-add i))
