-- Where a search in a placed table ends, and the map's value there.
use Rattle.std.proofs.Common.{◌≡◌, ◌<◌, ◌∙◌, ℕ, true, false, true≢false, sym, ap, refl, List, Option, Some, None, length, arith}
use Rattle.std.specs.Prelude.{is_none, option_map, option_and_then}
use Rattle.std.proofs.lemmas.Bool.{or_from, or_right, false_from_ne_true}
use Rattle.odht_base.specs.Format.{Format, home}
use Rattle.odht_base.specs.Map.{map_of}
use Rattle.odht_base.specs.Probe.{probe_slot}
use Rattle.odht_base.specs.Search.{search_end, stops_at}
use Rattle.odht_base.specs.Table.{Pair, Table, Cells, slot_count, cell_at, has_key}
use Rattle.odht_base.specs.Valid.{IsPlaced}
use Rattle.odht_base.proofs.lemmas.Options.{some_same}
use Rattle.odht_base.proofs.lemmas.Orders.{probe_slot-apart, find-order, find-order_none}
use Rattle.odht_base.proofs.lemmas.Pairs.{value_in-Some}
use Rattle.odht_base.proofs.lemmas.Placed.{AllArrive}
use Rattle.odht_base.proofs.lemmas.Places.{is_free-target}
use Rattle.odht_base.proofs.lemmas.SearchEnds.{IsTarget, has_key-holds, has_key-one, search_end-IsTarget}
use Rattle.std.proofs.lemmas.Option.{none-some}

-- in a placed table each pair is in the slot where a search for its key ends
pub AllArrive-IsPlaced : (F : Format) (P : Table) → IsPlaced F P → AllArrive F P
unfolding search_end
AllArrive-IsPlaced F P ok i p h =
    let r = ok.reached i p h in
    let here = has_key-holds P i p h in
    let b = home F p.key (slot_count P) in
    find-order (stops_at P.cells p.key) b (slot_count P) r.position r.in_order
    (ap (stops_at P.cells p.key) r.slot_is ∙ or_right _ _ here)
    (λ q l. or_from _ _ (r.earlier_occupied q l) (false_from_ne_true _ (λ g.
    let same = has_key-one F P p.key ok (probe_slot b (slot_count P) q) i g here in
    let lq : q < slot_count P = omega (arith, r.in_order) in
    let z = probe_slot-apart b (slot_count P) q r.position ok.slots lq r.in_order (same ∙ sym r.slot_is) in omega arith)))
    ∙ ap Some r.slot_is

-- a search in the order of k that met no stop before position n, and one at position n
pub search_end-at : (F : Format) (cs : Cells) (k : List ℕ) (n : ℕ) → n < length cs
    → ((m : ℕ) → m < n → stops_at cs k (probe_slot (home F k (length cs)) (length cs) m) ≡ false)
    → stops_at cs k (probe_slot (home F k (length cs)) (length cs) n) ≡ true
    → search_end F cs k ≡ Some (probe_slot (home F k (length cs)) (length cs) n)
unfolding search_end
search_end-at F cs k n l below here = find-order (stops_at cs k) (home F k (length cs)) (length cs) n l here below

-- a search that met no stop at all
pub search_end-nowhere : (F : Format) (cs : Cells) (k : List ℕ)
    → ((m : ℕ) → m < length cs → stops_at cs k (probe_slot (home F k (length cs)) (length cs) m) ≡ false)
    → search_end F cs k ≡ None
unfolding search_end
search_end-nowhere F cs k none = find-order_none (stops_at cs k) (home F k (length cs)) (length cs) none

-- the map has the value of the slot where the search ends
pub map_of-search_end : (F : Format) (P : Table) (k : List ℕ) → IsPlaced F P → map_of P k ≡ option_and_then (λ i. option_map (λ (p : Pair). p.value) (cell_at P.cells i)) (search_end F P.cells k)
map_of-search_end F P k ok = go (search_end F P.cells k) refl
  where
    at : (i : ℕ) → IsTarget F P k i → (c : Option Pair) → cell_at P.cells i ≡ c → (o : Option (List ℕ)) → map_of P k ≡ o → o ≡ option_map (λ (p : Pair). p.value) c
    at i t None e None m = refl
    at i t None e (Some v) m = absurd (true≢false (sym (ap is_none e) ∙ is_free-target F P k i t ∙ ap is_none m))
    at i t (Some p) e None m = absurd (true≢false (sym (ap is_none m) ∙ sym (is_free-target F P k i t) ∙ ap is_none e))
    at i t (Some p) e (Some v) m =
        let h = value_in-Some P.cells k v m in
        let j = t.others h.0 (ap (λ x. has_key x (cell_at P.cells h.0)) h.3 ∙ has_key-holds P h.0 h.1 h.2) in
        let same : h.1 ≡ p = some_same _ _ (sym h.2 ∙ ap (cell_at P.cells) j ∙ e) in
        ap Some (sym h.4 ∙ ap (λ (x : Pair). x.value) same)

    absent : search_end F P.cells k ≡ None → (o : Option (List ℕ)) → map_of P k ≡ o → o ≡ None
    absent e None m = refl
    absent e (Some v) m =
        let h = value_in-Some P.cells k v m in
        let a = AllArrive-IsPlaced F P ok h.0 h.1 h.2 in
        absurd (none-some h.0 (sym e ∙ ap (search_end F P.cells) h.3 ∙ a))

    go : (o : Option ℕ) → search_end F P.cells k ≡ o → map_of P k ≡ option_and_then (λ i. option_map (λ (p : Pair). p.value) (cell_at P.cells i)) o
    go None e = absent e (map_of P k) refl
    go (Some i) e = at i (search_end-IsTarget F P k ok i e) (cell_at P.cells i) refl (map_of P k) refl
