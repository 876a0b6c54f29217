-- Lists of inserts into an owned table, as contracts see it: what follows from `IsPlainList`.
use Rattle.std.proofs.Common.{◌≡◌, ◌≤◌, ◌+◌, ◌∙◌, ℕ, refl, sym, ap, subst, arith, List, Some, Result, Ok, Err, take, length}
use Rattle.std.specs.Prelude.{IsOk, OnOk}
use Rattle.std.proofs.lemmas.List.{length-map, length-take-le}
use Rattle.odht_base.specs.Insert.{insert_owned}
use Rattle.odht_raw.specs.Words.{Coding, count, encoded, Error, factor_of, IsImage, max_items, slot_count, Table}
use Rattle.odht_base.specs.Table.{fresh}
use Rattle.odht_base.proofs.lemmas.FreeSlots.{fresh-slots, slot_count-empty, count-empty, max_items-holds}
use Rattle.odht.specs.Lists.{encoded_all, HasSizeOf, IsAfterInserts, IsFreshAfterInserts}
use Rattle.odht.specs.Plain.{KeepsSize, IsPlainList}
use Rattle.odht.proofs.lemmas.ListInserts.{fresh_inserted, inserted_all}

-- a fresh table has no pairs, and room for the items that it is made for
pub fresh_room : (n p : ℕ) (P : Table) → fresh n p ≡ Some P → (count P ≡ 0) × (count P + n ≤ max_items (slot_count P) P.factor)
fresh_room n p P new =
    let s = fresh-slots n p P new in
    let holds = max_items-holds n s.0 (factor_of p) s.1.holds in
    let empty : count P ≡ 0 = ap count (sym s.2) ∙ count-empty s.0 (factor_of p) in
    let slots : slot_count P ≡ s.0 = ap slot_count (sym s.2) ∙ slot_count-empty s.0 (factor_of p) in
    let factor : P.factor ≡ factor_of p = ap (λ (X : Table). X.factor) (sym s.2) in
    let most : max_items (slot_count P) P.factor ≡ max_items s.0 (factor_of p) = λ i. max_items (slots i) (factor i) in
    (empty, omega (arith, holds, empty, most))

-- the first n items as pairs are n
pub length-taken : {K V : Type 0} (c : Coding K V) (items : List (K × V)) (n : ℕ) → n ≤ length items → length (encoded_all c (take n items)) ≡ n
length-taken {K = K} {V = V} c items n within = length-map (take n items) (λ (t : K × V). encoded c t.0 t.1) ∙ length-take-le n items within

module _ {K V : Type 0} (c : Coding K V) (P Q : Table) (items : List (K × V)) (r : ℕ × Result Unit Error) (list : IsPlainList c P Q items r) where
  -- the size, by the pairs of the accepted items
  pub list_stays : KeepsSize P (length (encoded_all c (take r.0 items))) Q
  list_stays = subst (λ n. KeepsSize P n Q) (sym (length-taken c items r.0 list.bound)) list.stays

  -- the table after them, with its bytes
  pub list_after : (B : List ℕ) → IsImage c.format Q B → IsAfterInserts c.format (insert_owned c.format) P (encoded_all c (take r.0 items)) B
  list_after B is = record { table = Q; runs = list.inserted; image = is; maps = list.maps; stays = list_stays }

  -- a fresh table for as many items has not grown
  pub list_fits : (p : ℕ) → fresh (length items) p ≡ Some P → OnOk r.1 (HasSizeOf P Q)
  list_fits p new = go r.1 (λ ok. list.all.0 ok)
    where
      go : (a : Result Unit Error) → (IsOk a → r.0 ≡ length items) → OnOk a (HasSizeOf P Q)
      go (Ok u) all = (list.stays (omega (arith, all refl, (fresh_room (length items) p P new).1))).0
      go (Err e) all = tt

  -- and has at most as many pairs
  pub list_few : (p : ℕ) → fresh (length items) p ≡ Some P → r.0 ≡ length items → count Q ≤ length items
  list_few p new all =
      let room = fresh_room (length items) p P new in
      omega (arith, (list.stays (omega (arith, room.1, all))).1, all, room.0)

  -- so much of its bytes
  pub list_fresh : (p : ℕ) (B : List ℕ) → fresh (length items) p ≡ Some P → IsImage c.format Q B → OnOk r.1 (IsFreshAfterInserts c p items B)
  list_fresh p B new is = go r.1 (λ ok. list.all.0 ok)
    where
      go : (a : Result Unit Error) → (IsOk a → r.0 ≡ length items) → OnOk a (IsFreshAfterInserts c p items B)
      go (Ok u) all = fresh_inserted c p items B P new (inserted_all c (insert_owned c.format) P items r.0 B (omega (arith, all refl)) (list_after B is))
      go (Err x) all = tt
