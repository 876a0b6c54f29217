-- A walk into arrays that is at its end, or full.
use Rattle.std.proofs.Common.{◌≡◌, ◌≤◌, ◌+◌, ◌*◌, ◌-◌, ◌∙◌, ◌++◌, ℕ, zero, suc, sym, ap, subst, refl, arith, List, [], ◌∷◌, None, is_none, map, take, drop, length, length-append, length-drop}
use Rattle.std.proofs.Math.Seq.{take-append_seam}
use Rattle.std.proofs.lemmas.List.{length-map, drop-map, drop_all, drop_at}
use Rattle.std.specs.Prelude.{filter_map}
use Rattle.odht_base.specs.Format.{entry_len}
use Rattle.odht_base.specs.Decoded.{decoded_table, header_slots, entries_of, controls_of}
use Rattle.odht_base.specs.SlotWalks.{walk_from, slots_from}
use Rattle.odht_base.specs.Table.{Pair, Table, slot_count}
use Rattle.odht_base.specs.Valid.{IsImage}
use Rattle.odht_base.proofs.lemmas.Fits.{IsSized-IsPlaced}
use Rattle.odht_base.proofs.lemmas.Image.{header_slots-image}
use Rattle.odht_base.proofs.lemmas.SlotWalks.{pairs-slots_from, walk_from-goes_on, holds_there}
use Rattle.odht_header.specs.Coding.{Coding}
use Rattle.odht_raw.specs.Frame.{IsAccepted}
use Rattle.odht_header.specs.Refusals.{opening_refusal}
use Rattle.odht_raw.specs.Walks.{decoded, decoded_all, decoded_slots}
use Rattle.odht_raw.proofs.lemmas.Accepted.{accepted_len}
use Rattle.odht_raw.proofs.lemmas.SlotFits.{length-decoded_cells}
use Rattle.odht_calls.specs.Walks.{IsWalked, WalkAnswers}
use Rattle.odht_calls.specs.Statuses.{done, too_small}
use Rattle.odht_calls.proofs.lemmas.Refused.{not_none}

-- ---- lists
-- the first elements of what f makes of a list
take-map : {X Y : Type 0} (f : X → Y) (n : ℕ) (xs : List X) → take n (map f xs) ≡ map f (take n xs)
take-map f zero [] = refl
take-map f zero (x ∷ xs) = refl
take-map f (suc n) [] = refl
take-map f (suc n) (x ∷ xs) = ap (λ ys. f x ∷ ys) (take-map f n xs)

-- one part of one part of each element
parts_of : {S K V W : Type 0} (f : K × V → W) (xs : List (S × (K × V))) → map (λ x. f x.1) xs ≡ map f (map (λ x. x.1) xs)
parts_of f [] = refl
parts_of f (x ∷ xs) = ap (λ ys. f x.1 ∷ ys) (parts_of f xs)

module _ {K V : Type 0} (c : Coding K V) where
  -- the pairs of decoded slots
  pairs-decoded : (xs : List (ℕ × Pair)) → map (λ (x : ℕ × (K × V)). x.1) (decoded_slots c xs) ≡ decoded_all c (map (λ (x : ℕ × Pair). x.1) xs)
  pairs-decoded [] = refl
  pairs-decoded (x ∷ xs) = ap (λ ys. decoded c x.1 ∷ ys) (pairs-decoded xs)

  -- the slot of the first of them
  first_slot : (xs : List (ℕ × Pair)) (slot : ℕ) (pair : K × V) (rest : List (ℕ × (K × V))) → decoded_slots c xs ≡ (slot, pair) ∷ rest
      → (p : Pair) × (more : List (ℕ × Pair)) × (xs ≡ (slot, p) ∷ more)
  first_slot [] slot pair rest e = absurd (let both : [] ≡ (slot, pair) ∷ rest = e in cc)
  first_slot (x ∷ xs) slot pair rest e =
      let both : (x.0, decoded c x.1) ∷ decoded_slots c xs ≡ (slot, pair) ∷ rest = e in
      let first : (x.0, decoded c x.1) ≡ (slot, pair) = cc in
      let at : x.0 ≡ slot = ap (λ (y : ℕ × (K × V)). y.0) first in
      (x.1, xs, λ j. (at j, x.1) ∷ xs)

-- ---- a walk over a table from a slot on
module _ {K V : Type 0} (c : Coding K V) (P : Table) (at : ℕ) (all ys zs : List (ℕ × (K × V))) (ks ks' : List K) (vs vs' : List V) (n : ℕ)
    (is : all ≡ decoded_slots c (slots_from P at)) (steps : all ≡ ys ++ zs) (long : n ≡ length ys) (fits : n ≤ length ks)
    (keys : ks' ≡ map (λ x. x.1.0) ys ++ drop n ks) (values : vs' ≡ map (λ x. x.1.1) ys ++ drop n vs) where
  pairs : map (λ (x : ℕ × (K × V)). x.1) all ≡ decoded_all c (walk_from P at)
  pairs = ap (map (λ (x : ℕ × (K × V)). x.1)) is ∙ pairs-decoded c (slots_from P at) ∙ ap (decoded_all c) (pairs-slots_from P at)

  front : map (λ (x : ℕ × (K × V)). x.1) ys ≡ take n (decoded_all c (walk_from P at))
  front =
      let first : take n all ≡ ys = ap (λ xs. take n xs) steps ∙ ap (λ m. take m (ys ++ zs)) long ∙ take-append_seam ys zs in
      ap (map (λ (x : ℕ × (K × V)). x.1)) (sym first) ∙ sym (take-map (λ (x : ℕ × (K × V)). x.1) n all) ∙ ap (take n) pairs

  size : length (walk_from P at) ≡ n + length zs
  size =
      let decoded_len : length (decoded_all c (walk_from P at)) ≡ length (walk_from P at) = length-map (walk_from P at) (decoded c) in
      let pairs_len : length (map (λ (x : ℕ × (K × V)). x.1) all) ≡ length all = length-map all (λ (x : ℕ × (K × V)). x.1) in
      omega (arith, decoded_len, pairs_len, ap length pairs, ap length steps, length-append ys zs, long)

  keys_are : ks' ≡ map (λ x. x.0) (take n (decoded_all c (walk_from P at))) ++ drop n ks
  keys_are = keys ∙ ap (λ xs. xs ++ drop n ks) (parts_of (λ (x : K × V). x.0) ys ∙ ap (map (λ (x : K × V). x.0)) front)

  values_are : vs' ≡ map (λ x. x.1) (take n (decoded_all c (walk_from P at))) ++ drop n vs
  values_are = values ∙ ap (λ xs. xs ++ drop n vs) (parts_of (λ (x : K × V). x.1) ys ∙ ap (map (λ (x : K × V). x.1)) front)

  -- the arrays take all pairs
  pub walked_all : zs ≡ [] → (at' : ℕ) → at' ≡ slot_count P → IsWalked c P at ks vs done at' ks' vs' n
  walked_all end at' past = (
      let none : length zs ≡ 0 = ap length end in
      record {
        known = omega (arith, size, none, fits);
        keys = keys_are;
        values = values_are;
        left = ap (filter_map (λ c. c)) (drop_all at' P.cells (omega (arith, past))) ∙ sym (drop_all n (walk_from P at) (omega (arith, size, none)));
        all = λ room. (refl, past);
        more = λ less. absurd (omega (arith, size, none, fits, less));
      })

  -- the arrays are full, and pairs are left
  pub walked_full : (slot : ℕ) (pair : K × V) (rest : List (ℕ × (K × V))) → zs ≡ (slot, pair) ∷ rest → length ks ≤ n → IsWalked c P at ks vs too_small slot ks' vs' n
  walked_full slot pair rest next full = (
      let some : length zs ≡ suc (length rest) = ap length next in
      let behind : decoded_slots c (drop n (slots_from P at)) ≡ (slot, pair) ∷ rest =
      sym (drop-map (λ (x : ℕ × Pair). (x.0, decoded c x.1)) n (slots_from P at)) ∙ ap (drop n) (sym is ∙ steps) ∙ drop_at ys zs n (sym long) ∙ next in
      let there = first_slot c (drop n (slots_from P at)) slot pair rest behind in
      record {
        known = omega (arith, size, some, fits, full);
        keys = keys_are;
        values = values_are;
        left = walk_from-goes_on P at n slot there.0 there.1 there.2;
        all = λ room. absurd (omega (arith, size, some, full, room));
        more = λ less. (refl, ap is_none (holds_there P at n slot there.0 there.1 there.2));
      })

-- accepted bytes decode to as many slots as their header says
decoded_table-slots : {K V : Type 0} (c : Coding K V) (B : List ℕ) → IsAccepted c.format B → slot_count (decoded_table c.format B) ≡ header_slots B
decoded_table-slots c B is =
    let long : length (controls_of c.format B) ≡ length B - (32 + header_slots B * entry_len c.format) = length-drop (32 + header_slots B * entry_len c.format) B in
    length-decoded_cells c.format (entries_of c.format B) (controls_of c.format B) ∙ omega (arith, long, accepted_len c.format B is)

-- a walk over the table that a view of the bytes T has is one over the bytes B of the caller
pub accepted_walk : {K V : Type 0} (c : Coding K V) (B T : List ℕ) (all : List (ℕ × (K × V))) (at : ℕ) (ks : List K) (vs : List V) (n s at' : ℕ) (ks' : List K) (vs' : List V) (n' : ℕ)
    → length vs ≡ length ks → None ≡ opening_refusal c.format B → T ≡ B
    → ((P : Table) → IsImage c.format P T → all ≡ decoded_slots c (slots_from P at)) → all ≡ decoded_slots c (slots_from (decoded_table c.format T) at)
    → ((P : Table) → all ≡ decoded_slots c (slots_from P at) → slot_count P ≡ header_slots B → IsWalked c P at ks vs s at' ks' vs' n') → WalkAnswers c B at ks vs n s at' ks' vs' n'
accepted_walk c B T all at ks vs n s at' ks' vs' n' equal none same valid any walked = record {
  lengths = λ other. absurd (other equal);
  refused = λ e long is. not_none _ e is (sym none);
  on_valid = λ P long is. walked P (valid P (subst (IsImage c.format P) (sym same) is))
      (sym (ap header_slots is.bytes ∙ header_slots-image c.format P (IsSized-IsPlaced c.format P is.valid.placed)));
  on_any = λ long is. walked (decoded_table c.format B) (any ∙ ap (λ X. decoded_slots c (slots_from (decoded_table c.format X) at)) same) (decoded_table-slots c B is);
}
