-- The first place of a byte, in lanes and after parts where it is not.
use Rattle.std.proofs.Common.{◌≡◌, ◌∙◌, ℕ, ◌+◌, ◌-◌, ◌^◌, ◌%◌, ◌<◌, ◌≤◌, ◌≢◌, ◌==◌, Bool, true, false, true≢false, refl, cond, not, All, List, ◌++◌, length, map, replicate, take, drop, get_or, nat_eq, sym, ap, subst, arith, w8, take_all, take-append-drop, eq-eqb, ne_eqb, eqb, length-drop, length-take-le, get_or-take}
use Rattle.std.specs.Io.{StopsAt, IsEmptyOrEndsWith}
use Rattle.std.specs.List.{prefix_len, position_or_len}
use Rattle.std.proofs.Transfers.{StopsAt-take}
use Rattle.std.proofs.lemmas.Bool.{both_ways, not-true, not-false, eqb-true, cond-true, cond-false}
use Rattle.std.proofs.lemmas.List.{drop-drop}
use Rattle.std.proofs.lemmas.List.Folds.{prefix_len-append}
use Rattle.std.proofs.lemmas.List.Sums.{prefix_len-le-length, prefix_len_passes, prefix_len_stops}
use Rattle.std.proofs.lemmas.Simd.{bitmask_splat, first_set_mask_l}
use lib.Count.{count_trailing_zeros}
use lib.Lanes.{mask_l, zip2, top}

-- the lowest bit of the mask of sixteen lanes that were compared with a byte
pub lane_place : (bytes : List ℕ) (byte : ℕ) → length bytes ≡ 16
    → mask_l (map (top 7) (zip2 (λ a b. cond (nat_eq a b) (2 ^ 8 - 1) 0) (take 16 bytes) (replicate 16 byte))) % 2 ^ 64 ≢ 0
    → count_trailing_zeros 64 (mask_l (map (top 7) (zip2 (λ a b. cond (nat_eq a b) (2 ^ 8 - 1) 0) (take 16 bytes) (replicate 16 byte))) % 2 ^ 64) ≡ position_or_len (λ x. x == byte) bytes
lane_place bytes byte long some =
    let p = λ (x : ℕ). nat_eq x byte in
    let front = take 16 bytes in
    let whole : front ≡ bytes = take_all 16 bytes (omega arith) in
    let front_long : length front ≡ 16 = ap length whole ∙ long in
    let mask = bitmask_splat w8 (λ a b. nat_eq a b) front 16 byte front_long (omega arith) in
    let other : mask_l (map p front) ≡ 0 → ⊥ = λ e. some (mask ∙ e) in
    let first = first_set_mask_l p front 16 front_long (omega arith) in
    ap (count_trailing_zeros 64) mask ∙ sym (cond-false (eqb (mask_l (map p front)) 0) 16 (count_trailing_zeros 64 (mask_l (map p front))) (ne_eqb _ 0 other)) ∙ first ∙ ap (position_or_len p) whole

module _ (p : ℕ → Bool) (xs : List ℕ) (at : ℕ) where
  -- sixteen further bytes without it
  pub place_more : at + 16 ≤ length xs → 16 ≤ position_or_len p (take 16 (drop at xs)) → position_or_len p xs ≡ at + position_or_len p (drop at xs)
      → position_or_len p xs ≡ at + 16 + position_or_len p (drop (at + 16) xs)
  place_more l none h =
      let q = λ (x : ℕ). not (p x) in
      let part = take 16 (drop at xs) in
      let rest = drop 16 (drop at xs) in
      let long : length part ≡ 16 = length-take-le 16 (drop at xs) (omega (arith, length-drop at xs)) in
      let full : prefix_len q part ≡ length part = omega (arith, prefix_len-le-length q part, long) in
      let whole : prefix_len q (part ++ rest) ≡ prefix_len q (drop at xs) = ap (prefix_len q) (take-append-drop 16 (drop at xs)) in
      let parts = prefix_len-append q part rest in
      let sum : prefix_len q (drop at xs) ≡ length part + prefix_len q rest = sym whole ∙ parts ∙ cond-true (eqb (prefix_len q part) (length part)) (length part + prefix_len q rest) (prefix_len q part) (eq-eqb _ _ full) in
      let behind : prefix_len q rest ≡ prefix_len q (drop (at + 16) xs) = ap (prefix_len q) (drop-drop 16 at xs) in
      omega (arith, h, sum, long, behind)

  -- the place is as far behind the first bytes, where it is not before their end
  pub place_behind : at ≤ position_or_len p xs → position_or_len p xs ≡ at + position_or_len p (drop at xs)
  place_behind behind = go (eqb (prefix_len q front) (length front)) refl
    where
      q : ℕ → Bool
      q x = not (p x)

      front : List ℕ
      front = take at xs

      long : length front ≡ at
      long = length-take-le at xs (omega (arith, behind, prefix_len-le-length q xs))

      parts : prefix_len q xs ≡ cond (eqb (prefix_len q front) (length front)) (length front + prefix_len q (drop at xs)) (prefix_len q front)
      parts = sym (ap (prefix_len q) (take-append-drop at xs)) ∙ prefix_len-append q front (drop at xs)

      go : (b : Bool) → eqb (prefix_len q front) (length front) ≡ b → prefix_len q xs ≡ at + prefix_len q (drop at xs)
      go true e = parts ∙ cond-true _ (length front + prefix_len q (drop at xs)) (prefix_len q front) e ∙ ap (λ n. n + prefix_len q (drop at xs)) long
      go false e =
          let short : prefix_len q xs ≡ prefix_len q front = parts ∙ cond-false _ (length front + prefix_len q (drop at xs)) (prefix_len q front) e in
          let same : prefix_len q front ≡ length front = omega (arith, short, behind, long, prefix_len-le-length q front) in
          absurd (true≢false (sym (eq-eqb _ _ same) ∙ e))

-- the bytes through the first line feed
pub through_place : (shown : List ℕ) (place : ℕ) → place ≡ position_or_len (λ x. x == 10) shown → place < length shown → StopsAt (take (place + 1) shown) 10 × IsEmptyOrEndsWith (take (place + 1) shown) 10
through_place shown place is l =
    let q = λ (x : ℕ). not (x == 10) in
    let front = take place shown in
    let front_long : length front ≡ place = length-take-le place shown (omega arith) in
    let before : All (λ x. x ≢ 10) front = λ k d inside e.
    let here : k < place = omega (arith, front_long) in
    let passes = prefix_len_passes q shown k d (omega (arith, is)) in
    both_ways (get_or shown k d == 10) (not-true _ passes) (eq-eqb _ 10 (sym (get_or-take place shown k d here) ∙ e)) in
    let back : place + 1 - 1 ≡ place = omega arith in
    let part = take (place + 1) shown in
    let part_long : length part ≡ place + 1 = length-take-le (place + 1) shown (omega arith) in
    let last : length part - 1 ≡ place = omega (arith, part_long) in
    let stop = prefix_len_stops q shown 0 (omega (arith, is)) in
    let feed : get_or shown place 0 ≡ 10 = ap (λ k. get_or shown k 0) is ∙ eqb-true _ 10 (not-false _ stop) in (
      StopsAt-take shown 10 (place + 1) (omega arith) (subst (λ k. All (λ x. x ≢ 10) (take k shown)) (sym back) before),
      λ some. ap (λ k. get_or part k 0) last ∙ get_or-take (place + 1) shown place 0 (omega arith) ∙ feed,
    )
