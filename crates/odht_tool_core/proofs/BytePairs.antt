-- Pairs of bytes of two lengths in one buffer, and keys.
use Rattle.std.proofs.Common.{◌≡◌, ◌∙◌, ◌+◌, ◌*◌, ◌<◌, ◌≤◌, ℕ, suc, zero, List, [], ◌∷◌, ◌++◌, length, take, drop, map, option_map, Some, refl, sym, ap, ap₂, arith, length-drop, drop-drop, take-take, mul-le-mul_right}
use Rattle.std.proofs.lemmas.List.{append-nil, length-map, map-append, take-append-le, drop-append-le, drop-take, take_all, take_at, drop_at}
use Rattle.std.proofs.lemmas.Option.{slice_get-map}
use Rattle.std.specs.List.{slice_get}
use Rattle.odht_base.specs.Bytes.{bytes_at}
use Rattle.odht_base.proofs.lemmas.ByteRanges.{bytes_at-take, length-bytes_at}
use Rattle.odht_tool_core.specs.PairLines.{AreParts}
use Rattle.odht_tool_core.specs.Pairs.{IsAdded, IsLineAdded, keys_in, pairs_in}
use Rattle.odht_tool_core.specs.declared.failure.LineFault.TheVariants.{NoTab, Key, Value}
use Rattle.odht_tool_core.specs.declared.misread.Wanted.{Wanted}
use Rattle.odht_tool_core.specs.declared.pairs.Added.{Added}
use Rattle.odht_tool_core.specs.declared.pairs.Added.TheVariants.{Pair, Fault, NoMemory}

module _ (k v : ℕ) where
  pub length-pairs : (n : ℕ) (b : List ℕ) → length (pairs_in k v n b) ≡ n
  unfolding pairs_in
  length-pairs zero b = refl
  length-pairs (suc n) b = ap suc (length-pairs n (drop (k + v) b))

  -- one pair behind those that fill the bytes
  pub pairs_more : (n : ℕ) (b key value : List ℕ) → length b ≡ n * (k + v) → length key ≡ k → length value ≡ v
      → pairs_in k v (suc n) (b ++ (key ++ value)) ≡ pairs_in k v n b ++ ((key, value) ∷ [])
  unfolding pairs_in
  pairs_more zero (_ ∷ _) key value l lk lv = let no : ⊥ = omega (arith, l) in elim no [ ]
  pairs_more zero [] key value l lk lv =
      let front : take k (key ++ value) ≡ key = take_at key value k lk in
      let back : take v (drop k (key ++ value)) ≡ value = ap (take v) (drop_at key value k lk) ∙ take_all v value (omega (arith, lv)) in
      λ i. (front i, back i) ∷ []
  pairs_more (suc n) b key value l lk lv =
      let c = key ++ value in
      let s : length b ≡ k + v + n * (k + v) = omega (arith, l) in
      let front : take k (b ++ c) ≡ take k b = take-append-le k b c (omega (arith, s)) in
      let rest = length-drop k b in
      let back : take v (drop k (b ++ c)) ≡ take v (drop k b) =
      ap (take v) (drop-append-le k b c (omega (arith, s))) ∙ take-append-le v (drop k b) c (omega (arith, s, rest)) in
      let left : length (drop (k + v) b) ≡ n * (k + v) = omega (arith, s, length-drop (k + v) b) in
      let later = ap (pairs_in k v (suc n)) (drop-append-le (k + v) b c (omega (arith, s))) ∙ pairs_more n (drop (k + v) b) key value left lk lv in
      λ i. (front i, back i) ∷ later i

  -- the pair at an index
  pub pair_at : (n i : ℕ) (b : List ℕ) → i < n
      → slice_get (pairs_in k v n b) i ≡ Some (take k (drop (i * (k + v)) b), take v (drop (i * (k + v) + k) b))
  unfolding pairs_in
  pair_at zero i b l = elim l [ ]
  pair_at (suc n) zero b l =
      let key : 0 ≡ 0 * (k + v) = omega arith in
      let value : k ≡ 0 * (k + v) + k = omega arith in
      λ i. Some (take k (drop (key i) b), take v (drop (value i) b))
  pair_at (suc n) (suc i) b l =
      let key : k + v + i * (k + v) ≡ suc i * (k + v) = omega arith in
      let value : k + v + (i * (k + v) + k) ≡ suc i * (k + v) + k = omega arith in
      pair_at n i (drop (k + v) b) (omega (arith, l))
      ∙ ap₂ (λ (x y : List ℕ). Some (take k x, take v y)) (drop-drop (i * (k + v)) (k + v) b ∙ ap (λ j. drop j b) key)
      (drop-drop (i * (k + v) + k) (k + v) b ∙ ap (λ j. drop j b) value)

  pub within : (n i : ℕ) (b : List ℕ) → i < n → length b ≡ n * (k + v) → (i + 1) * (k + v) ≤ length b
  within n i b low l = let m : suc i * (k + v) ≤ n * (k + v) = mul-le-mul_right (k + v) low in omega (arith, m, l)

  -- the same in one piece of the bytes
  pub pair_in : (n i : ℕ) (b : List ℕ) → i < n
      → slice_get (pairs_in k v n b) i ≡ Some (take k (bytes_at b (i * (k + v)) (k + v)), drop k (bytes_at b (i * (k + v)) (k + v)))
  pair_in n i b low =
      let rest = drop (i * (k + v)) b in
      let is = bytes_at-take b (i * (k + v)) (k + v) in
      let key : take k (take (k + v) rest) ≡ take k rest = take-take k (k + v) rest (omega arith) in
      let value : drop k (take (k + v) rest) ≡ take v (drop (i * (k + v) + k) b) = drop-take k v rest ∙ ap (take v) (drop-drop k (i * (k + v)) b) in
      pair_at n i b low ∙ sym (ap₂ (λ (x y : List ℕ). Some (x, y)) (ap (take k) is ∙ key) (ap (drop k) is ∙ value))

-- the same of keys
module _ (k : ℕ) where
  pub length-keys : (n : ℕ) (b : List ℕ) → length (keys_in k n b) ≡ n
  length-keys n b = length-map (pairs_in k 0 n b) (λ p. p.0) ∙ length-pairs k 0 n b

  filled : (n : ℕ) (b : List ℕ) → length b ≡ n * k → length b ≡ n * (k + 0)
  filled n b l = let none : k ≡ k + 0 = omega arith in l ∙ ap (λ (m : ℕ). n * m) none

  pub keys_more : (n : ℕ) (b key : List ℕ) → length b ≡ n * k → length key ≡ k → keys_in k (suc n) (b ++ key) ≡ keys_in k n b ++ (key ∷ [])
  keys_more n b key l lk =
      ap (λ (c : List ℕ). keys_in k (suc n) (b ++ c)) (sym (append-nil key))
      ∙ ap (map (λ (p : List ℕ × List ℕ). p.0)) (pairs_more k 0 n b key [] (filled n b l) lk refl)
      ∙ map-append (λ (p : List ℕ × List ℕ). p.0) (pairs_in k 0 n b) ((key, []) ∷ [])

  pub key_within : (n i : ℕ) (b : List ℕ) → i < n → length b ≡ n * k → (i + 1) * (k + 0) ≤ length b
  key_within n i b low l = within k 0 n i b low (filled n b l)

  pub key_in : (n i : ℕ) (b : List ℕ) → i < n → length b ≡ n * k → slice_get (keys_in k n b) i ≡ Some (bytes_at b (i * (k + 0)) (k + 0))
  key_in n i b low l =
      let inside = key_within n i b low l in
      let len = length-bytes_at b (i * (k + 0)) (k + 0) (omega (arith, inside)) in
      slice_get-map (λ (p : List ℕ × List ℕ). p.0) (pairs_in k 0 n b) i
      ∙ ap (option_map (λ (p : List ℕ × List ℕ). p.0)) (pair_in k 0 n i b low)
      ∙ ap Some (take_all k (bytes_at b (i * (k + 0)) (k + 0)) (omega (arith, len)))

-- so is what became of a line, where it has these parts
pub line_added : {X Y : Type 0} (d : ℕ) (w : Wanted) (KW : List ℕ → Type 0) (K : List ℕ → X → Type 0) (VW : List ℕ → Type 0) (V : List ℕ → Y → Type 0)
    (line front back : List ℕ) (old new : List (X × Y)) → AreParts d w line front back
    → (a : Added) → IsAdded KW K VW V front back old new a → IsLineAdded d w KW K VW V line old new a
line_added d w KW K VW V line front back old new parts Pair h = (h.0, h.1, record { front = front; back = back; parts = parts; key = h.2; value = h.3 })
line_added d w KW K VW V line front back old new parts (Fault NoTab) h = elim h.1 [ ]
line_added d w KW K VW V line front back old new parts (Fault Key) h = (h.0, (front, back, parts, h.1))
line_added d w KW K VW V line front back old new parts (Fault Value) h = (h.0, (front, back, parts, h.1.0, h.1.1))
line_added d w KW K VW V line front back old new parts NoMemory h = h
