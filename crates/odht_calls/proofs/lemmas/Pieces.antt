-- Keys or values that lie one after the other in bytes: how many there are, and what reads and writes one.
use Rattle.std.proofs.Common.{◌≡◌, ◌≤◌, ◌<◌, ◌+◌, ◌*◌, ◌∙◌, ◌++◌, ℕ, zero, suc, sym, ap, subst, refl, arith, List, [], ◌∷◌, Some, take, drop, set, length, length-take-le, length-drop, slice_get, zero-mul, suc-mul}
use Rattle.std.proofs.Math.Nat.{mul-le-mul_right}
use Rattle.std.proofs.lemmas.List.{drop-drop, drop-take, take-take, take_at, drop_at, take-append-le, drop-append-le}
use Rattle.std.proofs.lemmas.Slice.Zip.{length-zip}
use Rattle.std.specs.List.{zip}
use Rattle.odht_calls.specs.Pieces.{pieces, ArePieces, HavePieces}

-- there are as many as asked for
pub length-pieces : (len n : ℕ) (B : List ℕ) → length (pieces len n B) ≡ n
length-pieces len zero B = refl
length-pieces len (suc n) B = ap suc (length-pieces len n (drop len B))

-- each of them ends within the bytes
pub ends_within : (i n len m : ℕ) → i < n → m ≡ n * len → i * len + len ≤ m
ends_within i n len m low is =
    let most : suc i * len ≤ n * len = mul-le-mul_right len (omega (arith, low)) in
    let e = suc-mul i len in
    omega (arith, most, e, is)

-- where the next one begins
next : (i len : ℕ) → suc i * len ≡ len + i * len
next i len = let e = suc-mul i len in omega (arith, e)

-- piece i is these bytes
pub piece_at : (len n i : ℕ) (B : List ℕ) → i < n → slice_get (pieces len n B) i ≡ Some (take len (drop (i * len) B))
piece_at len zero i B low = absurd (omega (arith, low))
piece_at len (suc n) zero B low = ap (λ k. Some (take len (drop k B))) (sym (zero-mul len))
piece_at len (suc n) (suc i) B low =
    piece_at len n i (drop len B) (omega (arith, low)) ∙ ap (λ X. Some (take len X)) (drop-drop (i * len) len B ∙ ap (λ k. drop k B) (sym (next i len)))

-- and what is written there is piece i then, and no other changes
pub piece_put : (len n i at : ℕ) (B p : List ℕ) → at ≡ i * len → i < n → n * len ≤ length B → length p ≡ len
    → pieces len n (take at B ++ (p ++ drop (at + len) B)) ≡ set (pieces len n B) i p
piece_put len zero i at B p where_at low long size = absurd (omega (arith, low))
piece_put len (suc n) zero at B p where_at low long size =
    let start : at ≡ 0 = where_at ∙ zero-mul len in
    ap (λ k. pieces len (suc n) (take k B ++ (p ++ drop (k + len) B))) start
    ∙ ap (λ k. pieces len (suc n) (p ++ drop k B)) (omega arith)
    ∙ (λ j. take_at p (drop len B) len size j ∷ pieces len n (drop_at p (drop len B) len size j))
piece_put len (suc n) (suc i) at B p where_at low long size =
    let here : at ≡ len + i * len = where_at ∙ next i len in
    let all : len + n * len ≤ length B = subst (λ k. k ≤ length B) (next n len) long in
    let below : i * len ≤ n * len = mul-le-mul_right len (omega (arith, low)) in
    let front : length (take at B) ≡ at = length-take-le at B (omega (arith, here, all, below)) in
    let rest = p ++ drop (at + len) B in
    let first : take len (take at B ++ rest) ≡ take len B = take-append-le len (take at B) rest (omega (arith, front, here)) ∙ take-take len at B (omega (arith, here)) in
    let cut : drop len (take at B) ≡ take (i * len) (drop len B) = ap (λ k. drop len (take k B)) here ∙ drop-take len (i * len) B in
    let tail : drop (at + len) B ≡ drop (i * len + len) (drop len B) = ap (λ k. drop k B) (omega (arith, here)) ∙ sym (drop-drop (i * len + len) len B) in
    let others : drop len (take at B ++ rest) ≡ take (i * len) (drop len B) ++ (p ++ drop (i * len + len) (drop len B)) =
    drop-append-le len (take at B) rest (omega (arith, front, here)) ∙ (λ j. cut j ++ (p ++ tail j)) in
    let left : n * len ≤ length (drop len B) = omega (arith, all, length-drop len B) in
    (λ j. first j ∷ pieces len n (others j))
    ∙ ap (λ xs. take len B ∷ xs) (piece_put len n i (i * len) (drop len B) p refl (omega (arith, low)) left size)

-- the pair at an index of two lists
pub zip_at : {X Y : Type 0} (xs : List X) (ys : List Y) (i : ℕ) (x : X) (y : Y) → slice_get xs i ≡ Some x → slice_get ys i ≡ Some y → slice_get (zip xs ys) i ≡ Some (x, y)
zip_at [] ys i x y e f = absurd (let both = e in cc)
zip_at (a ∷ xs) [] i x y e f = absurd (let both = f in cc)
zip_at (a ∷ xs) (b ∷ ys) zero x y e f = (let one : Some a ≡ Some x = e in let two : Some b ≡ Some y = f in cc)
zip_at (a ∷ xs) (b ∷ ys) (suc i) x y e f = zip_at xs ys i x y e f

-- the first d of n pairs
pub first_pairs : (kl vl d n : ℕ) (ks vs : List ℕ) → d ≤ n → zip (pieces kl d ks) (pieces vl d vs) ≡ take d (zip (pieces kl n ks) (pieces vl n vs))
first_pairs kl vl zero n ks vs most = refl
first_pairs kl vl (suc d) zero ks vs most = absurd (omega (arith, most))
first_pairs kl vl (suc d) (suc n) ks vs most = ap (λ xs. (take kl ks, take vl vs) ∷ xs) (first_pairs kl vl d n (drop kl ks) (drop vl vs) (omega (arith, most)))

-- and their bytes
pub have_pieces : (kl vl d n : ℕ) (ks vs : List ℕ) → d ≤ n → ArePieces kl vl n ks vs → HavePieces kl vl d ks vs
have_pieces kl vl d n ks vs most all = record {
  keys = (let low = mul-le-mul_right kl most in omega (arith, low, all.keys));
  values = (let low = mul-le-mul_right vl most in omega (arith, low, all.values));
}

-- how many pairs there are
pub length-pairs : (kl vl n : ℕ) (ks vs : List ℕ) → length (zip (pieces kl n ks) (pieces vl n vs)) ≡ n
length-pairs kl vl n ks vs = omega (arith, length-zip (pieces kl n ks) (pieces vl n vs), length-pieces kl n ks, length-pieces vl n vs)

-- each of them is within the bytes
pub pair_within : (kl vl n i : ℕ) (ks vs : List ℕ) → HavePieces kl vl n ks vs → i < n → (i * kl + kl ≤ length ks) × (i * vl + vl ≤ length vs)
pair_within kl vl n i ks vs have low =
    let key = ends_within i n kl (n * kl) low refl in
    let value = ends_within i n vl (n * vl) low refl in
    (omega (arith, key, have.keys), omega (arith, value, have.values))
