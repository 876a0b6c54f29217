-- The pieces of XXH64, one after the other, and its accumulators and states after them.
use Rattle.std.proofs.Common.{◌≡◌, ℕ, ◌+◌, ◌-◌, ◌*◌, ◌/◌, ◌^◌, ◌<◌, ◌≤◌, suc, List, [], ◌∷◌, length, take, drop, map, fold, refl, sym, ap, ◌∙◌, arith, lt-ltb, le-ltb, length-drop, length-take}
use Rattle.std.specs.Int.{Width, w32, w64, byte_len, from_le_bytes}
use Rattle.std.proofs.lemmas.List.{drop-drop}
use Rattle.odht_base.specs.Bytes.{bytes_at}
use Rattle.odht_base.specs.Numbers.{num}
use Rattle.odht_base.specs.Xxh64.{whole, rest, round, accumulated, converged, opening, prime_1, prime_2, prime_5, plus}
use Rattle.odht_base.proofs.lemmas.Words.{from_le_bytes-num}

-- ---- pieces of w bytes
-- one piece more is in front of the others
whole-more : (w : ℕ) (b : List ℕ) → length b / w ≡ suc (length (drop w b) / w) → whole w b ≡ take w b ∷ whole w (drop w b)
unfolding whole
whole-more w b e = rw e refl

rest-more : (w : ℕ) (b : List ℕ) → length b / w ≡ suc (length (drop w b) / w) → rest w b ≡ rest w (drop w b)
unfolding rest
rest-more w b e =
    let len : length b / w * w ≡ w + length (drop w b) / w * w = omega (arith, ap (λ k. k * w) e) in
    ap (λ n. drop n b) len ∙ sym (drop-drop (length (drop w b) / w * w) w b)

-- fewer bytes have none
whole-none : (w : ℕ) (b : List ℕ) → length b / w ≡ 0 → whole w b ≡ []
unfolding whole
whole-none w b e = rw e refl

rest-none : (w : ℕ) (b : List ℕ) → length b / w ≡ 0 → rest w b ≡ b
unfolding rest
rest-none w b e =
    let none : length b / w * w ≡ 0 = omega (arith, ap (λ k. k * w) e) in
    ap (λ n. drop n b) none

-- ---- stripes
stripe-more : (b : List ℕ) → 32 ≤ length b → length b / 32 ≡ suc (length (drop 32 b) / 32)
stripe-more b l = omega (arith, length-drop 32 b)

-- an accumulator after the lane of one stripe, p, with r behind it
pub accumulated-more : (k a x t : ℕ) (b p r : List ℕ) → 32 ≤ length b → p ≡ take 32 b → r ≡ drop 32 b → x ≡ num (bytes_at p (8 * k) 8) → t ≡ round a x → accumulated k a b ≡ accumulated k t r
unfolding accumulated
accumulated-more k a x t b p r l ep er ex et =
    let first = whole-more 32 b (stripe-more b l) in
    let lane : x ≡ num (bytes_at (take 32 b) (8 * k) 8) = ex ∙ ap (λ q. num (bytes_at q (8 * k) 8)) ep in
    rw (first, er, et, lane) refl

pub rest-stripe : (b r : List ℕ) → 32 ≤ length b → r ≡ drop 32 b → rest 32 b ≡ rest 32 r
rest-stripe b r l er = rest-more 32 b (stripe-more b l) ∙ ap (rest 32) (sym er)

-- with no stripe left
pub accumulated-none : (k a : ℕ) (b : List ℕ) → length b < 32 → accumulated k a b ≡ a
unfolding accumulated
accumulated-none k a b h =
    let none = whole-none 32 b (omega (arith, h)) in
    rw none refl

pub rest-no_stripe : (b : List ℕ) → length b < 32 → rest 32 b ≡ b
rest-no_stripe b h = rest-none 32 b (omega (arith, h))

-- ---- the state after the stripes
pub opening-short : (b : List ℕ) → length b < 32 → opening b ≡ prime_5
unfolding opening
opening-short b h =
    let short = lt-ltb (length b) 32 h in
    rw short refl

pub opening-long : (b : List ℕ) → 32 ≤ length b → opening b ≡ converged (accumulated 0 (plus prime_1 prime_2) b) (accumulated 1 prime_2 b) (accumulated 2 0 b) (accumulated 3 (2 ^ 64 - prime_1) b)
unfolding opening
opening-long b h =
    let long = le-ltb (length b) 32 h in
    rw long refl

-- ---- the state behind the stripes
-- the state s after pieces of w bytes, by a step
abbrev pub consumed : (ℕ → ℕ → ℕ) → ℕ → ℕ → List ℕ → ℕ
consumed step w s b = fold step s (map num (whole w b))

-- a piece p of w bytes, read as the number x, and the rest r
consumed-piece : (step : ℕ → ℕ → ℕ) (v : Width) (w s x t : ℕ) (b p r : List ℕ) → byte_len v ≡ w → 0 < w → w ≤ length b → length b / w ≡ suc (length (drop w b) / w) → p ≡ take w b → r ≡ drop w b → x ≡ from_le_bytes v p → t ≡ step s x
    → consumed step w s b ≡ consumed step w t r
consumed-piece step v w s x t b p r len pos l more ep er ex et =
    let first = whole-more w b more in
    let n : x ≡ num (take w b) = ex ∙ ap (from_le_bytes v) ep ∙ from_le_bytes-num v (take w b) (omega (arith, length-take w b)) (omega arith) in
    rw (first, er, et, n) refl

pub consumed-8 : (step : ℕ → ℕ → ℕ) (s x t : ℕ) (b p r : List ℕ) → 8 ≤ length b → p ≡ take 8 b → r ≡ drop 8 b → x ≡ from_le_bytes w64 p → t ≡ step s x → (consumed step 8 s b ≡ consumed step 8 t r) × (rest 8 b ≡ rest 8 r)
consumed-8 step s x t b p r l ep er ex et =
    let more : length b / 8 ≡ suc (length (drop 8 b) / 8) = omega (arith, length-drop 8 b) in
    (consumed-piece step w64 8 s x t b p r refl (omega arith) l more ep er ex et, rest-more 8 b more ∙ ap (rest 8) (sym er))

pub consumed-4 : (step : ℕ → ℕ → ℕ) (s x t : ℕ) (b p r : List ℕ) → 4 ≤ length b → length b < 8 → p ≡ take 4 b → r ≡ drop 4 b → x ≡ from_le_bytes w32 p → t ≡ step s x → (consumed step 4 s b ≡ t) × (rest 4 b ≡ r)
consumed-4 step s x t b p r l h ep er ex et =
    let more : length b / 4 ≡ suc (length (drop 4 b) / 4) = omega (arith, length-drop 4 b) in
    let left : length r / 4 ≡ 0 = omega (arith, ap length er, length-drop 4 b) in (
      consumed-piece step w32 4 s x t b p r refl (omega arith) l more ep er ex et ∙ ap (λ q. fold step t (map num q)) (whole-none 4 r left),
      rest-more 4 b more ∙ ap (rest 4) (sym er) ∙ rest-none 4 r left,
    )

-- no piece
pub consumed-none : (step : ℕ → ℕ → ℕ) (w s : ℕ) (b : List ℕ) → length b / w ≡ 0 → (consumed step w s b ≡ s) × (rest w b ≡ b)
consumed-none step w s b e = (ap (λ q. fold step s (map num q)) (whole-none w b e), rest-none w b e)
