-- The pieces of bytes, one after the other, and the state of `fx` after them.
use Rattle.std.proofs.Common.{◌≡◌, ℕ, ◌+◌, ◌-◌, ◌/◌, ◌%◌, ◌<◌, ◌≤◌, suc, zero, List, [], ◌∷◌, length, take, drop, map, fold, get_or, refl, sym, ap, ◌∙◌, arith, length-drop, length-take}
use Rattle.std.specs.Int.{Width, w16, w32, w64, byte_len, from_le_bytes}
use Rattle.odht_base.specs.Hashes.{fx_step, piece_lengths, pieces}
use Rattle.odht_base.specs.Numbers.{num}
use Rattle.odht_base.proofs.lemmas.Words.{from_le_bytes-num}

-- ---- the lengths of the pieces
-- eight bytes more are one more piece of eight
piece_lengths-8 : (m : ℕ) → piece_lengths (m + 8) ≡ 8 ∷ piece_lengths m
piece_lengths-8 m =
    let a : (m + 8) / 8 ≡ suc (m / 8) = omega arith in
    let b : (m + 8) / 4 % 2 ≡ m / 4 % 2 = omega arith in
    let c : (m + 8) / 2 % 2 ≡ m / 2 % 2 = omega arith in
    let d : (m + 8) % 2 ≡ m % 2 = omega arith in
    rw (a, b, c, d) refl

-- four to seven bytes begin with a piece of four
piece_lengths-4 : (m : ℕ) → m < 4 → piece_lengths (m + 4) ≡ 4 ∷ piece_lengths m
piece_lengths-4 zero l = refl
piece_lengths-4 (suc zero) l = refl
piece_lengths-4 (suc (suc zero)) l = refl
piece_lengths-4 (suc (suc (suc zero))) l = refl
piece_lengths-4 (suc (suc (suc (suc m)))) l = absurd (omega arith)

-- two or three bytes begin with a piece of two
piece_lengths-2 : (m : ℕ) → m < 2 → piece_lengths (m + 2) ≡ 2 ∷ piece_lengths m
piece_lengths-2 zero l = refl
piece_lengths-2 (suc zero) l = refl
piece_lengths-2 (suc (suc m)) l = absurd (omega arith)

-- so the first piece is cut off
cut_first : (k m : ℕ) (b : List ℕ) → length b ≡ m + k → piece_lengths (m + k) ≡ k ∷ piece_lengths m → pieces b ≡ take k b ∷ pieces (drop k b)
unfolding pieces
cut_first k m b l e =
    let rest : length (drop k b) ≡ m = omega (arith, length-drop k b) in
    rw (l, e, rest) refl

pieces-8 : (b : List ℕ) → 8 ≤ length b → pieces b ≡ take 8 b ∷ pieces (drop 8 b)
pieces-8 b l = cut_first 8 (length b - 8) b (omega arith) (piece_lengths-8 (length b - 8))

pieces-4 : (b : List ℕ) → 4 ≤ length b → length b < 8 → pieces b ≡ take 4 b ∷ pieces (drop 4 b)
pieces-4 b l h = cut_first 4 (length b - 4) b (omega arith) (piece_lengths-4 (length b - 4) (omega arith))

pieces-2 : (b : List ℕ) → 2 ≤ length b → length b < 4 → pieces b ≡ take 2 b ∷ pieces (drop 2 b)
pieces-2 b l h = cut_first 2 (length b - 2) b (omega arith) (piece_lengths-2 (length b - 2) (omega arith))

pieces-1 : (x : ℕ) → pieces (x ∷ []) ≡ (x ∷ []) ∷ []
unfolding pieces
pieces-1 x = refl

pieces-0 : pieces [] ≡ []
unfolding pieces
pieces-0 = refl

-- ---- the state of `fx`
-- the state after the pieces of b, from the state s on
abbrev pub ended : ℕ → List ℕ → ℕ
ended s b = fold fx_step s (map num (pieces b))

-- a piece p of k bytes, read as the number x, and the rest r
ended-piece : (w : Width) (k s x t : ℕ) (b p r : List ℕ) → byte_len w ≡ k → 0 < k → k ≤ length b → pieces b ≡ take k b ∷ pieces (drop k b) → p ≡ take k b → r ≡ drop k b → x ≡ from_le_bytes w p → t ≡ fx_step s x → ended s b ≡ ended t r
ended-piece w k s x t b p r len pos l first ep er ex et =
    let n : x ≡ num (take k b) = ex ∙ ap (from_le_bytes w) ep ∙ from_le_bytes-num w (take k b) (omega (arith, length-take k b)) (omega arith) in
    rw (first, er, et, n) refl

pub ended-8 : (s x t : ℕ) (b p r : List ℕ) → 8 ≤ length b → p ≡ take 8 b → r ≡ drop 8 b → x ≡ from_le_bytes w64 p → t ≡ fx_step s x → ended s b ≡ ended t r
ended-8 s x t b p r l ep er ex et = ended-piece w64 8 s x t b p r refl (omega arith) l (pieces-8 b l) ep er ex et

pub ended-4 : (s x t : ℕ) (b p r : List ℕ) → 4 ≤ length b → length b < 8 → p ≡ take 4 b → r ≡ drop 4 b → x ≡ from_le_bytes w32 p → t ≡ fx_step s x → ended s b ≡ ended t r
ended-4 s x t b p r l h ep er ex et = ended-piece w32 4 s x t b p r refl (omega arith) l (pieces-4 b l h) ep er ex et

pub ended-2 : (s x t : ℕ) (b p r : List ℕ) → 2 ≤ length b → length b < 4 → p ≡ take 2 b → r ≡ drop 2 b → x ≡ from_le_bytes w16 p → t ≡ fx_step s x → ended s b ≡ ended t r
ended-2 s x t b p r l h ep er ex et = ended-piece w16 2 s x t b p r refl (omega arith) l (pieces-2 b l h) ep er ex et

-- the last byte
pub ended-last : (s t : ℕ) (b : List ℕ) → 1 ≤ length b → length b < 2 → t ≡ fx_step s (get_or b 0 0) → ended s b ≡ t
ended-last s t [] l h e = absurd (omega arith)
ended-last s t (x ∷ []) l h e =
    let n : num (x ∷ []) ≡ x = omega arith in
    rw (pieces-1 x) (ap (fx_step s) n ∙ sym e)
ended-last s t (x ∷ y ∷ r) l h e = absurd (omega arith)

-- no byte
pub ended-none : (s t : ℕ) (b : List ℕ) → length b < 1 → t ≡ s → ended s b ≡ t
ended-none s t [] h e = rw pieces-0 (sym e)
ended-none s t (x ∷ r) h e = absurd (omega arith)
