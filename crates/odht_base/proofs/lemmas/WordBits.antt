-- The masks of a group of eight bytes in one word.
use Rattle.std.proofs.Common.{◌≡◌, ℕ, zero, suc, ◌+◌, ◌-◌, ◌*◌, ◌/◌, ◌%◌, ◌^◌, ◌<◌, ◌≤◌, ◌⊎◌, inl, inr, Bool, true, false, cond, ◌&&◌, List, [], ◌∷◌, length, map, get_or, refl, sym, ap, ap₂, ◌∙◌, arith, subst, bit_and, bit_xor, nat_le, nat_lt}
use Rattle.std.proofs.lemmas.List.{length-map}
use Rattle.std.specs.Prelude.{slice_get}
use Rattle.std.specs.List.{Contains}
use Rattle.std.proofs.lemmas.Nat.Bits.{and_pow}
use Rattle.std.proofs.Math.Nat.{pow-suc}
use lib.Bits.{xor_comm, and_zero_r, and_block, xor_block, xor_lt, xor_self, xor_assoc, xor_zero_r}
use lib.Lanes.{zip2}
use native.Mathlib.Decide.{dec_le, dec_lt}
use mathlib.Core.Bool.{true≢false}
use borrow.Author.Tests.{le-leb, lt-leb, lt-ltb, le-ltb, ltb-true}
use Rattle.odht_base.specs.Numbers.{num}
use Rattle.odht_base.specs.Masks.{bits_from, set_bytes}
use Rattle.odht_base.specs.Groups.{first_free, IsWordReport}
use Rattle.odht_base.proofs.lemmas.MaskBits.{even_step, odd_step, no_bits, first_is_position}
use Rattle.odht_base.proofs.lemmas.MarkedPositions.{positions_of, rising, true_at, position_at}

-- each element is a byte
abbrev pub Fit : List ℕ → Type 0
Fit xs = (k : ℕ) → get_or xs k 0 < 256

-- n bytes c, as a number
rep : ℕ → ℕ → ℕ
rep zero c = 0
rep (suc n) c = c + 256 * rep n c

-- for each answer, a byte of 128 where it is true and of 0 where it is false
abbrev marks : List Bool → ℕ
marks [] = 0
marks (b ∷ bs) = cond b 128 0 + 256 * marks bs

-- ---- the bit positions of the marks
abbrev eights : ℕ → ℕ
eights zero = 0
eights (suc n) = suc (suc (suc (suc (suc (suc (suc (suc (eights n))))))))

-- eight steps
eight_on : (i : ℕ) → i + 1 + 1 + 1 + 1 + 1 + 1 + 1 + 1 ≡ i + 8
eight_on i = omega arith

-- a byte of zero has no set bit
unmarked : (k i r : ℕ) → bits_from (suc (suc (suc (suc (suc (suc (suc (suc k)))))))) i (256 * r) ≡ bits_from k (i + 8) r
unmarked k i r =
    even_step _ _ (256 * r) (128 * r) (omega arith)
    ∙ even_step _ _ (128 * r) (64 * r) (omega arith)
    ∙ even_step _ _ (64 * r) (32 * r) (omega arith)
    ∙ even_step _ _ (32 * r) (16 * r) (omega arith)
    ∙ even_step _ _ (16 * r) (8 * r) (omega arith)
    ∙ even_step _ _ (8 * r) (4 * r) (omega arith)
    ∙ even_step _ _ (4 * r) (2 * r) (omega arith)
    ∙ even_step _ _ (2 * r) r (omega arith)
    ∙ ap (λ j. bits_from k j r) (eight_on i)

-- a byte of 128 has one set bit
marked : (k i r : ℕ) → bits_from (suc (suc (suc (suc (suc (suc (suc (suc k)))))))) i (128 + 256 * r) ≡ (i + 7) ∷ bits_from k (i + 8) r
marked k i r =
    even_step _ _ (128 + 256 * r) (64 + 128 * r) (omega arith)
    ∙ even_step _ _ (64 + 128 * r) (32 + 64 * r) (omega arith)
    ∙ even_step _ _ (32 + 64 * r) (16 + 32 * r) (omega arith)
    ∙ even_step _ _ (16 + 32 * r) (8 + 16 * r) (omega arith)
    ∙ even_step _ _ (8 + 16 * r) (4 + 8 * r) (omega arith)
    ∙ even_step _ _ (4 + 8 * r) (2 + 4 * r) (omega arith)
    ∙ even_step _ _ (2 + 4 * r) (1 + 2 * r) (omega arith)
    ∙ odd_step _ _ (1 + 2 * r) r (omega arith)
    ∙ ap₂ (λ a j. a ∷ bits_from k j r) (let e : i + 1 + 1 + 1 + 1 + 1 + 1 + 1 ≡ i + 7 = omega arith in e) (eight_on i)

-- the positions of the marks, in bytes, are those of the true answers
marked_positions : (i : ℕ) (bs : List Bool) → map (λ j. j / 8) (bits_from (eights (length bs)) (8 * i) (marks bs)) ≡ positions_of i bs
marked_positions i [] = rw (no_bits 0 (8 * i)) refl
marked_positions i (true ∷ bs) =
    let next : 8 * i + 8 ≡ 8 * (i + 1) = omega arith in
    let at : (8 * i + 7) / 8 ≡ i = omega arith in
    ap (map (λ j. j / 8)) (marked (eights (length bs)) (8 * i) (marks bs))
    ∙ ap₂ (λ a r. a ∷ r) at (ap (λ j. map (λ j. j / 8) (bits_from (eights (length bs)) j (marks bs))) next ∙ marked_positions (i + 1) bs)
marked_positions i (false ∷ bs) =
    let next : 8 * i + 8 ≡ 8 * (i + 1) = omega arith in
    let none : 0 + 256 * marks bs ≡ 256 * marks bs = omega arith in
    ap (λ m. map (λ j. j / 8) (bits_from (eights (suc (length bs))) (8 * i) m)) none
    ∙ ap (map (λ j. j / 8)) (unmarked (eights (length bs)) (8 * i) (marks bs))
    ∙ ap (λ j. map (λ j. j / 8) (bits_from (eights (length bs)) j (marks bs))) next
    ∙ marked_positions (i + 1) bs

-- the same of eight marks
marked_bytes : (bs : List Bool) → length bs ≡ 8 → set_bytes (marks bs) ≡ positions_of 0 bs
marked_bytes bs l =
    let e : eights (length bs) ≡ 64 = ap eights l in
    sym (ap (λ k. map (λ j. j / 8) (bits_from k 0 (marks bs))) e) ∙ marked_positions 0 bs

-- ---- byte by byte
-- the lowest byte by itself
and_bytes : (x c a b : ℕ) → x < 256 → c < 256 → bit_and (x + 256 * a) (c + 256 * b) ≡ bit_and x c + 256 * bit_and a b
and_bytes x c a b p q =
    let l : x + 256 * a ≡ a * 2 ^ 8 + x = omega arith in
    let r : c + 256 * b ≡ b * 2 ^ 8 + c = omega arith in
    ap₂ bit_and l r ∙ and_block 8 a b x c p q ∙ omega arith

-- the same for xor
xor_bytes : (x c a b : ℕ) → x < 256 → c < 256 → bit_xor (x + 256 * a) (c + 256 * b) ≡ bit_xor x c + 256 * bit_xor a b
xor_bytes x c a b p q =
    let l : x + 256 * a ≡ a * 2 ^ 8 + x = omega arith in
    let r : c + 256 * b ≡ b * 2 ^ 8 + c = omega arith in
    ap₂ bit_xor l r ∙ xor_block 8 a b x c p q ∙ omega arith

-- the highest bit of a byte is set exactly where the byte is 128 or more
high_bit : (x : ℕ) → x < 256 → bit_and x 128 ≡ cond (nat_le 128 x) 128 0
high_bit x l =
    elim (dec_le 128 x) [ yes p ↦ rw (le-leb 128 x p) (omega (arith, and_pow x 7)) | no p ↦ rw (lt-leb 128 x (omega arith)) (omega (arith, and_pow x 7)) ]

-- the same for all bytes at once
high_bits : (g : List ℕ) → Fit g → bit_and (num g) (rep (length g) 128) ≡ marks (map (λ x. nat_le 128 x) g)
unfolding rep
high_bits [] f = refl
high_bits (x ∷ g) f = and_bytes x 128 (num g) (rep (length g) 128) (f 0) (omega arith) ∙ ap₂ (λ a b. a + 256 * b) (high_bit x (f 0)) (high_bits g (λ k. f (suc k)))

-- xor with a repeated byte goes byte by byte
xor_all : (h : ℕ) (g : List ℕ) → h < 256 → Fit g → bit_xor (num g) (rep (length g) h) ≡ num (map (λ x. bit_xor x h) g)
unfolding rep
xor_all h [] l f = refl
xor_all h (x ∷ g) l f = xor_bytes x h (num g) (rep (length g) h) (f 0) l ∙ ap (λ b. bit_xor x h + 256 * b) (xor_all h g l (λ k. f (suc k)))

-- the weight of one more byte
pow_next : (n : ℕ) → 256 ^ suc n ≡ 256 * 256 ^ n
pow_next n = omega (arith, pow-suc 256 n)

-- a number and that of its bytes' complements
complement : (xs : List ℕ) → Fit xs → num (map (λ x. 255 - x) xs) + num xs + 1 ≡ 256 ^ length xs
complement [] f = refl
complement (x ∷ xs) f = let ih = complement xs (λ k. f (suc k)) in omega (arith, ih, f 0, pow_next (length xs))

-- each byte loses 1 and what is borrowed from it: what it borrows from the next one
abbrev borrowed : ℕ → ℕ → ℕ
borrowed b x = cond (nat_lt x (1 + b)) 1 0

-- the bytes that are left
lowered : ℕ → List ℕ → List ℕ
lowered b [] = []
lowered b (x ∷ xs) = ((x + 256 - (1 + b)) % 256) ∷ lowered (borrowed b x) xs

-- what is borrowed beyond the last byte
owed : ℕ → List ℕ → ℕ
owed b [] = b
owed b (x ∷ xs) = 256 * owed (borrowed b x) xs

-- which bytes borrow
borrows : ℕ → List ℕ → List Bool
borrows b [] = []
borrows b (x ∷ xs) = nat_lt x (1 + b) ∷ borrows (borrowed b x) xs

-- at most one is borrowed
borrowed_le : (b x : ℕ) → borrowed b x ≤ 1
borrowed_le b x = elim (dec_lt x (1 + b)) [ yes p ↦ rw (lt-ltb x (1 + b) p) (omega arith) | no p ↦ rw (le-ltb x (1 + b) (omega arith)) (omega arith) ]

-- the subtraction at one byte
one_byte : (b x : ℕ) → b ≤ 1 → x < 256 → (x + 256 - (1 + b)) % 256 + 1 + b ≡ x + 256 * borrowed b x
one_byte b x l f = elim (dec_lt x (1 + b)) [ yes p ↦ rw (lt-ltb x (1 + b) p) (omega arith) | no p ↦ rw (le-ltb x (1 + b) (omega arith)) (omega arith) ]

-- the subtraction of a one from each byte
lowered_sum : (b : ℕ) (xs : List ℕ) → b ≤ 1 → Fit xs → num (lowered b xs) + rep (length xs) 1 + b ≡ num xs + owed b xs
unfolding lowered owed rep
lowered_sum b [] l f = omega arith
lowered_sum b (x ∷ xs) l f =
    let ih = lowered_sum (borrowed b x) xs (borrowed_le b x) (λ k. f (suc k)) in
    omega (arith, ih, one_byte b x l (f 0))

-- beyond the last byte nothing or one is borrowed
owed_is : (b : ℕ) (xs : List ℕ) → b ≤ 1 → (owed b xs ≡ 0) ⊎ (owed b xs ≡ 256 ^ length xs)
unfolding owed
owed_is zero [] l = inl refl
owed_is (suc zero) [] l = inr refl
owed_is (suc (suc b)) [] l = absurd (omega arith)
owed_is b (x ∷ xs) l =
    elim (owed_is (borrowed b x) xs (borrowed_le b x)) [ inl e ↦ inl (omega arith) | inr e ↦ inr (omega (arith, pow_next (length xs))) ]

-- the bytes that are left are a number of as many bytes
lowered_lt : (b : ℕ) (xs : List ℕ) → num (lowered b xs) < 256 ^ length xs
unfolding lowered
lowered_lt b [] = omega arith
lowered_lt b (x ∷ xs) = omega (arith, lowered_lt (borrowed b x) xs, pow_next (length xs))

-- there are as many of them
length-lowered : (b : ℕ) (xs : List ℕ) → length (lowered b xs) ≡ length xs
unfolding lowered
length-lowered b [] = refl
length-lowered b (x ∷ xs) = ap suc (length-lowered (borrowed b x) xs)

-- and each is a byte
lowered_Fit : (b : ℕ) (xs : List ℕ) → Fit (lowered b xs)
unfolding lowered
lowered_Fit b [] k = omega arith
lowered_Fit b (x ∷ xs) zero = omega arith
lowered_Fit b (x ∷ xs) (suc k) = lowered_Fit (borrowed b x) xs k

-- the wrapping subtraction of the ones, byte by byte
ones_taken : (xs : List ℕ) → length xs ≡ 8 → Fit xs → (num xs + 18374403900871474943) % 18446744073709551616 ≡ num (lowered 0 xs)
unfolding rep
ones_taken xs l f =
    let total = lowered_sum 0 xs (omega arith) f in
    let ones : rep (length xs) 1 ≡ 72340172838076673 = ap (λ n. rep n 1) l in
    let top : 256 ^ length xs ≡ 18446744073709551616 = ap (λ n. 256 ^ n) l in
    elim (owed_is 0 xs (omega arith)) [ inl e ↦ omega (arith, total, ones, top, lowered_lt 0 xs) | inr e ↦ omega (arith, total, ones, top, lowered_lt 0 xs) ]

-- the highest bit, masked
high_of_both : (x : ℕ) (b : Bool) → x < 256 → bit_and x (cond b 128 0) ≡ cond (nat_le 128 x && b) 128 0
high_of_both x true l = high_bit x l ∙ elim (nat_le 128 x) as (λ t. ◌≡◌ {A = ℕ} (cond t 128 0) (cond (t && true) 128 0)) [ true ↦ refl | false ↦ refl ]
high_of_both x false l = and_zero_r x ∙ elim (nat_le 128 x) as (λ t. ◌≡◌ {A = ℕ} 0 (cond (t && false) 128 0)) [ true ↦ refl | false ↦ refl ]

-- a mark is a byte
mark_lt : (b : Bool) → cond b 128 0 < 256
mark_lt true = omega arith
mark_lt false = omega arith

-- the highest bits, masked byte by byte
and_marks : (xs : List ℕ) (bs : List Bool) → length xs ≡ length bs → Fit xs → bit_and (num xs) (marks bs) ≡ marks (zip2 (λ x b. nat_le 128 x && b) xs bs)
and_marks [] [] l f = refl
and_marks [] (b ∷ bs) l f = absurd (omega arith)
and_marks (x ∷ xs) [] l f = absurd (omega arith)
and_marks (x ∷ xs) (b ∷ bs) l f =
    and_bytes x (cond b 128 0) (num xs) (marks bs) (f 0) (mark_lt b) ∙ ap₂ (λ m r. m + 256 * r) (high_of_both x b (f 0)) (and_marks xs bs (omega arith) (λ k. f (suc k)))

-- a byte is reported where it borrows
test_of : (b x : ℕ) → b ≤ 1 → x < 256 → (nat_le 128 ((x + 256 - (1 + b)) % 256) && nat_le 128 (255 - x)) ≡ nat_lt x (1 + b)
test_of b x l f =
    elim (dec_lt x (1 + b)) [
      | yes p ↦ rw (lt-ltb x (1 + b) p, le-leb 128 ((x + 256 - (1 + b)) % 256) (omega arith), le-leb 128 (255 - x) (omega arith)) refl
      | no p ↦
          elim (dec_lt x 128) [
            | yes q ↦ rw (le-ltb x (1 + b) (omega arith), lt-leb 128 ((x + 256 - (1 + b)) % 256) (omega arith)) refl
            | no q ↦ rw (le-ltb x (1 + b) (omega arith), lt-leb 128 (255 - x) (omega arith)) (elim (nat_le 128 ((x + 256 - (1 + b)) % 256)) as (λ t. (t && false) ≡ false) [ true ↦ refl | false ↦ refl ])
          ]
    ]

-- the same for all bytes
reported : (b : ℕ) (xs : List ℕ) → b ≤ 1 → Fit xs → zip2 (λ x t. nat_le 128 x && t) (lowered b xs) (map (λ x. nat_le 128 x) (map (λ x. 255 - x) xs)) ≡ borrows b xs
unfolding lowered borrows
reported b [] l f = refl
reported b (x ∷ xs) l f = ap₂ (λ t r. t ∷ r) (test_of b x l (f 0)) (reported (borrowed b x) xs (borrowed_le b x) (λ k. f (suc k)))

-- complements are bytes
complement_Fit : (xs : List ℕ) → Fit (map (λ x. 255 - x) xs)
complement_Fit [] k = omega arith
complement_Fit (x ∷ xs) zero = omega arith
complement_Fit (x ∷ xs) (suc k) = complement_Fit xs k

-- xor of bytes gives bytes
xored_Fit : (h : ℕ) (g : List ℕ) → h < 256 → Fit g → Fit (map (λ x. bit_xor x h) g)
xored_Fit h [] l f k = omega arith
xored_Fit h (x ∷ g) l f zero = xor_lt 8 x h (f 0) l
xored_Fit h (x ∷ g) l f (suc k) = xored_Fit h g l (λ j. f (suc j)) k

-- the mask of the bytes that borrow
eq_mask_of : (xs : List ℕ) → length xs ≡ 8 → Fit xs → bit_and ((num xs + 18374403900871474943) % 18446744073709551616) (bit_and (18446744073709551615 - num xs) 9259542123273814144) ≡ marks (borrows 0 xs)
unfolding rep
eq_mask_of xs l f =
    let flipped = map (λ x. 255 - x) xs in
    let len = length-map xs (λ x. 255 - x) in
    let top : 256 ^ length xs ≡ 18446744073709551616 = ap (λ n. 256 ^ n) l in
    let not_is : 18446744073709551615 - num xs ≡ num flipped = omega (arith, complement xs f, top) in
    let mask : 9259542123273814144 ≡ rep (length flipped) 128 = sym (ap (λ n. rep n 128) (len ∙ l)) in
    ap₂ bit_and (ones_taken xs l f) (ap₂ bit_and not_is mask ∙ high_bits flipped (complement_Fit xs))
    ∙ and_marks (lowered 0 xs) (map (λ x. nat_le 128 x) flipped) (length-lowered 0 xs ∙ sym len ∙ sym (length-map flipped (λ x. nat_le 128 x))) (lowered_Fit 0 xs)
    ∙ ap marks (reported 0 xs (omega arith) f)

-- one answer for each byte
length-borrows : (b : ℕ) (xs : List ℕ) → length (borrows b xs) ≡ length xs
unfolding borrows
length-borrows b [] = refl
length-borrows b (x ∷ xs) = ap suc (length-borrows (borrowed b x) xs)

-- a byte borrows where it is 0, or is 1 and the one below it borrows
Below : ℕ → List ℕ → ℕ → Type 0
Below b xs i = ((i ≡ 0) × (b ≡ 1)) ⊎ ((j : ℕ) × (j + 1 ≡ i) × (get_or (borrows b xs) j false ≡ true))

-- a borrow of one is a true answer
borrow_true : (t : Bool) → ◌≡◌ {A = ℕ} (cond t 1 0) 1 → t ≡ true
borrow_true true e = refl
borrow_true false e = absurd (omega arith)

-- so a byte that borrows is one of these two
borrows_at : (b : ℕ) (xs : List ℕ) (i : ℕ) → b ≤ 1 → get_or (borrows b xs) i false ≡ true → (i < length xs) × ((get_or xs i 0 ≡ 0) ⊎ ((get_or xs i 0 ≡ 1) × Below b xs i))
unfolding borrows Below
borrows_at b [] i l e = absurd (true≢false (sym e))
borrows_at b (zero ∷ xs) zero l e = (omega arith, inl refl)
borrows_at b (suc x ∷ xs) zero l e =
    let h : suc x < 1 + b = ltb-true (suc x) (1 + b) e in
    (omega arith, inr (omega arith, inl (refl, omega arith)))
borrows_at b (x ∷ xs) (suc i) l e =
    let ih = borrows_at (borrowed b x) xs i (borrowed_le b x) e in (
      omega (arith, ih.0),
      elim ih.1 [
        | inl z ↦ inl z
        | inr o ↦
            inr (
              o.0,
              inr (elim o.1 [
                | inl s ↦ (0, omega (arith, s.0), borrow_true (nat_lt x (1 + b)) s.1)
                | inr s ↦ (suc s.0, omega (arith, s.1), s.2)
              ]),
            )
      ],
    )

-- a zero always borrows
zero_borrows : (b : ℕ) (xs : List ℕ) (i : ℕ) → i < length xs → get_or xs i 0 ≡ 0 → get_or (borrows b xs) i false ≡ true
unfolding borrows
zero_borrows b [] i l e = absurd (omega arith)
zero_borrows b (x ∷ xs) zero l e = lt-ltb x (1 + b) (omega arith)
zero_borrows b (x ∷ xs) (suc i) l e = zero_borrows (borrowed b x) xs i (omega arith) e

-- xor twice
xor_back : (x h v : ℕ) → bit_xor x h ≡ v → x ≡ bit_xor h v
xor_back x h v e =
    sym (xor_zero_r x) ∙ ap (bit_xor x) (sym (xor_self h)) ∙ sym (xor_assoc x h h) ∙ ap (λ y. bit_xor y h) e ∙ xor_comm v h

-- xor at one index
map_xor : (h : ℕ) (g : List ℕ) (i : ℕ) → i < length g → get_or (map (λ x. bit_xor x h) g) i 0 ≡ bit_xor (get_or g i 0) h
map_xor h [] i l = absurd (omega arith)
map_xor h (x ∷ g) zero l = refl
map_xor h (x ∷ g) (suc i) l = map_xor h g i (omega arith)

-- the positions of the bytes that borrow are a word's report
word_report : (g : List ℕ) (h : ℕ) → h < 128 → IsWordReport g h (positions_of 0 (borrows 0 (map (λ x. bit_xor x h) g)))
unfolding Below
word_report g h small =
    let xs = map (λ x. bit_xor x h) g in
    let len = length-map g (λ x. bit_xor x h) in
    let at = λ (i : ℕ) (c : Contains (positions_of 0 (borrows 0 xs)) i). borrows_at 0 xs i (omega arith) (true_at (borrows 0 xs) i c) in
    let inside = λ (i : ℕ) (c : Contains (positions_of 0 (borrows 0 xs)) i). (let q : i < length g = omega (arith, (at i c).0, len) in q) in
    let others = λ (i : ℕ) (c : Contains (positions_of 0 (borrows 0 xs)) i). (let o : (get_or g i 0 ≡ h) ⊎ ((get_or g i 0 ≡ bit_xor h 1) × ((j : ℕ) × (j + 1 ≡ i) × Contains (positions_of 0 (borrows 0 xs)) j)) = elim (at i c).1 [
      | inl z ↦ inl (xor_back (get_or g i 0) h 0 (sym (map_xor h g i (inside i c)) ∙ z) ∙ xor_zero_r h)
      | inr o ↦ inr (
        xor_back (get_or g i 0) h 1 (sym (map_xor h g i (inside i c)) ∙ o.0),
        elim o.1 [
          | inl s ↦ absurd (omega (arith, s.1))
          | inr s ↦ (s.0, s.1, position_at (borrows 0 xs) s.0 s.2)
        ],
      )
    ] in o) in
    record {
      report = record {
        rising = rising 0 (borrows 0 xs);
        complete = λ i l e. position_at (borrows 0 xs) i (zero_borrows 0 xs i (omega (arith, len)) (map_xor h g i l ∙ ap (λ y. bit_xor y h) e ∙ xor_self h));
        occupied = λ i c. (
          inside i c,
          elim (others i c) [
            | inl e ↦ omega arith
            | inr o ↦ (let b : bit_xor h 1 < 2 ^ 7 = xor_lt 7 h 1 small (omega arith) in omega (arith, o.0))
          ],
        );
      };
      others = others;
    }

-- the matches of a word
pub word_matches : (g : List ℕ) (h n r : ℕ) → length g ≡ 8 → Fit g → h < 128 → n ≡ num g → r ≡ h * 72340172838076673
    → IsWordReport g h (set_bytes (bit_and ((bit_xor n r + 18374403900871474943) % 18446744073709551616) (bit_and (18446744073709551615 - bit_xor n r) 9259542123273814144)))
unfolding rep
word_matches g h n r l f small en er =
    let xs = map (λ x. bit_xor x h) g in
    let len : length xs ≡ 8 = length-map g (λ x. bit_xor x h) ∙ l in
    let rep_is : h * 72340172838076673 ≡ rep (length g) h = sym (ap (λ k. rep k h) l ∙ omega arith) in
    let cmp : bit_xor n r ≡ num xs = ap₂ bit_xor en (er ∙ rep_is) ∙ xor_all h g (omega arith) f in
    let places = ap set_bytes (ap (λ y. bit_and ((y + 18374403900871474943) % 18446744073709551616) (bit_and (18446744073709551615 - y) 9259542123273814144)) cmp ∙ eq_mask_of xs len (xored_Fit h g (omega arith) f))
    ∙ marked_bytes (borrows 0 xs) (length-borrows 0 xs ∙ len) in
    subst (IsWordReport g h) (sym places) (word_report g h small)

-- the first free byte of a word
pub word_free : (g : List ℕ) (n : ℕ) → length g ≡ 8 → Fit g → n ≡ num g → slice_get (set_bytes (bit_and n 9259542123273814144)) 0 ≡ first_free g
unfolding rep
word_free g n l f e =
    let mask : 9259542123273814144 ≡ rep (length g) 128 = sym (ap (λ k. rep k 128) l) in
    ap (λ m. slice_get (set_bytes m) 0) (ap₂ bit_and e mask ∙ high_bits g f)
    ∙ ap (λ xs. slice_get xs 0) (marked_bytes (map (λ x. nat_le 128 x) g) (length-map g (λ x. nat_le 128 x) ∙ l))
    ∙ first_is_position (λ x. nat_le 128 x) g
