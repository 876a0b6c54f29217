-- The masks of a group of sixteen lanes.
use Rattle.std.proofs.Common.{◌≡◌, ℕ, zero, suc, ◌+◌, ◌-◌, ◌*◌, ◌/◌, ◌%◌, ◌^◌, ◌<◌, ◌≤◌, Bool, true, false, cond, List, [], ◌∷◌, ◌++◌, length, map, take, drop, length-drop, replicate, refl, sym, ap, ap₂, ◌∙◌, arith, nat_eq, nat_le, nat_lt, w8, bit_and, pow-suc, pow_mono, mul_assoc, mul_comm, mod-eq_of_lt, subst, inl, inr, length-take}
use Rattle.std.proofs.Math.Arith.{mod-mul}
use Rattle.std.proofs.Math.Seq.{take-add, take-length}
use Rattle.std.proofs.Math.Nat.{zero-mod}
use Rattle.std.proofs.lemmas.List.{length-map, map-append, take-map, drop-map}
use Rattle.std.proofs.lemmas.Bool.{cases_lt}
use native.Mathlib.Decide.{dec_le}
use borrow.Author.Tests.{le-leb, lt-leb, lt-ltb, le-ltb}
use Rattle.std.proofs.lemmas.Nat.{and_mask}
use Rattle.std.specs.Prelude.{slice_get}
use Rattle.std.proofs.lemmas.Simd.{bitmask_splat, mask_l-lt, mask_l-mod}
use lib.Lanes.{mask_l, zip2, top}
use Rattle.odht_base.specs.Masks.{set_bits}
use Rattle.odht_base.specs.Bytes.{bytes_at}
use Rattle.odht_base.specs.Decoded.{counts_as_free}
use Rattle.odht_base.specs.Groups.{equal, first_free, free_in, occupied}
use Rattle.odht_base.proofs.lemmas.ByteRanges.{bytes_at-take}
use Rattle.odht_base.proofs.lemmas.MarkedPositions.{equal-positions, free-positions, occupied-positions}
use Rattle.odht_base.proofs.lemmas.MaskBits.{bits_mask, first_is_position}

-- a byte that does not count as free
abbrev pub others : ℕ → Bool
others x = nat_lt x 128

-- sixteen bytes in lanes are these bytes
pub in_lanes : (g : List ℕ) → length g ≡ 16 → take 16 g ≡ g
in_lanes g l = ap (λ n. take n g) (sym l) ∙ take-length g

-- the mask of the lanes that equal h
pub equal_lanes : (g : List ℕ) (h : ℕ) → length g ≡ 16 → set_bits (mask_l (map (top 7) (zip2 (λ a b. cond (nat_eq a b) (2 ^ 8 - 1) 0) g (replicate 16 h))) % 2 ^ 64) ≡ equal g h
equal_lanes g h l =
    ap set_bits (bitmask_splat w8 (λ a b. nat_eq a b) g 16 h l (omega arith))
    ∙ bits_mask 64 0 (map (λ x. nat_eq x h) g) (omega (arith, length-map g (λ x. nat_eq x h)))
    ∙ sym (equal-positions g h)

-- it has a bit for each of the sixteen
pub equal_lanes_fit : (g : List ℕ) (h : ℕ) → length g ≡ 16 → mask_l (map (top 7) (zip2 (λ a b. cond (nat_eq a b) (2 ^ 8 - 1) 0) g (replicate 16 h))) % 2 ^ 64 < 2 ^ 16
equal_lanes_fit g h l =
    let mask = bitmask_splat w8 (λ a b. nat_eq a b) g 16 h l (omega arith) in
    let below = mask_l-lt (map (λ x. nat_eq x h) g) in
    let long : length (map (λ x. nat_eq x h) g) ≡ 16 = omega (arith, l, length-map g (λ x. nat_eq x h)) in
    let power : 2 ^ length (map (λ x. nat_eq x h) g) ≡ 2 ^ 16 = ap (λ k. 2 ^ k) long in
    omega (arith, mask, below, power)

-- a lane's highest bit is its answer
top_byte : (b : Bool) → top 7 (cond b 255 0) ≡ b
top_byte true = refl
top_byte false = refl

-- lanes that are compared with one byte
tests_left : (t : ℕ → ℕ → Bool) (x n : ℕ) (ys : List ℕ) → length ys ≡ n → map (top 7) (zip2 (λ a b. cond (t a b) 255 0) (replicate n x) ys) ≡ map (λ y. t x y) ys
tests_left t x zero [] l = refl
tests_left t x (suc n) [] l = absurd (omega arith)
tests_left t x zero (y ∷ ys) l = absurd (omega arith)
tests_left t x (suc n) (y ∷ ys) l = ap₂ (λ b bs. b ∷ bs) (top_byte (t x y)) (tests_left t x n ys (omega arith))

-- the mask of the lanes that count as free
pub free_mask : (g : List ℕ) → length g ≡ 16 → mask_l (map (top 7) (zip2 (λ a b. cond (nat_le a b) 255 0) (replicate 16 128) g)) % 2 ^ 64 ≡ mask_l (map counts_as_free g)
free_mask g l = ap (λ m. mask_l m % 2 ^ 64) (tests_left (λ a b. nat_le a b) 128 16 g l) ∙ mask_l-mod (map counts_as_free g) 64 (omega (arith, length-map g counts_as_free))

-- which bytes a mask marks
pub free_set : (g : List ℕ) → length g ≤ 64 → set_bits (mask_l (map counts_as_free g)) ≡ free_in g
free_set g l = bits_mask 64 0 (map counts_as_free g) (omega (arith, length-map g counts_as_free)) ∙ sym (free-positions g)

pub occupied_set : (g : List ℕ) → length g ≤ 64 → set_bits (mask_l (map others g)) ≡ occupied g
occupied_set g l = bits_mask 64 0 (map others g) (omega (arith, length-map g others)) ∙ sym (occupied-positions g)

-- the first that counts as free
pub first_set : (g : List ℕ) → length g ≤ 64 → slice_get (set_bits (mask_l (map counts_as_free g))) 0 ≡ first_free g
first_set g l = ap (λ xs. slice_get xs 0) (free_set g l ∙ free-positions g) ∙ first_is_position counts_as_free g

-- ---- the first of the answers, and the rest
-- the same with one answer more
next-mask : (b : Bool) (bs : List Bool) (n : ℕ) → mask_l bs % 2 ^ n ≡ mask_l (take n bs) → mask_l (b ∷ bs) / 2 ≡ mask_l bs → mask_l (b ∷ bs) % 2 ≡ cond b 1 0
    → mask_l (take n bs) * 2 + cond b 1 0 ≡ mask_l (b ∷ take n bs) → mask_l (b ∷ bs) % 2 ^ suc n ≡ mask_l (b ∷ take n bs)
next-mask b bs n rest half low whole =
    let power : 2 ^ suc n ≡ 2 ^ n * 2 = omega (arith, pow-suc 2 n) in
    ap (λ m. mask_l (b ∷ bs) % m) power ∙ mod-mul (mask_l (b ∷ bs)) {m = 2 ^ n} {c = 2} (pow-pos n) (omega arith)
    ∙ ap₂ (λ h l. h % 2 ^ n * 2 + l) half low ∙ ap (λ m. m * 2 + cond b 1 0) rest ∙ whole
  where
    pow-pos : (k : ℕ) → 0 < 2 ^ k
    pow-pos zero = omega arith
    pow-pos (suc k) = omega (arith, pow-pos k, pow-suc 2 k)

-- the mask of the first n answers is the mask modulo 2 ^ n
mask_l-take : (bs : List Bool) (n : ℕ) → mask_l bs % 2 ^ n ≡ mask_l (take n bs)
mask_l-take [] zero = omega arith
mask_l-take [] (suc n) = zero-mod (2 ^ suc n)
mask_l-take (b ∷ bs) zero = omega arith
mask_l-take (true ∷ bs) (suc n) = next-mask true bs n (mask_l-take bs n) (omega arith) (omega arith) (omega arith)
mask_l-take (false ∷ bs) (suc n) = next-mask false bs n (mask_l-take bs n) (omega arith) (omega arith) (omega arith)

-- a byte counts as free, or it does not
either : (x : ℕ) → cond (counts_as_free x) 1 0 + cond (others x) 1 0 ≡ 1
either x = elim (dec_le 128 x) [ yes p ↦ rw (le-leb 128 x p, le-ltb x 128 (omega arith)) refl | no p ↦ rw (lt-leb 128 x (omega arith), lt-ltb x 128 (omega arith)) refl ]

-- so the masks of the two have each bit once
both_masks : (g : List ℕ) → mask_l (map counts_as_free g) + mask_l (map others g) + 1 ≡ 2 ^ length g
both_masks [] = refl
both_masks (x ∷ g) = omega (arith, either x, both_masks g, pow-suc 2 (length g))

-- the mask of the others of the first bytes
pub occupied_first : (g : List ℕ) (n : ℕ) → length g ≡ 16 → n ≤ 16 → set_bits (1 * 2 ^ n % 2 ^ 64 - 1 - bit_and (mask_l (map counts_as_free g)) (1 * 2 ^ n % 2 ^ 64 - 1)) ≡ occupied (take n g)
occupied_first g n l m =
    let below : 2 ^ n ≤ 2 ^ 16 = pow_mono {i = n} {j = 16} m in
    let ones : 1 * 2 ^ n % 2 ^ 64 - 1 ≡ 2 ^ n - 1 = omega (arith, below) in
    let kept : bit_and (mask_l (map counts_as_free g)) (2 ^ n - 1) ≡ mask_l (map counts_as_free (take n g)) =
    and_mask (mask_l (map counts_as_free g)) n ∙ mask_l-take (map counts_as_free g) n ∙ ap mask_l (take-map counts_as_free n g) in
    let long : length (take n g) ≡ n = omega (arith, length-take n g) in
    let power : 2 ^ length (take n g) ≡ 2 ^ n = ap (λ k. 2 ^ k) long in
    let rest : 2 ^ n - 1 - bit_and (mask_l (map counts_as_free g)) (2 ^ n - 1) ≡ mask_l (map others (take n g)) = omega (arith, kept, both_masks (take n g), power) in
    ap (λ k. set_bits (k - bit_and (mask_l (map counts_as_free g)) k)) ones ∙ ap set_bits rest ∙ occupied_set (take n g) (omega arith)

-- the mask without its first eight answers
next_half : (b : Bool) (bs : List Bool) → mask_l (b ∷ bs) / 2 ≡ mask_l bs
next_half true bs = omega arith
next_half false bs = omega arith

mask_l-drop : (bs : List Bool) → 8 ≤ length bs → mask_l bs / 256 ≡ mask_l (drop 8 bs)
mask_l-drop (a ∷ b ∷ c ∷ d ∷ e ∷ f ∷ g ∷ h ∷ bs) l =
    omega (
      arith,
      next_half a (b ∷ c ∷ d ∷ e ∷ f ∷ g ∷ h ∷ bs),
      next_half b (c ∷ d ∷ e ∷ f ∷ g ∷ h ∷ bs),
      next_half c (d ∷ e ∷ f ∷ g ∷ h ∷ bs),
      next_half d (e ∷ f ∷ g ∷ h ∷ bs),
      next_half e (f ∷ g ∷ h ∷ bs),
      next_half f (g ∷ h ∷ bs),
      next_half g (h ∷ bs),
      next_half h bs,
    )
mask_l-drop bs l = absurd (omega (arith, l))

-- the first from the eighth on that counts as free
pub late_set : (g : List ℕ) → length g ≡ 16 → slice_get (set_bits (mask_l (map counts_as_free g) / 2 ^ 8)) 0 ≡ first_free (drop 8 g)
late_set g l =
    ap (λ m. slice_get (set_bits m) 0) (mask_l-drop (map counts_as_free g) (omega (arith, l, length-map g counts_as_free)))
    ∙ ap (λ ts. slice_get (set_bits (mask_l ts)) 0) (drop-map counts_as_free 8 g)
    ∙ first_set (drop 8 g) (omega (arith, l, length-drop 8 g))

-- ---- up to 64 bytes, sixteen at a time
-- answers before others
before : (xs ys : List Bool) → mask_l (xs ++ ys) ≡ mask_l xs + 2 ^ length xs * mask_l ys
before [] ys = omega arith
before (x ∷ xs) ys =
    let power = pow-suc 2 (length xs) in
    omega (arith, before xs ys, ap (λ p. p * mask_l ys) power, mul_assoc 2 (2 ^ length xs) (mask_l ys))

-- the mask of up to 64 bytes fits a word
pub free_fits : (g : List ℕ) → length g ≤ 64 → mask_l (map counts_as_free g) < 2 ^ 64
free_fits g few = omega (arith, mask_l-lt (map counts_as_free g), pow_mono {i = length (map counts_as_free g)} {j = 64} (omega (arith, few, length-map g counts_as_free)))

-- sixteen bytes behind the first n
pub free_more : (g : List ℕ) (n free bits : ℕ) → length g ≤ 64 → n + 16 ≤ length g → free ≡ mask_l (map counts_as_free (take n g)) → bits ≡ mask_l (map counts_as_free (bytes_at g n 16))
    → free + bits * 2 ^ n % 2 ^ 64 ≡ mask_l (map counts_as_free (take (n + 16) g))
free_more g n free bits few inside e f =
    let long : length (map counts_as_free (take n g)) ≡ n = omega (arith, length-map (take n g) counts_as_free, length-take n g, inside) in
    let parts : take (n + 16) g ≡ take n g ++ bytes_at g n 16 = take-add n 16 g ∙ ap (λ b. take n g ++ b) (sym (bytes_at-take g n 16)) in
    let whole : mask_l (map counts_as_free (take (n + 16) g)) ≡ free + 2 ^ n * bits =
    ap (λ xs. mask_l (map counts_as_free xs)) parts ∙ ap mask_l (map-append counts_as_free (take n g) (bytes_at g n 16)) ∙ before (map counts_as_free (take n g)) (map counts_as_free (bytes_at g n 16))
    ∙ ap₂ (λ a b. a + b) (sym e) (ap₂ (λ k b. 2 ^ k * b) long (sym f)) in
    let low = free_fits (take (n + 16) g) (omega (arith, length-take (n + 16) g, few, inside)) in
    let turned = mul_comm bits (2 ^ n) in
    let fits : bits * 2 ^ n % 2 ^ 64 ≡ bits * 2 ^ n = mod-eq_of_lt (omega (arith, whole, low, turned)) in
    ap (λ m. free + m) (fits ∙ turned) ∙ sym whole

-- the mask of the others, by the number of bytes
rest_16 : (f m : ℕ) → f + m + 1 ≡ 2 ^ 16 → bit_and (18446744073709551615 - f) (18446744073709551615 / 2 ^ (64 - 16)) ≡ m
rest_16 f m e = and_mask (18446744073709551615 - f) 16 ∙ omega (arith, e)

rest_32 : (f m : ℕ) → f + m + 1 ≡ 2 ^ 32 → bit_and (18446744073709551615 - f) (18446744073709551615 / 2 ^ (64 - 32)) ≡ m
rest_32 f m e = and_mask (18446744073709551615 - f) 32 ∙ omega (arith, e)

rest_48 : (f m : ℕ) → f + m + 1 ≡ 2 ^ 48 → bit_and (18446744073709551615 - f) (18446744073709551615 / 2 ^ (64 - 48)) ≡ m
rest_48 f m e = and_mask (18446744073709551615 - f) 48 ∙ omega (arith, e)

rest_64 : (f m : ℕ) → f + m + 1 ≡ 2 ^ 64 → bit_and (18446744073709551615 - f) (18446744073709551615 / 2 ^ (64 - 64)) ≡ m
rest_64 f m e = and_mask (18446744073709551615 - f) 64 ∙ omega (arith, e)

pub occupied_rest : (g : List ℕ) (n f : ℕ) → length g ≡ n → 1 ≤ n → n ≤ 64 → n % 16 ≡ 0 → f ≡ mask_l (map counts_as_free g)
    → set_bits (bit_and (18446744073709551615 - f) (18446744073709551615 / 2 ^ (64 - n))) ≡ occupied g
occupied_rest g n f long some few sixteen e =
    let m : ℕ = mask_l (map others g) in
    let Rest : ℕ → Type 0 = λ k. f + m + 1 ≡ 2 ^ k → bit_and (18446744073709551615 - f) (18446744073709551615 / 2 ^ (64 - k)) ≡ m in
    let rest : Rest n = elim (cases_lt n 17) [
      | inl l ↦ subst Rest (let is : 16 ≡ n = omega arith in is) (rest_16 f m)
      | inr l ↦ elim (cases_lt n 33) [
        | inl k ↦ subst Rest (let is : 32 ≡ n = omega arith in is) (rest_32 f m)
        | inr k ↦ elim (cases_lt n 49) [
          | inl j ↦ subst Rest (let is : 48 ≡ n = omega arith in is) (rest_48 f m)
          | inr j ↦ subst Rest (let is : 64 ≡ n = omega arith in is) (rest_64 f m)
        ]
      ]
    ] in
    ap set_bits (rest (ap (λ k. k + m + 1) e ∙ both_masks g ∙ ap (λ k. 2 ^ k) long)) ∙ occupied_set g (omega (arith, long))
