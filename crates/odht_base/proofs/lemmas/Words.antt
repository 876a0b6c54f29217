-- Numbers as the machine reads and writes them, and lists of bytes that are compared by words.
use Rattle.std.proofs.Common.{◌≡◌, ◌↔◌, ◌<◌, ◌≤◌, ◌∙◌, ◌+◌, ◌-◌, ◌*◌, ◌^◌, ℕ, zero, suc, refl, sym, ap, ap₂, arith, pow-suc, List, [], ◌∷◌, ◌++◌, length, take, drop, get_or, replicate, length-take, All, IsTrue, nat_eq, Bool, eqb-true, eq-eqb, mul_assoc, subst}
use Rattle.std.specs.Prelude.{slice_index}
use Rattle.std.specs.Int.{Width, byte_len, byte_worth, sum_through, from_le_bytes}
use Rattle.std.proofs.Math.Seq.{take-suc, take-length}
use Rattle.odht_base.specs.Bytes.{bytes_at}
use Rattle.odht_base.specs.Numbers.{num, le_bytes}
use Rattle.odht_base.proofs.lemmas.ByteRanges.{index-bytes_at, length-bytes_at, bytes_at-take, bytes_at-whole, bytes_at-add, bytes_at-bytes_at, All-bytes_at}
use Rattle.odht_base.proofs.lemmas.Numbers.{le_bytes-num}

-- ---- what `from_le_bytes` reads
-- the bytes behind the first ones are weighted by a power of 256
pub num-append : (xs ys : List ℕ) → num (xs ++ ys) ≡ num xs + 256 ^ length xs * num ys
num-append [] ys = omega arith
num-append (x ∷ xs) ys =
    let rest = num-append xs ys in
    let power = pow-suc 256 (length xs) in
    let product = mul_assoc 256 (256 ^ length xs) (num ys) in
    let worth = ap (λ p. p * num ys) power in
    omega (arith, rest, product, worth)

-- the weighted sum of the first bytes is their number
sum_through-worth : (b : List ℕ) (k : ℕ) → k < length b → sum_through (λ i. byte_worth i (get_or b i 0)) k ≡ num (take (suc k) b)
sum_through-worth [] k h = absurd (omega arith)
sum_through-worth (x ∷ b) zero h = omega arith
sum_through-worth (x ∷ b) (suc k) h =
    let before = sum_through-worth (x ∷ b) k (omega arith) in
    let n : length (take (suc k) (x ∷ b)) ≡ suc k = omega (arith, length-take (suc k) (x ∷ b)) in
    let split = ap num (take-suc (x ∷ b) (suc k) 0 h) ∙ num-append (take (suc k) (x ∷ b)) (get_or (x ∷ b) (suc k) 0 ∷ []) in
    let power = ap (λ m. 256 ^ m * num (get_or (x ∷ b) (suc k) 0 ∷ [])) n in
    omega (arith, before, split, power)

-- `from_le_bytes` of as many bytes as the width has reads their number
pub from_le_bytes-num : (w : Width) (b : List ℕ) → length b ≡ byte_len w → 0 < byte_len w → from_le_bytes w b ≡ num b
from_le_bytes-num w b n pos =
    let k : suc (byte_len w - 1) ≡ length b = omega arith in
    sum_through-worth b (byte_len w - 1) (omega arith) ∙ ap (λ m. num (take m b)) k ∙ ap num (take-length b)

-- ---- lists that are compared by words
-- as many bytes with one number are the same bytes
num-injective : (b c : List ℕ) → length b ≡ length c → All (λ x. x < 256) b → All (λ x. x < 256) c → num b ≡ num c → b ≡ c
num-injective b c n f h e = sym (le_bytes-num b f) ∙ ap (le_bytes (length b)) e ∙ ap (λ m. le_bytes m (num c)) n ∙ le_bytes-num c h

-- comparing the numbers of w bytes compares these bytes
pub number_decides : (xs ys : List ℕ) (at w a b : ℕ) → at + w ≤ length xs → at + w ≤ length ys → All (λ x. x < 256) xs → All (λ x. x < 256) ys → a ≡ num (bytes_at xs at w) → b ≡ num (bytes_at ys at w)
    → IsTrue (nat_eq a b) ↔ (bytes_at xs at w ≡ bytes_at ys at w)
number_decides xs ys at w a b l m f h ea eb = (
  λ t. num-injective (bytes_at xs at w) (bytes_at ys at w) (length-bytes_at xs at w l ∙ sym (length-bytes_at ys at w m)) (All-bytes_at xs at w f) (All-bytes_at ys at w h) (sym ea ∙ eqb-true a b t ∙ eb),
  λ e. eq-eqb a b (ea ∙ ap num e ∙ sym eb),
)

-- where the first n bytes are equal, comparing the m behind them compares all of these
pub pair_decides : (xs ys : List ℕ) (at n m : ℕ) (r : Bool) → bytes_at xs at n ≡ bytes_at ys at n
    → (IsTrue r ↔ (bytes_at xs (at + n) m ≡ bytes_at ys (at + n) m)) → IsTrue r ↔ (bytes_at xs at (n + m) ≡ bytes_at ys at (n + m))
pair_decides xs ys at n m r e w = (
  λ t. bytes_at-add xs at n m ∙ ap₂ (λ a b. a ++ b) e (w.0 t) ∙ sym (bytes_at-add ys at n m),
  λ s. w.1 (sym (behind xs) ∙ ap (λ b. bytes_at b n m) s ∙ behind ys),
)
  where
    behind : (b : List ℕ) → bytes_at (bytes_at b at (n + m)) n m ≡ bytes_at b (at + n) m
    behind b = bytes_at-bytes_at b at (n + m) n m (at + n) (omega arith) refl

-- comparing all bytes compares the lists
pub whole_decides : (xs ys : List ℕ) (n : ℕ) (r : Bool) → length xs ≡ n → length ys ≡ n → (IsTrue r ↔ (bytes_at xs 0 n ≡ bytes_at ys 0 n)) → IsTrue r ↔ (xs ≡ ys)
whole_decides xs ys n r l m w = (λ t. sym (bytes_at-whole xs n l) ∙ w.0 t ∙ bytes_at-whole ys n m, λ e. w.1 (ap (λ b. bytes_at b 0 n) e))

-- comparing the m bytes behind n equal first ones compares the first n + m
pub next_decides : (xs ys : List ℕ) (n m : ℕ) (r : Bool) → bytes_at xs 0 n ≡ bytes_at ys 0 n → (IsTrue r ↔ (bytes_at xs n m ≡ bytes_at ys n m)) → IsTrue r ↔ (bytes_at xs 0 (n + m) ≡ bytes_at ys 0 (n + m))
next_decides xs ys n m r e w =
    let zero_n : 0 + n ≡ n = omega arith in
    pair_decides xs ys 0 n m r e (subst (λ k. IsTrue r ↔ (bytes_at xs k m ≡ bytes_at ys k m)) (sym zero_n) w)

-- and comparing all behind them compares the lists
pub rest_decides : (xs ys : List ℕ) (n : ℕ) (r : Bool) → length xs ≡ length ys → n ≤ length ys → bytes_at xs 0 n ≡ bytes_at ys 0 n
    → (IsTrue r ↔ (take (length xs - n) (drop n xs) ≡ take (length ys - n) (drop n ys))) → IsTrue r ↔ (xs ≡ ys)
rest_decides xs ys n r e l same w =
    let m : ℕ = length ys - n in
    let whole : n + m ≡ length ys = omega arith in
    let left = behind xs e in
    let right = behind ys refl in
    whole_decides xs ys (length ys) r e refl
    (subst (λ k. IsTrue r ↔ (bytes_at xs 0 k ≡ bytes_at ys 0 k)) whole (next_decides xs ys n m r same (λ t. sym left ∙ w.0 t ∙ right, λ s. w.1 (left ∙ s ∙ sym right))))
  where
    behind : (b : List ℕ) → length b ≡ length ys → take (length b - n) (drop n b) ≡ bytes_at b n (length ys - n)
    behind b k = ap (λ j. take (j - n) (drop n b)) k ∙ sym (bytes_at-take b n (length ys - n))

-- ---- zeros
num_zero : (xs : List ℕ) → num xs ≡ 0 → (k : ℕ) → k < length xs → get_or xs k 0 ≡ 0
num_zero [] e k l = absurd (omega (arith, l))
num_zero (x ∷ xs) e zero l = omega (arith, e)
num_zero (x ∷ xs) e (suc k) l = num_zero xs (omega (arith, e)) k (omega (arith, l))

-- a word of zero has eight bytes of zero
pub zero_word : (bs : List ℕ) (at k : ℕ) → at + 8 ≤ length bs → num (bytes_at bs at 8) ≡ 0 → at ≤ k → k < at + 8 → slice_index bs k ≡ 0
zero_word bs at k inside e low high =
    let j : ℕ = k - at in
    let is : at + j ≡ k = omega (arith, low) in
    ap (slice_index bs) (sym is) ∙ sym (index-bytes_at bs at 8 j (omega (arith, high, low))) ∙ num_zero (bytes_at bs at 8) e j (omega (arith, high, low, length-bytes_at bs at 8 inside))

pub zeros_are : (bs : List ℕ) → ((k : ℕ) → k < length bs → slice_index bs k ≡ 0) → bs ≡ replicate (length bs) 0
zeros_are [] h = refl
zeros_are (x ∷ bs) h = λ i. h 0 (omega arith) i ∷ zeros_are bs (λ k l. h (suc k) (omega (arith, l))) i

-- and a word of zeros is zero
zero_at : (n i : ℕ) → slice_index (replicate n 0) i ≡ 0
zero_at zero i = refl
zero_at (suc n) zero = refl
zero_at (suc n) (suc i) = zero_at n i

pub word_zero : (bs : List ℕ) (n at : ℕ) → bs ≡ replicate n 0 → at + 8 ≤ length bs → num (bytes_at bs at 8) ≡ 0
word_zero bs n at e inside =
    let zeros = zeros_are (bytes_at bs at 8) (λ k l. index-bytes_at bs at 8 k (omega (arith, l, length-bytes_at bs at 8 inside)) ∙ ap (λ xs. slice_index xs (at + k)) e ∙ zero_at n (at + k)) in
    ap num (zeros ∙ ap (λ m. replicate m 0) (length-bytes_at bs at 8 inside))
