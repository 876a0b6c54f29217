-- Digits of a number that are read one after the other.
use Rattle.std.proofs.Common.{◌≡◌, ◌∙◌, ◌⊎◌, inl, inr, ℕ, suc, ◌+◌, ◌*◌, ◌-◌, ◌^◌, ◌<◌, ◌≤◌, List, [], ◌∷◌, ◌++◌, length, take, drop, get_or, sym, ap, subst, refl, arith, take-append-drop, take_all, length-take-le, Option, Some, None, SomeIff, pow-add, append_assoc}
use Rattle.std.specs.Char.{digit_value}
use Rattle.std.specs.Str.Parse.{AllDigits, digits_value, digits_value_after}
use Rattle.std.proofs.lemmas.Int.Digits.{digits_value-lt}
use Rattle.std.proofs.lemmas.Str.{digit_value_digit}
use Rattle.std.proofs.lemmas.Str.Parse.{digit_at}
use Rattle.std.proofs.Math.Nat.{add-mul, mul_assoc, mul_comm, mul-le-mul_left, mul-le-mul_right, pow-le-pow_right, pow-succ'}
use Rattle.std.proofs.Math.Seq.{take-suc}

-- digits behind others
pub value_append : (n : ℕ) (xs ys : List ℕ) → digits_value_after 10 n (xs ++ ys) ≡ digits_value_after 10 (digits_value_after 10 n xs) ys
value_append n [] ys = refl
value_append n (c ∷ xs) ys = value_append (n * 10 + digit_value c) xs ys

pub digits_append : (xs ys : List ℕ) → AllDigits 10 xs → AllDigits 10 ys → AllDigits 10 (xs ++ ys)
digits_append [] ys h k = k
digits_append (c ∷ xs) ys h k = (h.0, digits_append xs ys h.1 k)

pub digits_parts : (xs ys : List ℕ) → AllDigits 10 (xs ++ ys) → AllDigits 10 xs × AllDigits 10 ys
digits_parts [] ys h = (tt, h)
digits_parts (c ∷ xs) ys h = let k = digits_parts xs ys h.1 in ((h.0, k.0), k.1)

-- they make no number smaller
pub value_grows : (n : ℕ) (ds : List ℕ) → n ≤ digits_value_after 10 n ds
value_grows n [] = omega arith
value_grows n (c ∷ cs) = omega (arith, value_grows (n * 10 + digit_value c) cs)

-- what is read of the digits ds behind n, up to digit i
pub record IsReadTo (n : ℕ) (ds : List ℕ) (i value : ℕ) : Type 0 where
  pub digits : AllDigits 10 (take i ds)
  pub is : value ≡ digits_value_after 10 n (take i ds)

module _ (n : ℕ) (ds : List ℕ) (i value : ℕ) (h : IsReadTo n ds i value) (l : i < length ds) where
  next_digit : take (i + 1) ds ≡ take i ds ++ (get_or ds i 0 ∷ [])
  next_digit = let next : i + 1 ≡ suc i = omega arith in ap (λ k. take k ds) next ∙ take-suc ds i 0 l

  -- one digit more
  pub read_more : (d : ℕ) → d ≡ get_or ds i 0 → 48 ≤ d → d ≤ 57 → IsReadTo n ds (i + 1) (10 * value + (d - 48))
  read_more d e low high =
      let c = get_or ds i 0 in
      let digit : digit_value c + 48 ≡ c = digit_value_digit c (omega arith) in
      let one : AllDigits 10 (c ∷ []) = (omega arith, tt) in
      let all = digits_append (take i ds) (c ∷ []) h.digits one in
      let whole : digits_value_after 10 n (take (i + 1) ds) ≡ digits_value_after 10 n (take i ds ++ (c ∷ [])) = ap (digits_value_after 10 n) next_digit in
      let parts = value_append n (take i ds) (c ∷ []) in
      record { digits = subst (AllDigits 10) (sym next_digit) all; is = omega (arith, whole, parts, h.is, digit) }

module _ (n : ℕ) (ds : List ℕ) (i value : ℕ) (h : IsReadTo n ds i value) where
  -- what is read is no more than the whole
  pub read_within : value ≤ digits_value_after 10 n ds
  read_within =
      let parts = value_append n (take i ds) (drop i ds) in
      let whole : digits_value_after 10 n (take i ds ++ drop i ds) ≡ digits_value_after 10 n ds = ap (digits_value_after 10 n) (take-append-drop i ds) in
      omega (arith, whole, parts, h.is, value_grows (digits_value_after 10 n (take i ds)) (drop i ds))

  -- the whole
  pub read_all : length ds ≤ i → AllDigits 10 ds × (value ≡ digits_value_after 10 n ds)
  read_all l =
      let whole = take_all i ds l in
      (subst (AllDigits 10) whole h.digits, h.is ∙ ap (digits_value_after 10 n) whole)

-- digits behind others are worth what the others are, that many places higher, and what they are alone
pub value_shift : (n : ℕ) (ds : List ℕ) → digits_value_after 10 n ds ≡ n * 10 ^ length ds + digits_value 10 ds
value_shift n [] = omega arith
value_shift n (c ∷ cs) =
    let P = 10 ^ length cs in
    let d = digit_value c in
    let power : 10 ^ suc (length cs) ≡ 10 * P = pow-succ' 10 (length cs) in
    let higher : n * 10 ^ suc (length cs) ≡ n * (10 * P) = ap (λ x. n * x) power in
    omega (arith, value_shift (n * 10 + d) cs, value_shift (0 + d) cs, add-mul (n * 10) d P, add-mul 0 d P, mul_assoc n 10 P, higher)

-- and less than one more there
value_below : (n : ℕ) (ds : List ℕ) → AllDigits 10 ds → digits_value_after 10 n ds < (n + 1) * 10 ^ length ds
value_below n ds h = omega (arith, value_shift n ds, digits_value-lt 10 ds h, add-mul n 1 (10 ^ length ds))

-- one digit more fits, where there is room for all
pub room_for_next : (n : ℕ) (ds : List ℕ) (i value : ℕ) → IsReadTo n ds i value → i < length ds → (n + 1) * 10 ^ length ds ≤ 10 ^ 19 → 10 * value + 10 ≤ 10 ^ 19
room_for_next n ds i value h l room =
    let front = take i ds in
    let long : length front ≡ i = length-take-le i ds (omega arith) in
    let Q = 10 ^ length front in
    let below = value_below n front h.digits in
    let power : 10 ^ suc (length front) ≡ 10 * Q = pow-succ' 10 (length front) in
    let step : (n + 1) * 10 ^ suc (length front) ≡ 10 * ((n + 1) * Q) = ap (λ x. (n + 1) * x) power ∙ sym (mul_assoc (n + 1) 10 Q) ∙ ap (λ x. x * Q) (mul_comm (n + 1) 10) ∙ mul_assoc 10 (n + 1) Q in
    let powers : 10 ^ suc (length front) ≤ 10 ^ length ds = pow-le-pow_right {n = 10} (omega arith) (omega (arith, long)) in
    let more : (n + 1) * 10 ^ suc (length front) ≤ (n + 1) * 10 ^ length ds = mul-le-mul_left (n + 1) powers in
    omega (arith, below, step, more, h.is, room)

-- the number of few digits, with room for all that there may be behind them
pub few_fit : (ds : List ℕ) (k : ℕ) → AllDigits 10 ds → length ds + k ≤ 19 → (digits_value 10 ds + 1) * 10 ^ k ≤ 10 ^ 19
few_fit ds k h l =
    let below : digits_value 10 ds + 1 ≤ 10 ^ length ds = omega (arith, digits_value-lt 10 ds h) in
    let sized : (digits_value 10 ds + 1) * 10 ^ k ≤ 10 ^ length ds * 10 ^ k = mul-le-mul_right (10 ^ k) below in
    let powers : 10 ^ (length ds + k) ≡ 10 ^ length ds * 10 ^ k = pow-add 10 (length ds) k in
    let most : 10 ^ (length ds + k) ≤ 10 ^ 19 = pow-le-pow_right {n = 10} (omega arith) l in
    omega (arith, sized, powers, most)

-- a number whose last digits are read behind the first
pub read_behind : (front rest digits : List ℕ) (number : ℕ) (r : Option ℕ) → front ++ rest ≡ digits → AllDigits 10 front → number ≡ digits_value 10 front
    → SomeIff r (AllDigits 10 rest) (digits_value_after 10 number rest) → SomeIff r (AllDigits 10 digits) (digits_value 10 digits)
read_behind front rest digits number None parts h is none = λ all. none (digits_parts front rest (subst (AllDigits 10) (sym parts) all)).1
read_behind front rest digits number (Some x) parts h is some = (
  subst (AllDigits 10) parts (digits_append front rest h some.0),
  some.1 ∙ ap (λ n. digits_value_after 10 n rest) is ∙ sym (value_append 0 front rest) ∙ ap (digits_value 10) parts,
)

-- a byte that is no digit
pub no_digit : (ds : List ℕ) (i d : ℕ) → i < length ds → d ≡ get_or ds i 0 → (d < 48) ⊎ (57 < d) → AllDigits 10 ds → ⊥
no_digit ds i d l e (inl low) h = let digit = digit_at ds i h l in omega arith
no_digit ds i d l e (inr high) h = let digit = digit_at ds i h l in omega arith

-- digits whose first are read, and of the others the first eight
module _ (front rest eight next digits : List ℕ) (parts : front ++ rest ≡ digits) (first : eight ≡ take 8 rest) (others : next ≡ drop 8 rest) where
  rest_parts : eight ++ next ≡ rest
  rest_parts = ap (λ ds. ds ++ next) first ∙ ap (λ ds. take 8 rest ++ ds) others ∙ take-append-drop 8 rest

  pub eight_of : AllDigits 10 digits → AllDigits 10 eight
  eight_of h =
      let behind = digits_parts front rest (subst (AllDigits 10) (sym parts) h) in
      (digits_parts eight next (subst (AllDigits 10) (sym rest_parts) behind.1)).0

  pub next_eight : (number value : ℕ) → length eight ≡ 8 → AllDigits 10 front → number ≡ digits_value 10 front → AllDigits 10 eight → value ≡ digits_value 10 eight
      → ((front ++ eight) ++ next ≡ digits) × AllDigits 10 (front ++ eight) × (100000000 * number + value ≡ digits_value 10 (front ++ eight))
  next_eight number value long h is k value_is =
      let places : 10 ^ length eight ≡ 100000000 = ap (λ n. 10 ^ n) long in
      let shifted : digits_value 10 front * 10 ^ length eight ≡ digits_value 10 front * 100000000 = ap (λ n. digits_value 10 front * n) places in (
        append_assoc front eight next ∙ ap (λ ds. front ++ ds) rest_parts ∙ parts,
        digits_append front eight h k,
        omega (arith, value_append 0 front eight, value_shift (digits_value 10 front) eight, shifted, is, value_is),
      )
