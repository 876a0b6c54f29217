-- The probe order lists each slot once: two positions of an order are two slots.
use Rattle.std.proofs.Common.{◌≡◌, ◌<◌, ◌≤◌, ◌∙◌, ◌+◌, ◌*◌, ◌-◌, ◌/◌, ◌%◌, ◌^◌, ℕ, zero, suc, sym, ap, subst, refl, arith, pow-suc, Bool, true, false, nat_lt, ltb-true, ltb-false, mul_comm, div-add-mod', mul-le-mul_left}
use Rattle.odht_base.specs.Load.{IsSlotCount}
use Rattle.odht_base.specs.Probe.{probe_slot}
use Rattle.odht_base.proofs.lemmas.SlotCounts.{exponent}

-- a power of two that divides a product with an odd factor divides the other factor
odd_factor : (k a b c : ℕ) → (2 * a + 1) * b ≡ c * 2 ^ k → (d : ℕ) × (b ≡ d * 2 ^ k)
odd_factor zero a b c e = (b, omega arith)
odd_factor (suc k) a b c e =
    let p = pow-suc 2 k in
    let e' = e ∙ ap (λ x. c * x) p in
    let half : b ≡ b / 2 * 2 = omega (arith, e') in
    let product = ap (λ x. a * x) half in
    let ih = odd_factor k a (b / 2) c (omega (arith, e', half, product)) in
    (ih.0, half ∙ ap (λ x. x * 2) ih.1 ∙ omega arith ∙ ap (λ x. ih.0 * x) (sym p))

-- no multiple of m lies strictly between 0 and m
no_multiple : (m d : ℕ) → 0 < d * m → d * m < m → ⊥
no_multiple m zero h g = omega arith
no_multiple m (suc d) h g = omega arith

-- two group numbers below half of 2 ^ k whose steps agree modulo 2 ^ k are one
same_group : (k j d c : ℕ) → 0 < d → 2 * (j + d) < 2 ^ k → d * (2 * j + d + 1) ≡ c * 2 ^ k → ⊥
same_group k j d c pos low e = go (d % 2) refl
  where
    go : (r : ℕ) → d % 2 ≡ r → ⊥
    go zero t =
        let half : d ≡ 2 * (d / 2) = omega (arith, t) in
        let odd : 2 * j + d + 1 ≡ 2 * (j + d / 2) + 1 = omega (arith, half) in
        let f = odd_factor k (j + d / 2) d c (ap (λ x. x * d) (sym odd) ∙ mul_comm (2 * j + d + 1) d ∙ e) in
        no_multiple (2 ^ k) f.0 (omega (arith, f.1)) (omega (arith, f.1))
    go (suc r) t =
        let odd : d ≡ 2 * (d / 2) + 1 = omega (arith, t) in
        let f = odd_factor k (d / 2) (2 * j + d + 1) c (ap (λ x. x * (2 * j + d + 1)) (sym odd) ∙ e) in
        no_multiple (2 ^ k) f.0 (omega (arith, f.1)) (omega (arith, f.1))

-- j * (j + 1) is even
even_step : (j : ℕ) → (a : ℕ) × (j * (j + 1) ≡ 2 * a)
even_step zero = (0, omega arith)
even_step (suc j) = let ih = even_step j in (ih.0 + j + 1, omega (arith, ih.1))

-- x and y differ by a multiple of s where they agree modulo s
differ_by : (s x y : ℕ) → x % s ≡ y % s → x + s * (y / s) ≡ y + s * (x / s)
differ_by s x y e = let p = div-add-mod' x s in let q = div-add-mod' y s in omega (arith, e, p, q)

too_far : (k j d u v : ℕ) → 0 < d → 2 * (j + d) < 2 ^ suc k → j * (j + 1) + 2 ^ suc k * v ≡ (j + d) * (j + d + 1) + 2 ^ suc k * u → ⊥
too_far k j d u v pos low t = go (nat_lt u v) refl
  where
    go : (r : Bool) → nat_lt u v ≡ r → ⊥
    go true h =
        let lt = ltb-true u v h in
        let split : v ≡ u + (v - u) = omega (arith, lt) in
        let product = ap (λ x. 2 ^ suc k * x) split in
        same_group (suc k) j d (v - u) pos low (omega (arith, t, product))
    go false h =
        let le_bytes = mul-le-mul_left (2 ^ suc k) (ltb-false u v h) in
        omega (arith, t, le_bytes, pos)

-- positions of one slot have one offset in their groups
same_offset : (k b x y i l u v : ℕ) → i < 16 → l < 16
    → (b + 8 * x * (x + 1) + i) + 8 * 2 ^ suc k * v ≡ (b + 8 * y * (y + 1) + l) + 8 * 2 ^ suc k * u → i ≡ l
same_offset k b x y i l u v li ll e =
    let p = pow-suc 2 k in
    let a = even_step x in
    let a' = even_step y in
    let pu = ap (λ x. x * u) p in
    let pv = ap (λ x. x * v) p in
    omega (arith, e, a.1, a'.1, pu, pv)

-- and one group
same_step : (k b x y i l u v : ℕ) → i ≡ l → x < y → 2 * y < 2 ^ suc k
    → (b + 8 * x * (x + 1) + i) + 8 * 2 ^ suc k * v ≡ (b + 8 * y * (y + 1) + l) + 8 * 2 ^ suc k * u → ⊥
same_step k b x y i l u v same lt low e =
    let d = y - x in
    let split : y ≡ x + (y - x) = omega (arith, lt) in
    let steps : x * (x + 1) + 2 ^ suc k * v ≡ y * (y + 1) + 2 ^ suc k * u = omega (arith, e, same) in
    too_far k x (y - x) u v (omega (arith, lt)) (omega (arith, lt, low)) (subst (λ z. x * (x + 1) + 2 ^ suc k * v ≡ z * (z + 1) + 2 ^ suc k * u) split steps)

eight_times : (k : ℕ) → 2 ^ suc (suc (suc (suc k))) ≡ 8 * 2 ^ suc k
eight_times k = let a = pow-suc 2 (suc (suc (suc k))) in let b = pow-suc 2 (suc (suc k)) in let c = pow-suc 2 (suc k) in omega (arith, a, b, c)

at_power : (k b p q u v : ℕ) → p < q → q < 8 * 2 ^ suc k
    → (b + 8 * (p / 16) * (p / 16 + 1) + p % 16) + 8 * 2 ^ suc k * v ≡ (b + 8 * (q / 16) * (q / 16 + 1) + q % 16) + 8 * 2 ^ suc k * u → ⊥
at_power k b p q u v before within e =
    let same = same_offset k b (p / 16) (q / 16) (p % 16) (q % 16) u v (omega arith) (omega arith) e in
    same_step k b (p / 16) (q / 16) (p % 16) (q % 16) u v same (omega (arith, same, before)) (omega (arith, within)) e

-- two positions of an order are two slots
pub probe_slot-injective : (b s p q : ℕ) → IsSlotCount s → p < q → q < s → probe_slot b s p ≡ probe_slot b s q → ⊥
probe_slot-injective b s p q c before within same = at_exponent (exponent s c).0 (exponent s c).1 (exponent s c).3
  where
    at_exponent : (e : ℕ) → 4 ≤ e → s ≡ 2 ^ e → ⊥
    at_exponent (suc (suc (suc (suc k)))) lo power =
        let size : s ≡ 8 * 2 ^ suc k = power ∙ eight_times k in
        let x = b + 8 * (p / 16) * (p / 16 + 1) + p % 16 in
        let y = b + 8 * (q / 16) * (q / 16 + 1) + q % 16 in
        let t = differ_by s x y same in
        at_power k b p q (x / s) (y / s) before (omega (arith, size, within)) (subst (λ m. x + m * (y / s) ≡ y + m * (x / s)) size t)
    at_exponent _ lo power = omega (arith, lo)
