-- The search for the key of a slot, a group at a time: the slot's position in the probe order, and what the groups say.
use Rattle.std.proofs.Common.{◌≡◌, ℕ, ◌+◌, ◌-◌, ◌*◌, ◌%◌, ◌<◌, ◌≤◌, ◌↔◌, inl, inr, sym, ap, ◌∙◌, subst, arith, Bool, true, false, true≢false, IsTrue, List, length, refl, ◌^◌, bit_and, pow-add}
use Rattle.odht_raw.proofs.lemmas.Below.{add-mod_right, add-mul-mod_self_left, bit_and-slots, cases_lt, dvd_of_mod-eq-zero, exponent, few_slots, mod-eq_of_lt, mod-mod_of_dvd, mul-mod_right, probe_slot-group, probe_slot-lt, probe_slot-onto}
use Rattle.odht_raw.specs.Words.{Cells, Format, home, is_at, IsSlotCount, probe_slot, search_end, stops_at}
use Rattle.odht_raw.proofs.lemmas.KeyPasses.{ends_there, ends_elsewhere}
use Rattle.odht_raw.proofs.lemmas.ProbeSteps.{probe_slot-step}

-- ---- how far slot i is behind the slot b, around the end of s slots
-- that many slots behind b is i
pub behind-slot : (s b i : ℕ) → b < s → i < s → (b + (i + s - b) % s) % s ≡ i
behind-slot s b i lb li = elim (cases_lt i b) [
  | inl wrapped ↦
      let low : i + s - b < s = omega arith in
      let sum : b + (i + s - b) ≡ i + s = omega arith in
      ap (λ x. (b + x) % s) (mod-eq_of_lt {n = i + s - b} {m = s} low) ∙ ap (λ x. x % s) sum ∙ add-mod_right i s ∙ mod-eq_of_lt {n = i} {m = s} li
  | inr ahead ↦
      let turn : i + s - b ≡ i - b + s = omega arith in
      let low : i - b < s = omega arith in
      let sum : b + (i - b) ≡ i = omega arith in
      ap (λ x. (b + x % s) % s) turn ∙ ap (λ x. (b + x) % s) (add-mod_right (i - b) s ∙ mod-eq_of_lt {n = i - b} {m = s} low) ∙ ap (λ x. x % s) sum ∙ mod-eq_of_lt {n = i} {m = s} li
]

-- and no other number below s does
pub behind-only : (s b i j : ℕ) → b < s → j < s → (b + j) % s ≡ i → (i + s - b) % s ≡ j
behind-only s b i j lb lj e = elim (cases_lt (b + j) s) [
  | inl inside ↦
      let is : b + j ≡ i = sym (mod-eq_of_lt {n = b + j} {m = s} inside) ∙ e in
      let turn : i + s - b ≡ j + s = omega (arith, is) in
      ap (λ x. x % s) turn ∙ add-mod_right j s ∙ mod-eq_of_lt {n = j} {m = s} lj
  | inr past ↦
      let x : ℕ = b + j - s in
      let sum : x + s ≡ b + j = omega arith in
      let low : x < s = omega arith in
      let is : x ≡ i = sym (ap (λ y. y % s) (sym sum) ∙ add-mod_right x s ∙ mod-eq_of_lt {n = x} {m = s} low) ∙ e in
      let turn : i + s - b ≡ j = omega (arith, is, sum) in
      ap (λ y. y % s) turn ∙ mod-eq_of_lt {n = j} {m = s} lj
]

-- the order begins at its home
pub home_position : (b s : ℕ) → b < s → probe_slot b s 0 ≡ b
home_position b s l =
    let sum : b + 8 * 0 * (0 + 1) + 0 ≡ b = omega arith in
    probe_slot-group b s 0 0 (omega arith) ∙ ap (λ x. x % s) sum ∙ mod-eq_of_lt {n = b} {m = s} l

-- ---- the group at position p of the order of the hash h among s slots, whose first slot is b, and the slot i
module _ (h s b p i : ℕ) (count : IsSlotCount s) (aligned : p % 16 ≡ 0) (within : p + 16 ≤ s) (at : b ≡ probe_slot (h % s) s p) (low : i < s) where
  abbrev pub probed : ℕ → ℕ
  probed q = probe_slot (h % s) s q

  abbrev pub behind : ℕ
  behind = (i + s - b) % s

  first_low : b < s
  first_low = subst (λ x. x < s) (sym at) (probe_slot-lt (h % s) s p (let n = count.least in omega arith))

  -- slot j of the group is at the position p + j
  pub group_position : (j : ℕ) → j < 16 → (b + j) % s ≡ probed (p + j)
  group_position j l = ap (λ x. (x + j) % s) at ∙ probe_slot-step (h % s) s p j (omega (arith, aligned))

  -- where i is in the group, its position is as far behind p
  pub own_position : behind < 16 → probed (p + behind) ≡ i
  own_position l = sym (group_position behind l) ∙ behind-slot s b i first_low low

  -- otherwise no position of the group is that of i
  pub not_in_group : (behind < 16 → ⊥) → (j : ℕ) → j < 16 → probed (p + j) ≡ i → ⊥
  not_in_group far j l e =
      let least = count.least in
      let same = behind-only s b i j first_low (omega arith) (group_position j l ∙ e) in far (omega (arith, same))

  -- and so i is behind the group, where it is not before it
  pub later_position : (behind < 16 → ⊥) → ((q : ℕ) → q < p → probed q ≡ i → ⊥) → (n : ℕ) × (n < s) × (probed n ≡ i) × (p + 16 ≤ n)
  later_position far others =
      let n = probe_slot-onto (h % s) s i count low in (
        n.0,
        n.1,
        n.2,
        elim (cases_lt n.0 (p + 16)) [
          | inl before ↦ elim (cases_lt n.0 p) [
            | inl earlier ↦ absurd (others n.0 earlier n.2)
            | inr here ↦
                let j : ℕ = n.0 - p in
                let e : n.0 ≡ p + j = omega arith in
                absurd (not_in_group far j (omega arith) (ap probed (sym e) ∙ n.2))
          ]
          | inr after ↦ after
        ],
      )

  -- ---- the search for the key k among cells
  module _ (F : Format) (cs : Cells) (k : List ℕ) (len : length cs ≡ s) (hash : h ≡ F.hash k) where
    abbrev pub Passes : ℕ → Type 0
    Passes n = (q : ℕ) → q < n → stops_at cs k (probed q) ≡ false

    -- where the first m slots of the group are passed too, so are as many more positions
    pub passes_more : (m : ℕ) → m ≤ 16 → Passes p → ((j : ℕ) → j < m → stops_at cs k ((b + j) % s) ≡ false) → Passes (p + m)
    passes_more m few before here q l = elim (cases_lt q p) [
      | inl earlier ↦ before q earlier
      | inr later ↦
          let j : ℕ = q - p in
          let e : p + j ≡ q = omega arith in
          subst (λ x. stops_at cs k (probed x) ≡ false) e (subst (λ x. stops_at cs k x ≡ false) (group_position j (omega arith)) (here j (omega arith)))
    ]

    -- and the converse
    pub group_passes : (m n : ℕ) → m ≤ 16 → p + m ≤ n → Passes n → (j : ℕ) → j < m → stops_at cs k ((b + j) % s) ≡ false
    group_passes m n few less all j l = subst (λ x. stops_at cs k x ≡ false) (sym (group_position j (omega arith))) (all (p + j) (omega arith))

    slots : IsSlotCount (length cs)
    slots = subst IsSlotCount (sym len) count

    order_position : (q : ℕ) → probe_slot (home F k (length cs)) (length cs) q ≡ probed q
    order_position q = λ x. probe_slot (sym hash x % len x) (len x) q

    ends : (n : ℕ) → n < s → probed n ≡ i → Passes n → stops_at cs k i ≡ true → is_at i (search_end F cs k) ≡ true
    ends n l own passed stop =
        ends_there F cs k slots i n (subst (λ x. n < x) (sym len) l) (order_position n ∙ own) (λ q lq. ap (stops_at cs k) (order_position q) ∙ passed q lq) stop

    misses : (n : ℕ) → n < s → probed n ≡ i → (Passes n → ⊥) → is_at i (search_end F cs k) ≡ false
    misses n l own stopped =
        ends_elsewhere F cs k slots i n (subst (λ x. n < x) (sym len) l) (order_position n ∙ own) (λ all. stopped (λ q lq. ap (stops_at cs k) (sym (order_position q)) ∙ all q lq))

    -- the group of i decides whether the search ends there
    pub ends_here : behind < 16 → Passes p → stops_at cs k i ≡ true → (r : Bool) → IsTrue r ↔ ((j : ℕ) → j < behind → stops_at cs k ((b + j) % s) ≡ false) → r ≡ is_at i (search_end F cs k)
    ends_here l passed stop true known = sym (ends (p + behind) (omega (arith, within)) (own_position l) (passes_more behind (omega (arith, l)) passed (known.0 refl)) stop)
    ends_here l passed stop false known =
        sym (misses (p + behind) (omega (arith, within)) (own_position l) (λ all. true≢false (sym (known.1 (group_passes behind (p + behind) (omega (arith, l)) (omega arith) all)))))

    -- a group before it, where it is not passed
    pub ends_earlier : (behind < 16 → ⊥) → ((q : ℕ) → q < p → probed q ≡ i → ⊥) → (((j : ℕ) → j < 16 → stops_at cs k ((b + j) % s) ≡ false) → ⊥) → false ≡ is_at i (search_end F cs k)
    ends_earlier far others stopped =
        let n = later_position far others in
        sym (misses n.0 n.1 n.2 (λ all. stopped (group_passes 16 n.0 (omega arith) n.3 all)))

-- how far slot a is behind the home h, around the end: their difference as it wraps, modulo the slot count
pub distance : (a h s : ℕ) → IsSlotCount s → h < s → bit_and ((a + (2 ^ 64 - h)) % 2 ^ 64) (s - 1) ≡ (a + s - h) % s
distance a h s count low =
    let e = exponent s count in
    let few = few_slots s count in
    let m : ℕ = 2 ^ (64 - e.0) in
    let sum : e.0 + (64 - e.0) ≡ 64 = omega (arith, e.2) in
    let whole : 2 ^ 64 ≡ s * m = sym (ap (λ n. 2 ^ n) sum) ∙ pow-add 2 e.0 (64 - e.0) ∙ ap (λ n. n * m) (sym e.3) in
    let round : a + (2 ^ 64 - h) + s ≡ a + s - h + s * m = omega (arith, whole, low, few) in
    bit_and-slots ((a + (2 ^ 64 - h)) % 2 ^ 64) s count
    ∙ mod-mod_of_dvd s (a + (2 ^ 64 - h)) (dvd_of_mod-eq-zero s (ap (λ n. n % s) whole ∙ mul-mod_right s m))
    ∙ sym (add-mod_right (a + (2 ^ 64 - h)) s)
    ∙ ap (λ n. n % s) round
    ∙ add-mul-mod_self_left (a + s - h) s m
