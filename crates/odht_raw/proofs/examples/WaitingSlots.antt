-- Worked examples: slots that wait in the search for an insert order, in the table with 15 in slot 15 and 31 in slot 0.
use Rattle.std.proofs.Common.{◌≡◌, ◌<◌, ◌≤◌, ◌+◌, ◌%◌, ◌∙◌, inl, inr, ℕ, zero, suc, List, refl, true, false, true≢false, sym, ap, ap₂, subst, arith, [], ◌∷◌, replicate, length, get_or, All, AllPairs, Contains, lit<, lit≤}
use Rattle.odht_raw.proofs.lemmas.Below.{cases_lt, decoded_cells-parts, IsMade-IsInsertOrder, IsPermutation-append_comm, IsPermutation-refl, IsPlaced-tests, length_permutation, so_far_none}
use Rattle.odht_raw.specs.Words.{controls, decoded_cells, entries, IsFormat, IsInsertOrder, IsSoFar, IsValid, probe_slot, Table, un-lt}
use Rattle.odht_base.proofs.examples.Configs.{direct_config}
use Rattle.odht_base.proofs.examples.InsertOrders.{fifteen_first, fifteen_slots, fifteen_so_far, zero_so_far_refused}
use Rattle.odht_raw.specs.Frontiers.{AreFrontiers}
use Rattle.odht_raw.proofs.lemmas.Homes.{HasHomes}
use Rattle.odht_raw.specs.Parts.{TableParts}
use Rattle.odht_raw.specs.Waiting.{waiting, slot_of, placed_of, IsWaiting, AreRising, WaitsWithin, WaitsBehind, IsLeft, IsFrontier, IsUnblocked, IsPending, AreListed, IsBegun, IsFar, AreWholeParts, IsWhole, IsOrderAnswer}
use Rattle.odht_raw.specs.declared.raw_table.insert_order.Frontier.{Frontier}
use Rattle.odht_raw.proofs.lemmas.PendingSlots.{order_found}
use Rattle.odht_header.proofs.examples.Opened.{opened}

-- ---- lists of slots
-- how a slot that waits is listed, and which slots of a list do not wait
pub as_listed : (waiting 5 ≡ 9223372036854775813) × (slot_of (waiting 5) ≡ 5) × (slot_of 5 ≡ 5) × (placed_of (3 ∷ waiting 5 ∷ 7 ∷ []) ≡ 3 ∷ 7 ∷ [])
as_listed = (refl, refl, refl, refl)

-- slot 15 of sixteen, as one that waits
pub waits : IsWaiting 16 (waiting 15)
waits = (lit≤ tt, lit< tt)

-- a slot as one that is placed does not wait, and there is no slot 16
pub others_refused : (IsWaiting 16 15 → ⊥) × (IsWaiting 16 (waiting 16) → ⊥)
others_refused = (λ h. absurd (omega (arith, h.0)), λ h. absurd (omega (arith, h.1)))

-- two numbers rise
two_rise : (a b : ℕ) → a < b → AllPairs ◌<◌ (a ∷ b ∷ [])
two_rise a b low i j d lt l =
    let first : 0 ≡ i = omega (arith, lt, l) in
    let second : 1 ≡ j = omega (arith, lt, l) in
    subst (λ m. get_or (a ∷ b ∷ []) m d < get_or (a ∷ b ∷ []) j d) first (subst (λ m. a < get_or (a ∷ b ∷ []) m d) second low)

-- slots rise, whether they wait or not
pub rises : AreRising (3 ∷ waiting 5 ∷ [])
rises = two_rise 3 5 (lit< tt)

-- they do not where a later one is below, or the same
pub falls_refused : (AreRising (5 ∷ waiting 3 ∷ []) → ⊥) × (AreRising (5 ∷ waiting 5 ∷ []) → ⊥)
falls_refused = (λ h. omega (arith, h 0 1 0 (lit< tt) (lit< tt)), λ h. omega (arith, h 0 1 0 (lit< tt) (lit< tt)))

-- ---- which of some slots wait
-- of slots 3 and 5 the second waits
abbrev some : List ℕ
some = 3 ∷ waiting 5 ∷ []

-- so one of those from 4 to before 6 waits
pub within : WaitsWithin some 4 6
within = (5, lit≤ tt, lit< tt, (1, lit< tt, refl))

-- and one of the four from slot 14 on, around the end of sixteen, where slot 0 does; but not of the two
pub behind : WaitsBehind (waiting 0 ∷ []) 16 14 4 × (WaitsBehind (waiting 0 ∷ []) 16 14 2 → ⊥)
behind = ((2, lit< tt, (0, lit< tt, refl)), λ h. two h.0 h.1 h.2)
  where
    two : (j : ℕ) → j < 2 → Contains (waiting 0 ∷ []) (waiting ((14 + j) % 16)) → ⊥
    two j low w =
        let first : 0 ≡ w.0 = omega (arith, w.1) in
        let is : (14 + j) % 16 ≡ 14 + j = omega (arith, low) in
        omega (arith, w.2, is, ap (λ k. get_or (waiting 0 ∷ []) k (waiting ((14 + j) % 16))) first)

-- below slot 9 the last that waits is the one before 6; it is not the one before 5
pub left : IsLeft some 9 6 × (IsLeft some 9 5 → ⊥)
left = (record { low = lit≤ tt; last = λ l. (1, lit< tt, refl); none = λ j from below w. later j from w }, λ h. h.none 5 (lit≤ tt) (lit< tt) (1, lit< tt, refl))
  where
    later : (j : ℕ) → 6 ≤ j → Contains some (waiting j) → ⊥
    later j from w = elim (cases_lt w.0 1) [
      | inl first ↦ let is : 0 ≡ w.0 = omega (arith, first) in omega (arith, w.2, ap (λ k. get_or some k (waiting j)) is)
      | inr second ↦ let is : 1 ≡ w.0 = omega (arith, second, w.1) in omega (arith, w.2, from, ap (λ k. get_or some k (waiting j)) is)
    ]

-- ---- probe orders
-- of home 14 among sixteen slots slot 0 is the third, and where it alone waits none before it does
pub unblocked : IsUnblocked (waiting 0 ∷ []) 14 16 0
unblocked = record {
  position = 2;
  in_order = lit< tt;
  slot_is = refl;
  free = λ q l w. elim (cases_lt q 1) [
    | inl first ↦ let is : q ≡ 0 = omega (arith, first) in other 14 (lit< tt) (subst (λ k. Contains (waiting 0 ∷ []) (waiting (probe_slot 14 16 k))) is w)
    | inr second ↦ let is : q ≡ 1 = omega (arith, second, l) in other 15 (lit< tt) (subst (λ k. Contains (waiting 0 ∷ []) (waiting (probe_slot 14 16 k))) is w)
  ];
}
  where
    other : (j : ℕ) → 0 < j → Contains (waiting 0 ∷ []) (waiting j) → ⊥
    other j above w =
        let first : 0 ≡ w.0 = omega (arith, w.1) in
        omega (arith, w.2, above, ap (λ k. get_or (waiting 0 ∷ []) k (waiting j)) first)

-- of home 5 among 32 slots none is passed; its second group begins at slot 21, but slot 5 waits
pub frontier : AreFrontiers some 32 (record { home = 5; base = 5; position = 0 } ∷ []) × (IsFrontier some 32 5 21 16 → ⊥)
frontier = (
  λ k d l.
      let first : 0 ≡ k = omega (arith, l) in
      subst (λ n. let f : Frontier = get_or (record { home = 5; base = 5; position = 0 } ∷ []) n d in IsFrontier some 32 f.home f.base f.position) first
      (record { home_within = lit< tt; aligned = refl; within = lit≤ tt; base_is = refl; free = λ q low. absurd (omega (arith, low)) }),
  λ h. h.free 0 (lit< tt) (1, lit< tt, refl),
)

-- ---- a search
-- at its start both slots wait
pub at_start : IsPending direct_config fifteen_first [] (waiting 0 ∷ waiting 15 ∷ [])
unfolding opened
at_start = record { listed = IsPermutation-refl (0 ∷ 15 ∷ []); rising = two_rise 0 15 (lit< tt); so_far = so_far_none direct_config fifteen_first }

-- within the first pass slot 15 is placed, at its index in the list
pub within_pass : IsSoFar direct_config fifteen_first (15 ∷ []) → IsPending direct_config fifteen_first [] (waiting 0 ∷ 15 ∷ [])
unfolding opened
within_pass taken = record { listed = IsPermutation-refl (0 ∷ 15 ∷ []); rising = two_rise 0 15 (lit< tt); so_far = taken }

-- behind it slot 0 alone is left
pub behind_pass : IsSoFar direct_config fifteen_first (15 ∷ []) → IsPending direct_config fifteen_first (15 ∷ []) (waiting 0 ∷ [])
unfolding opened
behind_pass taken = record {
  listed = IsPermutation-append_comm (0 ∷ []) (15 ∷ []);
  rising = λ i j d lt l. absurd (omega (arith, lt, l));
  so_far = taken;
}

-- in the end none is
pub at_end : IsPending direct_config fifteen_first (15 ∷ 0 ∷ []) []
unfolding opened
at_end = record {
  listed = IsPermutation-append_comm (0 ∷ []) (15 ∷ []);
  rising = λ i j d lt l. absurd (omega (arith, l));
  so_far = fifteen_so_far;
}

-- none is left out, they do not fall, and slot 0 is not placed first
pub pending_refused : (IsPending direct_config fifteen_first [] (waiting 0 ∷ []) → ⊥)
    × (IsPending direct_config fifteen_first [] (waiting 15 ∷ waiting 0 ∷ []) → ⊥)
    × (IsPending direct_config fifteen_first (0 ∷ 15 ∷ []) [] → ⊥)
unfolding opened
pending_refused = (
  λ h. omega (arith, length_permutation (0 ∷ 15 ∷ []) (0 ∷ []) h.listed),
  λ h. omega (arith, h.rising 0 1 0 (lit< tt) (lit< tt)),
  λ h. zero_so_far_refused h.so_far,
)

-- ---- parts
-- the parts of the table
abbrev pub parts : TableParts
parts = record { control = controls direct_config fifteen_first.cells; entries = record { slots = 16; bytes = entries direct_config fifteen_first.cells } }

-- it is valid
fifteen_valid : IsValid direct_config fifteen_first
unfolding opened
fifteen_valid = record {
  placed = IsPlaced-tests direct_config fifteen_first (record { power = refl; least = lit≤ tt }) refl refl;
  factor_low = lit≤ tt;
  factor_high = lit≤ tt;
  room = lit≤ tt;
}

-- they are whole, with two pairs
pub whole : AreWholeParts direct_config fifteen_first parts 2
unfolding opened
whole = record { valid = fifteen_valid; parts = record { placed = fifteen_valid.placed; entries_are = refl; controls_are = refl }; counted = refl }

-- and not with one
pub one_refused : AreWholeParts direct_config fifteen_first parts 1 → ⊥
one_refused h = omega (arith, h.counted, fifteen_slots.2)

-- at the start both slots are listed
pub listed : AreListed direct_config parts (waiting 0 ∷ waiting 15 ∷ [])
unfolding opened
listed = record { waiting = both; table = fifteen_first; parts = whole.parts; done = []; pending = at_start }
  where
    both : All (IsWaiting 16) (waiting 0 ∷ waiting 15 ∷ [])
    both zero d l = (lit≤ tt, lit< tt)
    both (suc zero) d l = (lit≤ tt, lit< tt)
    both (suc (suc k)) d l = absurd (omega (arith, l))

-- a slot that is placed is not listed so
pub placed_refused : AreListed direct_config parts (waiting 0 ∷ 15 ∷ []) → ⊥
placed_refused h = absurd (omega (arith, (h.waiting 1 0 (lit< tt)).0))

-- the hash of four bytes fits 32 bits
direct_format : IsFormat direct_config
direct_format = record {
  key_short = lit≤ tt;
  value_short = lit≤ tt;
  hash_small = λ b is. un-lt b (subst (λ n. 4 ≤ n) (sym is.len) (lit≤ tt)) is.each;
}

-- its keys have homes among sixteen slots with a mirror
pub homed : HasHomes direct_config parts
unfolding opened
homed = record { format = direct_format; slots = record { power = refl; least = lit≤ tt }; mirrored = refl }

-- they have none without the mirror, and none among no slots
abbrev bare : List ℕ
bare = replicate 16 255

pub homes_refused : (HasHomes direct_config (record { control = bare; entries = parts.entries }) → ⊥) × (HasHomes direct_config (record { control = bare; entries = record { slots = 0; bytes = [] } }) → ⊥)
homes_refused = (λ h. let n : length bare ≡ 16 = refl in omega (arith, h.mirrored, n), λ h. omega (arith, h.slots.least))

-- each table that has these parts has the same cells
same_cells : (P : Table) → AreWholeParts direct_config P parts 2 → P.cells ≡ fifteen_first.cells
same_cells P is =
    sym (decoded_cells-parts direct_config P.cells direct_format is.valid.placed.pairs is.valid.placed.slots.least)
    ∙ ap₂ (decoded_cells direct_config) (sym is.parts.entries_are) (sym is.parts.controls_are)
    ∙ decoded_cells-parts direct_config fifteen_first.cells direct_format fifteen_valid.placed.pairs fifteen_valid.placed.slots.least

-- whatever its load factor is, slots 15 and 0 are placed in this order
in_order : (factor : ℕ) → IsPending direct_config (record { factor = factor; cells = fifteen_first.cells }) (15 ∷ 0 ∷ []) []
in_order factor =
    let h = at_end in
    record {
      listed = h.listed;
      rising = h.rising;
      so_far = record {
        apart = h.so_far.apart;
        ready = λ n l.
            let r = h.so_far.ready n l in
            record { pair = r.pair; holds = r.holds; position = r.position; in_order = r.in_order; slot_is = r.slot_is; earlier_taken = r.earlier_taken };
      };
    }

-- so both are placed
pub begun : IsBegun direct_config parts (15 ∷ 0 ∷ []) 2
begun = record {
  within = lit≤ tt;
  waiting = λ k d l. absurd (omega (arith, l));
  pending = λ P is. subst (λ cs. IsPending direct_config (record { factor = P.factor; cells = cs }) (15 ∷ 0 ∷ []) []) (sym (same_cells P is)) (in_order P.factor);
}

-- of a list of all slots, one that is placed stands before those that wait, and slot 0 is not placed first
pub begun_refused : (IsBegun direct_config parts (waiting 0 ∷ 15 ∷ []) 0 → ⊥) × (IsBegun direct_config parts (0 ∷ 15 ∷ []) 2 → ⊥)
begun_refused = (λ h. absurd (omega (arith, (h.waiting 1 0 (lit< tt)).0)), λ h. pending_refused.2 (h.pending fifteen_first whole))

-- these are the parts of a table of two pairs, which inserts make; slots 15 and 0 are such an order
pub order_answer : IsWhole direct_config parts 2 × IsOrderAnswer direct_config parts 2 (15 ∷ 0 ∷ []) true
order_answer = (
  (fifteen_first, whole),
  record { order = λ P is t. order P is; made = λ P is. (λ t. (IsMade-IsInsertOrder direct_config P is.valid).1 (15 ∷ 0 ∷ [], order P is), λ made. refl) },
)
  where
    order : (P : Table) → AreWholeParts direct_config P parts 2 → IsInsertOrder direct_config P (15 ∷ 0 ∷ [])
    order P is = order_found direct_config P parts (15 ∷ 0 ∷ []) 2 refl is 2 (lit≤ tt) (begun.pending P is)

-- so that none makes it is no answer
pub unmade_refused : IsOrderAnswer direct_config parts 2 (15 ∷ 0 ∷ []) false → ⊥
unmade_refused h = absurd (true≢false (sym ((h.made fifteen_first whole).1 ((order_answer.1.made fifteen_first whole).0 refl))))

-- the home of 31 is slot 15, so in slot 0 it is far; in slot 15 key 15 is not
pub far : IsFar direct_config parts (waiting 0) × (IsFar direct_config parts (waiting 15) → ⊥)
unfolding opened
far = (inl (lit< tt), λ h. elim h [ inl below ↦ absurd (omega (arith, below)) | inr past ↦ absurd (omega (arith, past)) ])
