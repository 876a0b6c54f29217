-- A worked example: a valid table of 64 slots that no list of inserts makes, since each of the keys 0 and 1 is in the
-- slot that a search for the other one looks at first.
use Rattle.std.proofs.Common.{◌≡◌, ◌<◌, ◌++◌, ◌∙◌, ◌||◌, ◌==◌, inl, inr, ℕ, Bool, true, false, true≢false, refl, sym, ap, subst, arith, eqb, eqb-true, List, ◌∷◌, get_or, Some, None, is_none, map, replicate, Contains, lit≤, lit<}
use Rattle.std.specs.List.{range_with_len, list_any, list_all}
use Rattle.std.proofs.lemmas.Bool.{or_cases}
use Rattle.std.proofs.lemmas.Bool.Decides.{Decides-eqb}
use Rattle.std.proofs.lemmas.List.FromFn.{get_or-range_with_len}
use Rattle.std.proofs.lemmas.List.Sums.{AllPass-from_list_all}
use Rattle.std.proofs.lemmas.Map.Made.{is_member-Decides}
use Rattle.odht_base.specs.Load.{factor_of}
use Rattle.odht_base.specs.Made.{IsMade, IsInsertOrder}
use Rattle.odht_base.specs.Map.{map_of}
use Rattle.odht_base.specs.Numbers.{le_bytes}
use Rattle.odht_base.specs.Ready.{IsReady, IsStuck}
use Rattle.odht_base.specs.Search.{groups_read}
use Rattle.odht_base.specs.Table.{Table, Pair, count, is_free, walk}
use Rattle.odht_base.specs.Valid.{IsValid}
use Rattle.odht_base.proofs.examples.Configs.{direct_config, pair32}
use Rattle.odht_base.proofs.examples.Opened.{opened}
use Rattle.odht_base.proofs.lemmas.InsertOrders.{no_order_if_fewer}
use Rattle.odht_base.proofs.lemmas.MadeTables.{not_made_if_fewer}
use Rattle.odht_base.proofs.lemmas.Placed.{IsPlaced-tests}
use Rattle.odht_base.proofs.lemmas.ReadySlots.{not_ready, stuck_if_none}

abbrev pub unmade : Table
unmade = record {
  factor = factor_of 87;
  cells = Some (pair32 1 1) ∷ Some (pair32 0 0) ∷ map (λ i. Some (pair32 i i)) (range_with_len 2 31) ++ replicate 16 None ++ map (λ i. Some (pair32 i i)) (range_with_len 49 15);
}

pub unmade_numbers : (count unmade ≡ 48) × (groups_read direct_config unmade.cells (le_bytes 4 1) ≡ 3)
unfolding opened
unmade_numbers = (refl, refl)

pub unmade_found : map (λ (p : Pair). map_of unmade p.key) (walk unmade) ≡ map (λ (p : Pair). Some p.value) (walk unmade)
unmade_found = refl

pub unmade_valid : IsValid direct_config unmade
unfolding opened
unmade_valid = record {
  placed = IsPlaced-tests direct_config unmade (record { power = refl; least = lit≤ tt }) refl refl;
  factor_low = lit≤ tt;
  factor_high = lit≤ tt;
  room = lit≤ tt;
}

-- all occupied slots but 0 and 1
abbrev taken : List ℕ
taken = range_with_len 2 31 ++ range_with_len 49 15

-- the test of a slot that is taken or free, or one of the two
abbrev known : ℕ → Bool
known i = list_any (eqb i) taken || (is_free unmade.cells i || (i == 0 || i == 1))

-- all 64 slots pass it
all_known : list_all known (range_with_len 0 64) ≡ true
all_known = refl

-- a slot that is not found among the taken ones is not taken
not_taken : (i : ℕ) → list_any (eqb i) taken ≡ false → Contains taken i → ⊥
not_taken i e h = true≢false (sym ((is_member-Decides Decides-eqb taken i).1 h) ∙ e)

-- slot 0 has the key 1, whose search looks at slot 1 first
zero_not_ready : IsReady direct_config unmade taken 0 → ⊥
unfolding opened
zero_not_ready r = not_ready direct_config unmade taken 0 (pair32 1 1) refl 0 (λ q l. absurd (omega arith)) (λ e. omega arith) (not_taken 1 refl) r

-- and slot 1 the key 0, whose search looks at slot 0 first
one_not_ready : IsReady direct_config unmade taken 1 → ⊥
unfolding opened
one_not_ready r = not_ready direct_config unmade taken 1 (pair32 0 0) refl 0 (λ q l. absurd (omega arith)) (λ e. omega arith) (not_taken 0 refl) r

-- so no slot is ready after these
unmade_stuck : IsStuck direct_config unmade taken
unmade_stuck = stuck_if_none direct_config unmade taken (λ i l out r. go i out r (sorts i l))
  where
    sorts : (i : ℕ) → i < 64 → known i ≡ true
    sorts i l =
        let at : get_or (range_with_len 0 64) i 0 ≡ i = omega (arith, get_or-range_with_len 0 64 i 0 l) in
        subst (λ j. known j ≡ true) at (AllPass-from_list_all known (range_with_len 0 64) all_known i 0 l)

    go : (i : ℕ) → (Contains taken i → ⊥) → IsReady direct_config unmade taken i → known i ≡ true → ⊥
    go i out r e = elim (or_cases _ _ e) [
      | inl here ↦ out ((is_member-Decides Decides-eqb taken i).0 here)
      | inr other ↦ elim (or_cases _ _ other) [
        | inl free ↦ true≢false (sym free ∙ ap is_none r.holds)
        | inr two ↦ elim (or_cases _ _ two) [
          | inl zero ↦ zero_not_ready (subst (IsReady direct_config unmade taken) (eqb-true i 0 zero) r)
          | inr one ↦ one_not_ready (subst (IsReady direct_config unmade taken) (eqb-true i 1 one) r)
        ]
      ]
    ]

-- no inserts make it, of the owned table or of a view, by either rule at the maximum
pub unmade_refused : IsMade direct_config unmade → ⊥
unmade_refused = not_made_if_fewer direct_config unmade unmade_valid taken unmade_stuck (lit< tt)

-- and no order of its slots is an insert order
pub unmade_no_order : (out : List ℕ) → IsInsertOrder direct_config unmade out → ⊥
unmade_no_order = no_order_if_fewer direct_config unmade unmade_valid.placed taken unmade_stuck (lit< tt)
