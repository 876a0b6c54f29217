-- Worked examples: insert orders, and lists of slots that are none.
use Rattle.std.proofs.Common.{◌≡◌, ◌++◌, Bool, refl, ap, subst, arith, lit<, lit≤, List, [], ◌∷◌, get_or, Option, Some, None, option_map, replicate, Contains, All}
use Rattle.std.specs.Prelude.{IfSome}
use Rattle.std.proofs.lemmas.Bool.{false≢true}
use Rattle.std.proofs.lemmas.List.Elements.{All-nil, All-cons}
use Rattle.std.proofs.lemmas.List.Sorted.{IsPermutation-refl, IsPermutation-append_comm, length_permutation}
use Rattle.odht_base.specs.CountRule.{insert_owned_by_count, insert_view_by_count}
use Rattle.odht_base.specs.Format.{home}
use Rattle.odht_base.specs.Insert.{insert_owned, insert_view}
use Rattle.odht_base.specs.Load.{factor_of, IsSlotCount}
use Rattle.odht_base.specs.Made.{IsMadeBy, IsInsertOrder, occupied}
use Rattle.odht_base.specs.Numbers.{le_bytes}
use Rattle.odht_base.specs.Probe.{probe_slot}
use Rattle.odht_base.specs.Ready.{IsReady, IsSoFar, IsStuck}
use Rattle.odht_base.specs.Search.{search_end, is_at}
use Rattle.odht_base.specs.Table.{Pair, Table, count, fresh}
use Rattle.odht_base.specs.Valid.{IsPairOf}
use Rattle.odht_base.proofs.examples.Configs.{test_config, direct_config, pair32}
use Rattle.odht_base.proofs.examples.Opened.{opened}
use Rattle.odht_base.proofs.examples.Tables.{wrapped}
use Rattle.odht_base.proofs.lemmas.Options.{some_same}
use Rattle.odht_base.proofs.lemmas.Placed.{IsPairOf-pair_fits}
use Rattle.odht_base.proofs.lemmas.ReadySlots.{not_ready}
use Rattle.odht_base.proofs.lemmas.SoFar.{so_far_none, so_far_push}

-- a fresh table has the insert order of no slots
pub fresh_order : IfSome (fresh 0 87) (λ P. IsInsertOrder test_config P [])
unfolding opened
fresh_order = record { each_once = IsPermutation-refl []; gives = refl }

-- 15 and then 31, with home 15 both: 15 is in slot 15, and 31 in slot 0
abbrev pub fifteen_first : Table
fifteen_first = record { factor = factor_of 87; cells = Some (pair32 31 31) ∷ replicate 14 None ++ Some (pair32 15 15) ∷ [] }

-- that is what two inserts into a view give
pub fifteen_slots : (wrapped ≡ Some fifteen_first) × (occupied fifteen_first ≡ 0 ∷ 15 ∷ []) × (count fifteen_first ≡ 2)
unfolding opened
fifteen_slots = (refl, refl, refl)

-- so 15, 0 is an insert order
pub fifteen_order : IsInsertOrder direct_config fifteen_first (15 ∷ 0 ∷ [])
unfolding opened
fifteen_order = record { each_once = IsPermutation-append_comm (0 ∷ []) (15 ∷ []); gives = refl }

-- whether 15 is in slot 15
abbrev at_home : Option Table → Option Bool
at_home = option_map (λ P. is_at 15 (search_end direct_config P.cells (le_bytes 4 15)))

-- the slot order 0, 15 is none, since 31 would be placed in slot 15
pub slot_order_refused : IsInsertOrder direct_config fifteen_first (0 ∷ 15 ∷ []) → ⊥
unfolding opened
slot_order_refused o = false≢true (some_same _ _ (ap at_home o.gives))

-- nor is one of the occupied slots alone
pub alone_refused : IsInsertOrder direct_config fifteen_first (15 ∷ []) → ⊥
alone_refused o = omega (arith, length_permutation (0 ∷ 15 ∷ []) (15 ∷ []) o.each_once)

-- nor is a list with one of them twice
pub twice_refused : IsInsertOrder direct_config fifteen_first (15 ∷ 0 ∷ 15 ∷ []) → ⊥
twice_refused o = omega (arith, length_permutation (0 ∷ 15 ∷ []) (15 ∷ 0 ∷ 15 ∷ []) o.each_once)

-- ---- a search for the order
-- at the start slot 15 is ready
pub fifteen_ready : IsReady direct_config fifteen_first [] 15
unfolding opened
fifteen_ready = record { pair = pair32 15 15; holds = refl; position = 0; in_order = lit< tt; slot_is = refl; earlier_taken = λ q l. absurd (omega arith) }

-- slot 0 is not
pub zero_refused : IsReady direct_config fifteen_first [] 0 → ⊥
unfolding opened
zero_refused r = not_ready direct_config fifteen_first [] 0 (pair32 31 31) refl 0 (λ q l. absurd (omega arith)) (λ e. omega arith) (λ h. omega (arith, h.1)) r

-- but after slot 15
pub zero_ready : IsReady direct_config fifteen_first (15 ∷ []) 0
unfolding opened
zero_ready = record {
  pair = pair32 31 31;
  holds = refl;
  position = 1;
  in_order = lit< tt;
  slot_is = refl;
  earlier_taken = λ q l. let first : 0 ≡ q = omega arith in subst (λ n. Contains (15 ∷ []) (probe_slot (home direct_config (le_bytes 4 31) 16) 16 n)) first (0, lit< tt, refl);
}

-- so a search is not stuck at the start
pub unstuck : IsStuck direct_config fifteen_first [] → ⊥
unstuck stuck = omega (arith, (stuck 15 fifteen_ready).1)

-- so 15, 0 are the slots taken
pub fifteen_so_far : IsSoFar direct_config fifteen_first (15 ∷ 0 ∷ [])
fifteen_so_far =
    so_far_push direct_config fifteen_first (15 ∷ []) 0
    (so_far_push direct_config fifteen_first [] 15 (so_far_none direct_config fifteen_first) (λ h. omega (arith, h.1)) fifteen_ready)
    (λ h. let first : h.0 ≡ 0 = omega (arith, h.1) in let same : 15 ≡ 0 = subst (λ n. get_or (15 ∷ []) n 0 ≡ 0) first h.2 in omega arith)
    zero_ready

-- and 0, 15 never are
pub zero_so_far_refused : IsSoFar direct_config fifteen_first (0 ∷ 15 ∷ []) → ⊥
zero_so_far_refused s = zero_refused (s.ready 0 (lit< tt))

-- ---- inserts
-- the two inserts
abbrev both : List Pair
both = pair32 15 15 ∷ pair32 31 31 ∷ []

-- their keys and values are of the configuration's lengths
both_fit : All (IsPairOf direct_config) both
both_fit =
    All-cons (IsPairOf direct_config) (pair32 15 15) (pair32 31 31 ∷ []) (IsPairOf-pair_fits direct_config (pair32 15 15) refl)
    (All-cons (IsPairOf direct_config) (pair32 31 31) [] (IsPairOf-pair_fits direct_config (pair32 31 31) refl) (All-nil (IsPairOf direct_config)))

-- and 16 is a slot count
sixteen : IsSlotCount 16
unfolding opened
sixteen = record { power = refl; least = lit≤ tt }

-- they make it, into the owned table or a view, by either rule at the maximum
pub fifteen_made : IsMadeBy direct_config (insert_owned direct_config) fifteen_first × IsMadeBy direct_config (insert_view direct_config) fifteen_first
    × IsMadeBy direct_config (insert_owned_by_count direct_config) fifteen_first × IsMadeBy direct_config (insert_view_by_count direct_config) fifteen_first
unfolding opened
fifteen_made = ((16, both, sixteen, both_fit, refl), (16, both, sixteen, both_fit, refl), (16, both, sixteen, both_fit, refl), (16, both, sixteen, both_fit, refl))
