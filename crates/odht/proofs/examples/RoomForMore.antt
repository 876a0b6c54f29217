-- Worked examples: a table that is given room for more items. Sixteen slots at 87 percent take 13 items, 32 slots 27.
use Rattle.std.proofs.Common.{◌≡◌, ◌∙◌, ◌^◌, Bool, true, false, refl, sym, ap, lit≤, lit<, Some, None, option_map, if◌then◌else◌, List, ℕ, bytes_eq, subst, arith, Ok, Err}
use Rattle.odht_raw.specs.Words.{le_bytes, map_of, Pair}
use Rattle.odht_base.proofs.lemmas.Least.{slots_for-IsLeastSlots}
use Rattle.odht_base.proofs.lemmas.Options.{some_same}
use Rattle.odht_base.proofs.examples.Configs.{my_config, pair64}
use Rattle.odht_header.proofs.examples.Apart.{unequal_lists}
use Rattle.odht_header.proofs.examples.Opened.{opened}
use Rattle.odht_header.specs.declared.error.Error.TheVariants.{Capacity, Memory}
use Rattle.odht.specs.Reserves.{LacksRoom, has_room_for, moved, reserved, IsMovedImage, IsMove, IsMoveFor}
use Rattle.odht.specs.Plain.{IsPlainReserve}
use Rattle.odht.proofs.examples.SmallTables.{number_coding, one_pair, one_of_32, bytes_of, wide_image, only_one_pair}

-- with one pair twelve more have room, and thirteen have not
pub rooms : (has_room_for (one_pair 2) 12 ≡ true) × (has_room_for (one_pair 2) 13 ≡ false) × LacksRoom (one_pair 2) 13
unfolding opened
rooms = (refl, refl, lit< tt)

-- with room the table stays; for 14 items it takes 32 slots, in which the key 1 has the home 21; for 2^63 and one no
-- slot count is enough
pub tables : (reserved my_config (one_pair 2) 12 ≡ Some (one_pair 2)) × (reserved my_config (one_pair 2) 13 ≡ Some (one_of_32 87 2))
    × (moved my_config (one_pair 2) 32 ≡ Some (one_of_32 87 2)) × (reserved my_config (one_pair 2) (2 ^ 63) ≡ None)
unfolding opened reserved
tables = (refl, refl, refl, refl)

-- the same map in both
same : (k : List ℕ) → map_of (one_pair 2) k ≡ map_of (one_of_32 87 2) k
unfolding opened
same k = go (bytes_eq k (le_bytes 8 1))
  where
    go : (b : Bool)
        → option_map (λ (p : Pair). p.value) (if b then Some (pair64 1 2) else None) ≡ option_map (λ (p : Pair). p.value) (if b then Some (pair64 1 2) else None)
    go b = refl

-- the bytes of the moved table
pub moved_image : IsMovedImage my_config (one_pair 2) 32 (bytes_of (one_of_32 87 2))
unfolding opened
moved_image = (one_of_32 87 2, refl, wide_image)

-- so are its bytes, of those of the table
pub move : IsMove my_config (bytes_of (one_pair 2)) 32 (bytes_of (one_of_32 87 2))
unfolding opened moved_image
move = record { on_valid = λ P is room. subst (λ T. IsMovedImage my_config T 32 (bytes_of (one_of_32 87 2))) (only_one_pair P is) moved_image; accepted = refl }

-- those of the pair in sixteen slots are not
pub not_moved : IsMovedImage my_config (one_pair 2) 32 (bytes_of (one_pair 2)) → ⊥
unfolding opened
not_moved h = unequal_lists _ _ refl (h.2.bytes ∙ ap bytes_of (sym (some_same (one_of_32 87 2) h.0 h.1)))

-- nothing moves with the room; for thirteen more there are 32 slots, whose table has 464 bytes
pub sizes_stay : IsMoveFor my_config (one_pair 2) 12 (Ok None)
unfolding opened
sizes_stay = lit≤ tt

pub sizes_for_more : IsMoveFor my_config (one_pair 2) 13 (Ok (Some (32, 464)))
unfolding opened
sizes_for_more = (lit< tt, record { slots = refl; least = slots_for-IsLeastSlots _ _ 32 refl; long = refl; fits = lit< tt })

-- no table moves that has the room, and none fails for which some table is large enough
pub sizes_early : IsMoveFor my_config (one_pair 2) 12 (Ok (Some (32, 464))) → ⊥
unfolding opened
sizes_early h = omega (arith, h.0)

pub sizes_large : IsMoveFor my_config (one_pair 2) 13 (Err Capacity) → ⊥
unfolding opened
sizes_large h = let long = h.1 32 refl in omega (arith, long)

-- ---- with the result of the call
-- the pair has moved, and there is room
pub reserve_moves : IsPlainReserve number_coding (one_pair 2) 13 (Ok tt) (one_of_32 87 2)
unfolding opened reserved
reserve_moves = record {
  table = refl;
  same_map = same;
  room = lit≤ tt;
  capacity = (λ e. absurd cc, λ h. absurd (let long = h.1 32 refl in omega (arith, long)));
  lacking = tt;
  only = tt;
}

-- a table without the room
pub too_small : IsPlainReserve number_coding (one_pair 2) 13 (Ok tt) (one_pair 2) → ⊥
unfolding opened
too_small h = omega (arith, h.room)

-- no failure where there is the room
pub reserve_early : IsPlainReserve number_coding (one_pair 2) 12 (Err Memory) (one_pair 2) → ⊥
unfolding opened
reserve_early h = omega (arith, h.lacking)

-- nor `Capacity` where some table is large enough
pub reserve_large : IsPlainReserve number_coding (one_pair 2) 13 (Err Capacity) (one_pair 2) → ⊥
unfolding opened
reserve_large h = let long = (h.capacity.0 refl).1 32 refl in omega (arith, long)
