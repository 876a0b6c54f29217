-- The inserts that ask the count alone, on valid tables.
use Rattle.std.proofs.Common.{◌≡◌, inl, inr, false, ap, cond, None, arith, eqb-true}
use Rattle.std.specs.Prelude.{option_and_then}
use Rattle.std.proofs.lemmas.Bool.{eqb-false, false_from_ne_true}
use Rattle.std.proofs.lemmas.Option.{none-some}
use Rattle.odht_base.specs.CountRule.{insert_owned_by_count, insert_view_by_count}
use Rattle.odht_base.specs.Format.{Format}
use Rattle.odht_base.specs.Insert.{place, grown, is_full}
use Rattle.odht_base.specs.Load.{max_items}
use Rattle.odht_base.specs.Table.{Table, slot_count, count}
use Rattle.odht_base.specs.Valid.{IsValid}
use Rattle.odht_base.proofs.lemmas.FreshRuns.{PlacesBelow}
use Rattle.odht_base.proofs.lemmas.TableInserts.{HasRoom, IsBased, cond_cases, after_growth, at_once}

-- a valid table that is not full has room
room_if_not_full : (F : Format) (P : Table) → IsValid F P → is_full P ≡ false → HasRoom P
room_if_not_full F P ok low = let ne = eqb-false (count P) (max_items (slot_count P) P.factor) low in omega (arith, ok.room, ne)

-- and one with room is not full
not_full_if_room : (P : Table) → HasRoom P → is_full P ≡ false
not_full_if_room P room = false_from_ne_true _ (λ e. omega (arith, room, eqb-true (count P) (max_items (slot_count P) P.factor) e))

module _ (F : Format) where
  -- that of the owned table places its pair in the table or in the grown one
  pub insert_owned_by_count-IsBased : IsBased F (insert_owned_by_count F)
  insert_owned_by_count-IsBased P Q p ok e = elim (cond_cases (is_full P) _ _ _ e) [
    | inl full ↦ after_growth F P Q p ok full.1
    | inr low ↦ at_once F P Q p ok (inl (room_if_not_full F P ok low.0)) low.1
  ]

  -- that of a view in the table
  pub insert_view_by_count-IsBased : IsBased F (insert_view_by_count F)
  insert_view_by_count-IsBased P Q p ok e = elim (cond_cases (is_full P) _ _ _ e) [
    | inl full ↦ absurd (none-some Q full.1)
    | inr low ↦ at_once F P Q p ok (inl (room_if_not_full F P ok low.0)) low.1
  ]

  -- and below the maximum each places its pair
  pub insert_owned_by_count-PlacesBelow : PlacesBelow F (insert_owned_by_count F)
  insert_owned_by_count-PlacesBelow P p ok l = ap (λ b. cond b (option_and_then (λ Q. place F Q p) (grown F P)) (place F P p)) (not_full_if_room P l)

  -- that of a view too
  pub insert_view_by_count-PlacesBelow : PlacesBelow F (insert_view_by_count F)
  insert_view_by_count-PlacesBelow P p ok l = ap (λ b. cond b None (place F P p)) (not_full_if_room P l)
