-- Worked examples: the answers of a call for an order of inserts, of two tables and of bytes that the check rejects.
--     fifteen_bytes            15 in slot 15, and after it 31 in slot 0, which would be in slot 15 if it came first
--     padded                   the same bytes, where the padding is not zero
--     unmade_bytes             the keys 0 and 1 each after the other, which no inserts make
--     places                   an array of 48 elements
use Rattle.std.proofs.Common.{ℕ, List, [], ◌∷◌, refl, lit≤, inl, replicate}
use Rattle.odht_base.specs.Bytes.{overwritten_at}
use Rattle.odht_base.specs.Image.{image}
use Rattle.odht_base.specs.Valid.{IsImage}
use Rattle.odht_base.proofs.examples.Configs.{direct_config}
use Rattle.odht_base.proofs.examples.InsertOrders.{fifteen_first, fifteen_made, slot_order_refused}
use Rattle.odht_base.proofs.examples.Unmade.{unmade, unmade_valid, unmade_refused}
use Rattle.odht_base.proofs.lemmas.Placed.{IsPlaced-tests}
use Rattle.odht_header.specs.declared.error.Error.TheVariants.{NonZeroPadding}
use Rattle.odht_header.proofs.examples.Apart.{unequal, unequal_lists}
use Rattle.odht_header.proofs.examples.Opened.{opened}
use Rattle.odht_calls.specs.Orders.{OrderAnswers, ScratchAnswers}
use Rattle.odht_calls.proofs.examples.Tables.{direct_coding}

abbrev fifteen_bytes : List ℕ
fifteen_bytes = image direct_config fifteen_first

abbrev padded : List ℕ
padded = overwritten_at fifteen_bytes 30 (1 ∷ [])

abbrev unmade_bytes : List ℕ
unmade_bytes = image direct_config unmade

abbrev places : List ℕ
places = replicate 48 9

-- both tables are valid
fifteen_image : IsImage direct_config fifteen_first fifteen_bytes
unfolding opened
fifteen_image = record {
  valid = record {
    placed = IsPlaced-tests direct_config fifteen_first (record { power = refl; least = lit≤ tt }) refl refl;
    factor_low = lit≤ tt;
    factor_high = lit≤ tt;
    room = lit≤ tt;
  };
  bytes = refl;
}

unmade_image : IsImage direct_config unmade unmade_bytes
unmade_image = record { valid = unmade_valid; bytes = refl }

-- what the whole check rejects is not answered with ODHT_OK
pub order_status_refused : OrderAnswers direct_coding padded (9 ∷ 9 ∷ []) 0 (15 ∷ 0 ∷ []) → ⊥
unfolding opened
order_status_refused h = unequal 0 11 refl (h.refused (NonZeroPadding (1 ∷ 0 ∷ [])) refl).0

-- and the array is unchanged
pub order_kept_refused : OrderAnswers direct_coding padded (9 ∷ 9 ∷ []) 11 (15 ∷ 0 ∷ []) → ⊥
unfolding opened
order_kept_refused h = unequal_lists (15 ∷ 0 ∷ []) (9 ∷ 9 ∷ []) refl (h.refused (NonZeroPadding (1 ∷ 0 ∷ [])) refl).1

-- an array of one element is not accepted for two items
pub order_short_refused : OrderAnswers direct_coding fifteen_bytes (9 ∷ []) 0 (15 ∷ []) → ⊥
unfolding opened
order_short_refused h = unequal 0 35 refl (h.lengths fifteen_first fifteen_image (unequal 1 2 refl)).0

-- and one of three elements is unchanged
pub order_long_refused : OrderAnswers direct_coding fifteen_bytes (9 ∷ 9 ∷ 9 ∷ []) 35 (15 ∷ 0 ∷ 9 ∷ []) → ⊥
unfolding opened
order_long_refused h = unequal_lists (15 ∷ 0 ∷ 9 ∷ []) (9 ∷ 9 ∷ 9 ∷ []) refl (h.lengths fifteen_first fifteen_image (unequal 3 2 refl)).1

-- a table that inserts make is not answered with ODHT_UNMADE
pub order_given_up_refused : OrderAnswers direct_coding fifteen_bytes (9 ∷ 9 ∷ []) 37 (15 ∷ 0 ∷ []) → ⊥
unfolding opened
order_given_up_refused h = unequal 37 0 refl ((h.made fifteen_first fifteen_image refl).1 (inl fifteen_made.0))

-- nor one that none make with ODHT_OK
pub order_made_up_refused : OrderAnswers direct_coding unmade_bytes places 0 places → ⊥
unfolding opened
order_made_up_refused h = unmade_refused ((h.made unmade unmade_image refl).0 refl)

-- nor with another number
pub order_other_status_refused : OrderAnswers direct_coding unmade_bytes places 36 places → ⊥
unfolding opened
order_other_status_refused h = unequal 36 37 refl ((h.unmade unmade unmade_image refl).1 unmade_refused)

-- slot order is none of inserts here
pub order_by_slots_refused : OrderAnswers direct_coding fifteen_bytes (9 ∷ 9 ∷ []) 0 (0 ∷ 15 ∷ []) → ⊥
order_by_slots_refused h = slot_order_refused (h.order fifteen_first fifteen_image refl)

-- for bytes that the whole check rejects nothing is written to it
pub scratch_written_refused : ScratchAnswers direct_coding padded (9 ∷ 9 ∷ []) (7 ∷ 7 ∷ []) 11 (9 ∷ 9 ∷ []) (7 ∷ 8 ∷ []) → ⊥
scratch_written_refused h = unequal_lists (7 ∷ 8 ∷ []) (7 ∷ 7 ∷ []) refl (h.unwritten (unequal 11 0 refl) (unequal 11 37 refl))

-- an order in which inserts do not make the table is none with scratch either
pub scratch_by_slots_refused : ScratchAnswers direct_coding fifteen_bytes (9 ∷ 9 ∷ []) [] 0 (0 ∷ 15 ∷ []) [] → ⊥
scratch_by_slots_refused h = order_by_slots_refused h.order
