-- Worked examples: what the calls answer that ask for the length of a new table, and that make one.
use Rattle.std.proofs.Common.{◌≤◌, ◌^◌, ◌-◌, ◌∙◌, ℕ, refl, sym, ap, arith, lit≤, lit<, List, [], ◌∷◌, replicate}
use Rattle.std.proofs.lemmas.Option.{none-some}
use Rattle.odht_base.specs.Image.{image}
use Rattle.odht_base.specs.Load.{factor_of, IsPercent}
use Rattle.odht_base.proofs.examples.Configs.{direct_config}
use Rattle.odht_base.proofs.lemmas.Options.{some_same}
use Rattle.odht_header.specs.Refusals.{IsTooLarge, new_refusal}
use Rattle.odht_header.specs.declared.error.Error.TheVariants.{InitLength, Capacity}
use Rattle.odht_header.proofs.examples.Opened.{opened}
use Rattle.odht_calls.specs.Writes.{BytesNeededAnswers, InitAnswers}
use Rattle.odht_base.proofs.examples.Numbers.{zero_percent_refused}
use Rattle.odht_header.proofs.examples.Apart.{unequal, unequal_lists}
use Rattle.odht_calls.proofs.examples.Tables.{direct_coding, no_items, no_bytes, one_bytes}

-- 7 percent is a load factor
pub seven : IsPercent 7
seven = (lit≤ tt, lit≤ tt)

-- and one hundred too
hundred : IsPercent 100
hundred = (lit≤ tt, lit≤ tt)

-- one item at 7 percent is not too many
pub one_fits : IsTooLarge direct_config 1 (factor_of 7) → ⊥
unfolding opened
one_fits h = let least : 2 ^ 64 ≤ 192 = h 16 refl in omega (arith, least)

-- more items than 2 ^ 63 slots take are
abbrev pub too_many : ℕ
too_many = 2 ^ 64 - 1

-- at no slot count are there enough
pub too_many_items : IsTooLarge direct_config too_many (factor_of 100)
unfolding opened
too_many_items s is = absurd (none-some s is)

-- ---- BytesNeededAnswers
-- no percent is not answered with ODHT_OK
pub needed_percent_status_refused : BytesNeededAnswers direct_coding 1 0 9 0 9 → ⊥
needed_percent_status_refused h = unequal 0 34 refl (h.percent zero_percent_refused).0

-- and writes no number
pub needed_percent_written_refused : BytesNeededAnswers direct_coding 1 0 9 34 192 → ⊥
needed_percent_written_refused h = unequal 192 9 refl (h.percent zero_percent_refused).1

-- one item is answered with ODHT_OK
pub needed_status_refused : BytesNeededAnswers direct_coding 1 7 9 20 192 → ⊥
unfolding opened
needed_status_refused h = unequal 20 0 refl (h.needed 16 seven refl (lit< tt)).0

-- and with its own length
pub needed_other_length_refused : BytesNeededAnswers direct_coding 1 7 9 0 191 → ⊥
unfolding opened
needed_other_length_refused h = unequal 191 192 refl (h.needed 16 seven refl (lit< tt)).1

-- too many items are not answered with ODHT_OK
pub needed_capacity_status_refused : BytesNeededAnswers direct_coding too_many 100 9 0 9 → ⊥
needed_capacity_status_refused h = unequal 0 20 refl (h.capacity hundred too_many_items).0

-- and write no number
pub needed_capacity_written_refused : BytesNeededAnswers direct_coding too_many 100 9 20 192 → ⊥
needed_capacity_written_refused h = unequal 192 9 refl (h.capacity hundred too_many_items).1

-- ---- InitAnswers
-- 192 bytes that are no table
abbrev ones : List ℕ
ones = replicate 192 1

-- no percent is not answered with ODHT_OK
pub init_percent_status_refused : InitAnswers direct_coding 1 0 ones 0 ones → ⊥
init_percent_status_refused h = unequal 0 34 refl (h.percent zero_percent_refused).0

-- and writes no table
pub init_percent_written_refused : InitAnswers direct_coding 1 0 ones 34 no_bytes → ⊥
unfolding opened new_refusal
init_percent_written_refused h = unequal_lists no_bytes ones refl (h.percent zero_percent_refused).1

-- too few bytes are answered with ODHT_INIT_LENGTH
pub init_status_refused : InitAnswers direct_coding 1 7 [] 1 [] → ⊥
unfolding opened new_refusal
init_status_refused h = unequal 1 17 refl (h.refused (InitLength 0 192) seven refl).0

-- and are unchanged
pub init_refusal_written_refused : InitAnswers direct_coding 1 7 [] 17 (1 ∷ []) → ⊥
unfolding opened new_refusal
init_refusal_written_refused h = unequal_lists (1 ∷ []) [] refl (h.refused (InitLength 0 192) seven refl).1

-- too many items are answered with ODHT_CAPACITY
pub init_capacity_status_refused : InitAnswers direct_coding too_many 100 [] 17 [] → ⊥
unfolding opened new_refusal
init_capacity_status_refused h = unequal 17 20 refl (h.refused Capacity hundred refl).0

-- a new table is answered with ODHT_OK
pub init_made_status_refused : InitAnswers direct_coding 1 7 ones 33 no_bytes → ⊥
unfolding opened new_refusal
init_made_status_refused h = unequal 33 0 refl (h.made seven refl).0

-- and is empty
pub init_made_inserted_refused : InitAnswers direct_coding 1 7 ones 0 one_bytes → ⊥
unfolding opened new_refusal
init_made_inserted_refused h =
    let made = (h.made seven refl).1 in
    unequal_lists one_bytes no_bytes refl
    (made.2.bytes ∙ ap (image direct_config) (sym (some_same no_items made.0 made.1)))
