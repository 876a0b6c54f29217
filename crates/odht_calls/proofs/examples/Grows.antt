-- Worked examples: what a call for a growth answers, of the table of one pair and of bytes that it rejects.
--     grown_item, grown_bytes  the table into which that of one item grows: thirty-two slots, of which slot 5 has the
--                              pair; and its 336 bytes
--     weak                     the bytes of no items, with a load factor of 654 in the header; a growth rejects them
--     nines, inserted          bytes of a caller, one more than are needed; and what a growth leaves of them
use Rattle.std.proofs.Common.{◌≡◌, ◌∙◌, ◌++◌, ℕ, List, [], ◌∷◌, refl, sym, ap, lit≤, lit<, replicate, set, Some, None}
use Rattle.odht_base.specs.Bytes.{overwritten_at}
use Rattle.odht_base.specs.Image.{image}
use Rattle.odht_base.specs.Insert.{grown}
use Rattle.odht_base.specs.Load.{factor_of}
use Rattle.odht_base.specs.Table.{Table}
use Rattle.odht_base.proofs.examples.Configs.{direct_config, pair32}
use Rattle.odht_base.proofs.lemmas.Options.{some_same}
use Rattle.odht_header.specs.declared.error.Error.TheVariants.{TooShort, LoadFactorTooSmall}
use Rattle.odht_header.proofs.examples.Apart.{unequal, unequal_lists}
use Rattle.odht_header.proofs.examples.Opened.{opened}
use Rattle.odht.specs.Growths.{grown_len, IsGrownImage}
use Rattle.odht_calls.specs.Grows.{growth_refusal, GrowAnswers, IsGrownFrom, IsGrownInto}
use Rattle.odht_calls.proofs.examples.Tables.{direct_coding, no_bytes, one_item, one_bytes, miscounted, one_image}
use Rattle.odht_calls.proofs.lemmas.Refused.{not_none}

abbrev grown_item : Table
grown_item = record { factor = factor_of 7; cells = set (replicate 32 None) 5 (Some (pair32 5 7)) }

abbrev grown_bytes : List ℕ
grown_bytes = image direct_config grown_item

abbrev other_grown : List ℕ
other_grown = image direct_config (record { factor = factor_of 7; cells = set (replicate 32 None) 5 (Some (pair32 5 8)) })

abbrev weak : List ℕ
weak = overwritten_at no_bytes 28 (142 ∷ 2 ∷ [])

abbrev nines : List ℕ
nines = replicate 337 9

abbrev inserted : List ℕ
inserted = grown_bytes ++ 9 ∷ []

-- the table of one item grows into that of thirty-two slots
grows : grown direct_config one_item ≡ Some grown_item
unfolding opened
grows = refl

-- and into no other
only_grown : (T : List ℕ) → IsGrownImage direct_config one_item T → T ≡ grown_bytes
only_grown T h = h.2.bytes ∙ ap (image direct_config) (some_same h.0 grown_item (sym h.1 ∙ grows))

-- ---- IsGrownFrom
-- no bytes are grown
pub nothing_grown_refused : IsGrownFrom direct_config one_bytes [] → ⊥
unfolding opened
nothing_grown_refused h = not_none _ (TooShort 0) refl h.accepted

-- the header has no other count
pub other_count_refused : IsGrownFrom direct_config miscounted no_bytes → ⊥
unfolding opened
other_count_refused h = unequal 0 5 refl h.count

-- nor another load factor
pub other_factor_refused : IsGrownFrom direct_config weak no_bytes → ⊥
unfolding opened
other_factor_refused h = unequal (factor_of 7) 654 refl h.factor

-- and no other table is grown
pub other_table_refused : IsGrownFrom direct_config one_bytes other_grown → ⊥
unfolding opened
other_table_refused h = unequal_lists other_grown grown_bytes refl (only_grown other_grown (h.on_valid one_item one_image))

-- ---- IsGrownInto
-- what is unchanged is no table
pub unwritten_refused : IsGrownInto direct_config one_bytes 336 nines nines → ⊥
unfolding opened
unwritten_refused h = unequal_lists (replicate 336 9) grown_bytes refl (only_grown (replicate 336 9) (h.table.on_valid one_item one_image))

-- and the byte after the table is unchanged
pub behind_grown_refused : IsGrownInto direct_config one_bytes 336 nines (grown_bytes ++ 7 ∷ []) → ⊥
unfolding opened
behind_grown_refused h = unequal_lists (7 ∷ []) (9 ∷ []) refl h.rest

-- ---- GrowAnswers
-- an error is not answered with another status
pub grow_status_refused : GrowAnswers direct_coding weak (9 ∷ []) 4 20 (9 ∷ []) 4 → ⊥
unfolding opened growth_refusal
grow_status_refused h = unequal 20 10 refl (h.refused (LoadFactorTooSmall 654) refl).0

-- and writes neither a byte nor a length
pub grow_written_refused : (GrowAnswers direct_coding weak (9 ∷ []) 4 10 (7 ∷ []) 4 → ⊥)
    × (GrowAnswers direct_coding weak (9 ∷ []) 4 10 (9 ∷ []) 0 → ⊥)
unfolding opened growth_refusal
grow_written_refused = (
  λ h. unequal_lists (7 ∷ []) (9 ∷ []) refl (h.refused (LoadFactorTooSmall 654) refl).1,
  λ h. unequal 0 4 refl (h.refused (LoadFactorTooSmall 654) refl).2,
)

-- too few bytes are not answered with ODHT_OK
pub grow_short_status_refused : GrowAnswers direct_coding one_bytes (9 ∷ []) 4 0 (9 ∷ []) 336 → ⊥
unfolding opened growth_refusal grown_len
grow_short_status_refused h = unequal 0 36 refl (h.short 336 refl refl (lit< tt)).0

-- and are unchanged, and no other length is written
pub grow_short_written_refused : (GrowAnswers direct_coding one_bytes (9 ∷ []) 4 36 (79 ∷ []) 336 → ⊥)
    × (GrowAnswers direct_coding one_bytes (9 ∷ []) 4 36 (9 ∷ []) 4 → ⊥)
unfolding opened growth_refusal grown_len
grow_short_written_refused = (
  λ h. unequal_lists (79 ∷ []) (9 ∷ []) refl (h.short 336 refl refl (lit< tt)).1,
  λ h. unequal 4 336 refl (h.short 336 refl refl (lit< tt)).2,
)

-- enough bytes are not answered with ODHT_TOO_SMALL
pub grow_done_status_refused : GrowAnswers direct_coding one_bytes nines 4 36 nines 336 → ⊥
unfolding opened growth_refusal grown_len
grow_done_status_refused h = unequal 36 0 refl (h.grown 336 refl refl (lit≤ tt)).0

-- and are not left unchanged
pub grow_done_bytes_refused : GrowAnswers direct_coding one_bytes nines 4 0 nines 336 → ⊥
unfolding opened growth_refusal grown_len
grow_done_bytes_refused h = unwritten_refused (h.grown 336 refl refl (lit≤ tt)).1

-- and their length is written
pub grow_done_length_refused : GrowAnswers direct_coding one_bytes nines 4 0 inserted 337 → ⊥
unfolding opened growth_refusal grown_len
grow_done_length_refused h = unequal 337 336 refl (h.grown 336 refl refl (lit≤ tt)).2
