-- Worked examples: what walks over the table of 1 to 2 give, in slot 5 of sixteen, and bounds of the searches in it.
use Rattle.std.proofs.Common.{◌≡◌, refl, ap, arith, true, false, [], ◌∷◌, length}
use Rattle.std.proofs.lemmas.Bool.{false≢true}
use Rattle.odht_raw.specs.Words.{count, first_longer, slots_from, walk}
use Rattle.odht_base.specs.Hashes.{fx}
use Rattle.odht_base.proofs.examples.Configs.{my_config, pair64}
use Rattle.odht_header.proofs.examples.Opened.{opened}
use Rattle.odht_raw.specs.Walks.{decoded_all, decoded_slots}
use Rattle.odht_raw.proofs.lemmas.BoundedSearches.{image_bounded}
use Rattle.odht.specs.Dynamic.{dyn_store, dyn_parts}
use Rattle.odht.specs.SearchBounds.{IsValidWithin, IsBound}
use Rattle.odht.specs.Tables.{HasParts}
use Rattle.odht.specs.Walks.{ArePairs, AreSlots, IsWalk, IsWalkFrom, IsItemCount}
use Rattle.odht.proofs.lemmas.ViewInserts.{parts_here}
use Rattle.odht.proofs.examples.SmallTables.{number_coding, no_pairs, one_pair, bytes_of, one_pair_image, only_one_pair, my_format}

-- ---- walks
-- the pair, as bytes and as numbers
pub pairs : ArePairs my_config (bytes_of (one_pair 2)) (pair64 1 2 ∷ [])
unfolding opened
pairs = record { on_valid = λ P is. ap walk (only_one_pair P is); on_any = refl }

pub walked : IsWalk number_coding (bytes_of (one_pair 2)) ((1, 2) ∷ [])
unfolding opened
walked = record { on_valid = λ P is. ap (λ T. decoded_all number_coding (walk T)) (only_one_pair P is); on_any = refl }

-- with its slot, and no slot behind it
pub slots : AreSlots my_config (bytes_of (one_pair 2)) 5 ((5, pair64 1 2) ∷ [])
unfolding opened
slots = record { on_valid = λ P is. ap (λ T. slots_from T 5) (only_one_pair P is); on_any = refl }

pub walked_from : IsWalkFrom number_coding (bytes_of (one_pair 2)) 5 ((5, (1, 2)) ∷ []) × IsWalkFrom number_coding (bytes_of (one_pair 2)) 6 []
unfolding opened
walked_from = (
  record { on_valid = λ P is. ap (λ T. decoded_slots number_coding (slots_from T 5)) (only_one_pair P is); on_any = refl },
  record { on_valid = λ P is. ap (λ T. decoded_slots number_coding (slots_from T 6)) (only_one_pair P is); on_any = refl },
)

-- a walk that loses the pair
pub lost : IsWalk number_coding (bytes_of (one_pair 2)) [] → ⊥
unfolding opened
lost h = let none : 0 ≡ 1 = ap length h.on_any in omega (arith, none)

-- one item, and not two
pub counted : IsItemCount my_config (bytes_of (one_pair 2)) 1
unfolding opened
counted = record { by_header = refl; on_valid = λ P is. ap count (only_one_pair P is) }

pub miscounted : IsItemCount my_config (bytes_of (one_pair 2)) 2 → ⊥
unfolding opened
miscounted h = let two : 2 ≡ 1 = h.by_header in omega (arith, two)

-- ---- parts
pub parts : HasParts my_config (bytes_of (one_pair 2))
parts P is = parts_here my_config P _ is

-- of a table of the lengths 8 and 4
pub sized : ((dyn_parts (dyn_store 8 4 (tt {0})) fx (bytes_of no_pairs)).parts.entries.slots ≡ 16) × ((dyn_store 8 4 (tt {0})).key_len ≡ 8)
unfolding opened
sized = (refl, refl)

-- ---- bounds of searches
-- a search reads one group, and not none
pub bound : IsBound number_coding (bytes_of (one_pair 2)) 1 true × IsBound number_coding (bytes_of (one_pair 2)) 0 false
unfolding opened first_longer
bound = (
  record { bytes = (λ t. refl, λ e. refl); bound = λ t P is k. image_bounded my_config P _ k 1 my_format is refl },
  record { bytes = (λ t. absurd (false≢true t), λ e. absurd cc); bound = λ t. absurd (false≢true t) },
)

pub within : IsValidWithin number_coding (bytes_of (one_pair 2)) 1
unfolding opened first_longer
within = ((one_pair 2, one_pair_image.0), refl)

pub not_within : IsValidWithin number_coding (bytes_of (one_pair 2)) 0 → ⊥
unfolding opened first_longer
not_within h = let some = h.1 in cc
