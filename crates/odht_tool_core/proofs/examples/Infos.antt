-- Worked examples: what `info` reports.
use Rattle.std.proofs.Common.{◌≡◌, ℕ, refl, false, true, [], ◌∷◌, Some, None, map, set, replicate, arith, ap, subst}
use Rattle.std.specs.List.{range_with_len}
use Rattle.std.specs.Prelude.{slice_index}
use Rattle.odht_base.proofs.examples.Configs.{direct_config}
use Rattle.odht_base.specs.Bytes.{overwritten_at}
use Rattle.odht_base.specs.Image.{image}
use Rattle.odht_base.specs.Load.{factor_of}
use Rattle.odht_base.specs.Table.{empty}
use Rattle.odht_header.specs.declared.error.Error.TheVariants.{TooShort, WrongLength}
use Rattle.odht_header.proofs.examples.Opened.{opened}
use Rattle.odht_tool_core.specs.GroupNumbers.{groups_to, groups_to_free}
use Rattle.odht_tool_core.specs.InfoNumbers.{DynParts, file_parts, info_refusal, agrees, found_hash, occupied, occupied_in, group_numbers, groups_by, longest_miss, stretch_len, stretch_counts, tallies, largest, nearest_percent, IsHistogram, IsInfoFailure}
use Rattle.odht_tool_core.specs.AllNumbers.{AreNumbers}
use Rattle.odht_tool_core.specs.declared.advice.Advice.TheVariants.{Mixing}
use Rattle.odht_tool_core.specs.declared.failure.Failure.TheVariants.{Refused, Memory, NoHash}
use Rattle.odht_tool_core.specs.declared.histogram.Histogram.{Histogram}
use Rattle.odht_tool_core.specs.declared.numbers.Numbers.{Numbers}
use Rattle.odht_tool_core.specs.declared.shapes.Hash.TheVariants.{Fx, Unhash, Xxh64}
use Rattle.odht_tool_core.proofs.examples.Shapes.{one_bytes}

-- its parts
abbrev one_parts : DynParts
one_parts = file_parts one_bytes

-- ---- opening
-- any sizes of keys and values are as expected, but the length has to fit them
pub refusals : (info_refusal one_bytes ≡ None)
    × (info_refusal (79 ∷ 68 ∷ []) ≡ Some (TooShort 2))
    × (info_refusal (overwritten_at one_bytes 5 (9 ∷ [])) ≡ Some (WrongLength 16 192 272))
    × (info_refusal (overwritten_at one_bytes 5 (6 ∷ 2 ∷ [])) ≡ None)
unfolding opened
refusals = (refl, refl, refl, refl)

-- ---- the hash function
-- of a table whose hashes are the keys; with another control byte none agrees, and without items fx does
pub hashes : (agrees one_parts Fx ≡ false)
    × (agrees one_parts Unhash ≡ true)
    × (found_hash one_parts ≡ Some Unhash)
    × (found_hash (record one_parts { control = set one_parts.control 5 1 }) ≡ None)
    × (found_hash (file_parts (image direct_config (empty 16 0))) ≡ Some Fx)
unfolding opened
hashes = (refl, refl, refl, refl, refl)

-- an empty table fits all three
pub all_fit : (agrees (file_parts (image direct_config (empty 16 0))) Unhash ≡ true) × (agrees (file_parts (image direct_config (empty 16 0))) Xxh64 ≡ true) × (agrees one_parts Xxh64 ≡ false)
unfolding opened
all_fit = (refl, refl, refl)

-- keys of three bytes are too short for unhash, even where no slot is occupied
pub short_keys : (agrees (record one_parts { key_len = 3; slots = 0 }) Unhash ≡ false) × (agrees (record one_parts { key_len = 3; slots = 0 }) Fx ≡ true)
unfolding opened
short_keys = (refl, refl)

-- ---- the histogram
-- the one item is in slot 5, in the first group; a slot whose control byte is 128 or more counts as free
pub slots : (occupied one_parts 16 ≡ 5 ∷ []) × (occupied one_parts 5 ≡ []) × (occupied (record one_parts { control = set one_parts.control 5 128 }) 16 ≡ [])
unfolding opened
slots = (refl, refl, refl)

-- the three slots from the fourth on have it, and those behind it do not
pub some_slots : (occupied_in one_parts 4 3 ≡ 5 ∷ []) × (occupied_in one_parts 6 10 ≡ [])
unfolding opened
some_slots = (refl, refl)

pub groups : (group_numbers one_parts Unhash None 16 ≡ 1 ∷ [])
    × (groups_by one_parts (Some Unhash) (Some 128) ≡ 1 ∷ [])
    × (groups_by one_parts None None ≡ [])
    × (groups_by (record one_parts { key_len = 3 }) (Some Unhash) None ≡ [])
unfolding opened groups_to
groups = (refl, refl, refl, refl)

-- the one group has a free byte for each home; with no free byte a search reads all groups, of which there is one
pub misses : (longest_miss one_parts (Some 128) ≡ 1) × (longest_miss (record one_parts { control = replicate 32 0 }) None ≡ 1)
unfolding opened largest groups_to_free
misses = (refl, refl)

-- two keys by one group, none by two, one by three, and two by 64 or more
pub counts : (tallies (1 ∷ 3 ∷ 80 ∷ 1 ∷ 64 ∷ []) ≡ set (set (set (replicate 64 0) 0 2) 2 1) 63 2)
    × (largest (1 ∷ 3 ∷ 80 ∷ 1 ∷ 64 ∷ []) ≡ 80)
    × (tallies [] ≡ replicate 64 0)
    × (largest [] ≡ 0)
unfolding tallies largest
counts = (refl, refl, refl, refl)

-- ---- how full the table is along its slots
-- a stretch is a slot of a table of up to 64 slots, and a 64th of the slots of a larger one
pub stretch_lengths : (stretch_len 16 ≡ 1) × (stretch_len 64 ≡ 1) × (stretch_len 128 ≡ 2) × (stretch_len 4096 ≡ 64)
stretch_lengths = (refl, refl, refl, refl)

-- the one item is in the sixth of sixteen stretches; of 128 slots those from 2 on, of which 2, 3 and 5 are occupied, are in
-- the second stretch and in the third
pub stretches : (stretch_counts one_parts ≡ set (replicate 16 0) 5 1)
    × (stretch_counts (record one_parts { slots = 128; control = set (set (set (replicate 144 255) 2 7) 3 7) 5 7 }) ≡ set (set (replicate 64 0) 1 2) 2 1)
unfolding opened
stretches = (refl, refl)

-- ---- load factors
-- each percentage is the one that is nearest to the load factor made of it; half a percent above 87 is nearer to 88
pub percentages : (map (λ p. nearest_percent (factor_of p)) (range_with_len 0 101) ≡ range_with_len 0 101) × (nearest_percent 57342 ≡ 87) × (nearest_percent 57344 ≡ 88)
percentages = (refl, refl, refl)

-- ---- all numbers
-- those of the table: 192 bytes, one item in sixteen slots, at most one of them occupied
pub of_table : (n : Numbers) → IsHistogram (1 ∷ []) n.histogram → n.stretches.items ≡ set (replicate 16 0) 5 1 → AreNumbers one_bytes (Some 128) (Some Mixing) (record n {
  key_size = 4;
  value_size = 4;
  len = 192;
  item_count = 1;
  slot_count = 16;
  max_item_count = 1;
  load = 6;
  max_load = 7;
  hash = Some Unhash;
  bound = Some 128;
  longest_miss = 1;
  advice = Some Mixing;
})
unfolding opened largest groups_to groups_to_free
of_table n is along = record {
  opens = refl;
  key_size = refl;
  value_size = refl;
  len = refl;
  items = refl;
  slots = refl;
  maximum = refl;
  load = refl;
  max_load = refl;
  stretches = along;
  hash = refl;
  bound = refl;
  histogram = is;
  miss = refl;
  advice = refl;
}

-- and no others
pub of_table_alone : (n : Numbers) → AreNumbers one_bytes (Some 128) None n → (n.key_size ≡ 4) × (n.value_size ≡ 4) × (n.len ≡ 192) × (n.item_count ≡ 1) × (n.slot_count ≡ 16)
    × (n.max_item_count ≡ 1) × (n.load ≡ 6) × (n.max_load ≡ 7) × (n.stretches.items ≡ set (replicate 16 0) 5 1) × (n.hash ≡ Some Unhash) × IsHistogram (1 ∷ []) n.histogram × (n.longest_miss ≡ 1) × (n.advice ≡ None)
unfolding opened largest groups_to groups_to_free
of_table_alone n is = (is.key_size, is.value_size, is.len, is.items, is.slots, is.maximum, is.load, is.max_load, is.stretches, is.hash, subst (λ h. IsHistogram (groups_by one_parts h (Some 128)) n.histogram) is.hash is.histogram, is.miss, is.advice)

-- bytes that do not open have none
pub of_two_bytes : (n : Numbers) → AreNumbers (79 ∷ 68 ∷ []) None None n → ⊥
unfolding opened
of_two_bytes n is = cc (is.opens)

-- another count, or another largest number, is no histogram of one item that is found in the first group
pub other_count : (h : Histogram) → IsHistogram (1 ∷ []) h → slice_index h.counts.items 0 ≡ 2 → ⊥
unfolding tallies
other_count h is e = let one : slice_index h.counts.items 0 ≡ 1 = ap (λ xs. slice_index xs 0) is.counts in omega (arith, one, e)

pub other_longest : (h : Histogram) → IsHistogram (1 ∷ []) h → h.longest ≡ 2 → ⊥
unfolding largest
other_longest h is e = let one : h.longest ≡ 1 = is.longest in omega (arith, one, e)

-- ---- failures
-- the error of opening, or out of memory where there is none
pub failures : IsInfoFailure (79 ∷ 68 ∷ []) (Refused (TooShort 2)) × IsInfoFailure one_bytes Memory
unfolding opened
failures = (refl, refl)

pub other_error : IsInfoFailure (79 ∷ 68 ∷ []) (Refused (TooShort 3)) → ⊥
unfolding opened
other_error e = let same : ◌≡◌ {A = ℕ} 2 3 = cc (e) in omega (arith, same)

pub refused_as_memory : IsInfoFailure (79 ∷ 68 ∷ []) Memory → ⊥
unfolding opened
refused_as_memory e = cc (e)

pub refused_without_error : IsInfoFailure one_bytes (Refused (TooShort 2)) → ⊥
unfolding opened
refused_without_error e = cc (e)

pub no_hash : IsInfoFailure one_bytes (NoHash 4 4) → ⊥
no_hash e = e
