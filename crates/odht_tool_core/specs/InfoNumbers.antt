-- What `info` reports of the bytes B of a table, whose key and value sizes are those in its header.
--     DynParts           the parts of a table, and the sizes of its keys and values
--     format_by B h        the format of the sizes in the header of B, and of the hash function h
--     file_parts B        the parts of B
--     file_format T h     the format of the sizes of the parts T, and of the hash function h
--     info_refusal B       the error of opening by header and length for the header's sizes, if there is one
--     least_key_len h      how many bytes the hash function h needs at least
--     agrees T h           keys are long enough for h, and no control byte below 128 differs from the tag of its key
--     found_hash T         the first of fx, unhash and xxh64 that agrees
--     occupied_in T a n    those of the n slots from the slot a on that do not count as free, in slot order
--     occupied T n         those of the first n slots
--     group_numbers T h o n    of each of these, how many groups a search for its key reads, by the bound o
--     groups_by T h o      the same of all slots, by the hash function h; nothing where there is none, or keys are too short
--                          for it
--     longest_miss T o     how many groups the longest search for an absent key reads at most, by the bound o
--     has_long_search T    some search for an absent key reads more than 24 groups, which is long: those seen of random keys
--                          do not, in tables of up to 2 ^ 24 slots that are at most 87 percent full
--     stretch_len s        how many slots a stretch has: a 64th of s slots, but at least one
--     stretch_counts T     how many slots of each stretch are occupied; the stretches have all slots, in slot order
--     tallies xs           how often each of the numbers 1 to 63 is in xs, and how many of xs are 64 or more
--     largest xs           the largest of xs, or 0
--     nearest_percent f    the percentage that the load factor f is nearest to
--     IsHistogram xs h     h has the tallies of xs, and the largest
--     IsInfoFailure B f    f is the error of opening, or out of memory where there is none
use Rattle.std.specs.Prelude.{◌≡◌, ℕ, ◌+◌, ◌*◌, ◌/◌, min, max, Bool, not, ◌&&◌, nat_le, nat_lt, ◌==◌, List, [], length, map, filter, find, fold, count_by, slice_index, is_none, Option, Some, None, if◌then◌else◌}
use Rattle.std.specs.List.{range_with_len}
use Rattle.odht_base.specs.Decoded.{header_slots, entries_of, controls_of, slot_key, counts_as_free}
use Rattle.odht_base.specs.Format.{Format, format_of}
use Rattle.odht_header.specs.Refusals.{first_slot, control_mismatch, opening_refusal}
use Rattle.odht_header.specs.declared.error.Error.{Error}
use Rattle.odht_tool_core.specs.GroupNumbers.{groups_to, groups_to_free, capped}
use Rattle.odht_tool_core.specs.ReadyShapes.{hash_of, hashes}
use Rattle.odht_tool_core.specs.declared.failure.Failure.{Failure}
use Rattle.odht_tool_core.specs.declared.failure.Failure.TheVariants.{Refused, Memory}
use Rattle.odht_tool_core.specs.declared.histogram.Histogram.{Histogram}
use Rattle.odht_tool_core.specs.declared.shapes.Hash.{Hash}
use Rattle.odht_tool_core.specs.declared.shapes.Hash.TheVariants.{Fx, Unhash, Xxh64}

pub record DynParts : Type 0 where
  pub key_len : ℕ
  pub value_len : ℕ
  pub slots : ℕ
  pub entries : List ℕ
  pub control : List ℕ

abbrev pub format_by : List ℕ → Hash → Format
format_by B h = format_of (slice_index B 5) (slice_index B 6) (hash_of h)

abbrev pub file_parts : List ℕ → DynParts
file_parts B = record {
  key_len = slice_index B 5;
  value_len = slice_index B 6;
  slots = header_slots B;
  entries = entries_of (format_by B Fx) B;
  control = controls_of (format_by B Fx) B;
}

abbrev pub file_format : DynParts → Hash → Format
file_format T h = format_of T.key_len T.value_len (hash_of h)

-- ---- opening; the sizes of keys and values are as expected, whatever they are
abbrev pub info_refusal : List ℕ → Option Error
info_refusal B = opening_refusal (format_by B Fx) B

-- ---- the hash function
abbrev pub least_key_len : Hash → ℕ
least_key_len Fx = 0
least_key_len Unhash = 4
least_key_len Xxh64 = 0

abbrev pub agrees : DynParts → Hash → Bool
agrees T h =
    nat_le (least_key_len h) T.key_len && is_none (first_slot (control_mismatch (file_format T h) T.entries T.control) T.slots)

abbrev pub found_hash : DynParts → Option Hash
found_hash T = find (agrees T) hashes

-- ---- the histogram
abbrev pub occupied_in : DynParts → ℕ → ℕ → List ℕ
occupied_in T a n = filter (λ i. not (counts_as_free (slice_index T.control i))) (range_with_len a n)

abbrev pub occupied : DynParts → ℕ → List ℕ
occupied T n = occupied_in T 0 n

abbrev pub group_numbers : DynParts → Hash → Option ℕ → ℕ → List ℕ
group_numbers T h o n =
    map (λ i. capped o (groups_to (hash_of h (slot_key (file_format T h) T.entries i)) T.slots i)) (occupied T n)

abbrev pub groups_by : DynParts → Option Hash → Option ℕ → List ℕ
groups_by T None o = []
groups_by T (Some h) o = if nat_le (least_key_len h) T.key_len then group_numbers T h o T.slots else []

unfoldable pub tallies : List ℕ → List ℕ
tallies xs = map (λ g. count_by (λ x. min x 64 == g) xs) (range_with_len 1 64)

unfoldable pub largest : List ℕ → ℕ
largest xs = fold max 0 xs

abbrev pub miss_numbers : DynParts → Option ℕ → ℕ → List ℕ
miss_numbers T o n = map (λ b. capped o (groups_to_free T.control b)) (range_with_len 0 n)

abbrev pub longest_miss : DynParts → Option ℕ → ℕ
longest_miss T o = largest (miss_numbers T o T.slots)

abbrev pub has_long_search : DynParts → Bool
has_long_search T = nat_lt 24 (longest_miss T (Some 24))

pub record IsHistogram (xs : List ℕ) (h : Histogram) : Type 0 where
  pub counts : h.counts.items ≡ tallies xs
  pub longest : h.longest ≡ largest xs

-- ---- how full the table is along its slots
abbrev pub stretch_len : ℕ → ℕ
stretch_len s = max 1 (s / 64)

abbrev pub stretch_count : DynParts → ℕ → ℕ
stretch_count T p = length (occupied_in T (p * stretch_len T.slots) (stretch_len T.slots))

abbrev pub stretch_counts : DynParts → List ℕ
stretch_counts T = map (stretch_count T) (range_with_len 0 (min T.slots 64))

-- ---- the load factor
abbrev pub nearest_percent : ℕ → ℕ
nearest_percent f = (f * 100 + 32767) / 65535

abbrev pub IsInfoFailure : List ℕ → Failure → Type 0
IsInfoFailure B (Refused error) = info_refusal B ≡ Some error
IsInfoFailure B Memory = info_refusal B ≡ None
IsInfoFailure B _ = ⊥
