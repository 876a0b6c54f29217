-- Worked examples: what the other requests are answered with, and that they leave the table as it was.
use Rattle.std.proofs.Common.{◌≡◌, ◌++◌, ℕ, refl, List}
use Rattle.std.specs.Prelude.{codes}
use Rattle.std.specs.Fmt.{decimal, digits}
use Rattle.std.specs.List.{flat_map, range_with_len}
use Rattle.odht_header.proofs.examples.Opened.{opened}
use Rattle.odht_base.specs.Table.{Table}
use Rattle.odht_table.specs.Answers.{IsAnswered, MayChange}
use Rattle.odht_table.specs.declared.script.command.Request.{Request}
use Rattle.odht_table.specs.declared.script.command.Request.TheVariants.{Put, Get, Len, Walk, Hex, Dump}
use Rattle.odht_table.proofs.Puts.{my_coding}
use Rattle.odht_header.proofs.examples.Apart.{are_distinct, unequal_lists, some_unequal_lists}
use Rattle.odht_table.proofs.examples.PutAnswers.{old_key, other_text}
use Rattle.odht.proofs.examples.SmallTables.{no_pairs, one_pair}
use Rattle.odht_table.proofs.examples.Tests.{has_pairs}

-- the answer t to a request of the table of 1 and 2, after which the table is Q
abbrev Answers : Request → List ℕ → Table → Type 0
Answers r t Q = IsAnswered my_coding (one_pair 2) r t Q

-- that table and the empty one are not the same
changed : no_pairs ≡ one_pair 2 → ⊥
changed = are_distinct (has_pairs 0) no_pairs (one_pair 2) refl refl

-- ---- put
-- a present key with a new value
pub a_put : Answers (Put 1 3) (codes "was 2\n") (one_pair 3)
a_put = old_key

-- the same with another text
pub no_put : Answers (Put 1 3) (codes "was 3\n") (one_pair 3) → ⊥
no_put = other_text

-- ---- get
-- a present key
pub a_get : Answers (Get 1) (codes "2\n") (one_pair 2)
unfolding opened digits
a_get = (refl, refl)

-- an absent key
pub a_missing_get : Answers (Get 2) (codes "none\n") (one_pair 2)
unfolding opened digits
a_missing_get = (refl, refl)

-- another text
pub other_get : Answers (Get 1) (codes "none\n") (one_pair 2) → ⊥
unfolding opened digits
other_get h = unequal_lists _ _ refl h.0

-- another table
pub changed_by_get : Answers (Get 1) (codes "2\n") no_pairs → ⊥
changed_by_get h = changed h.1

-- ---- len
-- one item
pub a_len : Answers Len (codes "1\n") (one_pair 2)
unfolding opened digits
a_len = (refl, refl)

-- another text
pub other_len : Answers Len (codes "0\n") (one_pair 2) → ⊥
unfolding opened digits
other_len h = unequal_lists _ _ refl h.0

-- another table
pub changed_by_len : Answers Len (codes "1\n") no_pairs → ⊥
changed_by_len h = changed h.1

-- ---- walk
-- one line for the pair, and the end
pub a_walk : Answers Walk (codes "1 2\nend\n") (one_pair 2)
unfolding opened digits
a_walk = (refl, refl)

-- a walk that misses the pair
pub other_walk : Answers Walk (codes "end\n") (one_pair 2) → ⊥
unfolding opened digits
other_walk h = unequal_lists _ _ refl h.0

-- another table
pub changed_by_walk : Answers Walk (codes "1 2\nend\n") no_pairs → ⊥
changed_by_walk h = changed h.1

-- ---- hex
-- a text n times
abbrev times : ℕ → List ℕ → List ℕ
times n text = flat_map (λ i. text) (range_with_len 0 n)

-- header, 5 free entries, the pair, 10 free entries, the control bytes and their mirror
abbrev all_bytes : List ℕ
all_bytes =
    codes "4f444854010804200100000000000000100000000000000000000002b7de0000"
    ++ times 60 (codes "00") ++ codes "010000000000000002000000" ++ times 120 (codes "00")
    ++ times 2 (times 5 (codes "ff") ++ codes "13" ++ times 10 (codes "ff"))

-- all bytes and the end of the line
pub a_hex : Answers Hex (all_bytes ++ codes "\n") (one_pair 2)
unfolding opened digits
a_hex = (refl, refl)

-- the first two bytes alone
pub other_hex : Answers Hex (codes "4f44\n") (one_pair 2) → ⊥
unfolding opened digits
other_hex h = unequal_lists _ _ refl h.0

-- another table
pub changed_by_hex : Answers Hex (all_bytes ++ codes "\n") no_pairs → ⊥
changed_by_hex h = changed h.1

-- ---- dump
-- the lines of n free slots, from slot a on
abbrev free_lines : ℕ → ℕ → List ℕ
free_lines a n = flat_map (λ i. codes "slot " ++ decimal i ++ codes ": empty\n") (range_with_len a n)

abbrev all_slots : List ℕ
all_slots =
    codes "(item_count=1, max_item_count=13, max_load_factor=86%)\nRawTable (slot_count=16, hash_fn=FxHashFn) {\n"
    ++ free_lines 0 5 ++ codes "slot 5: key=[1, 0, 0, 0, 0, 0, 0, 0], value=[2, 0, 0, 0], control_byte=19\n"
    ++ free_lines 6 10 ++ codes "}\n\n"

-- the numbers, and a line for each slot
pub a_dump : Answers Dump all_slots (one_pair 2)
unfolding opened digits
a_dump = (refl, refl)

-- a part of the first line
pub other_dump : Answers Dump (codes "(item_count=1)\n") (one_pair 2) → ⊥
unfolding opened digits
other_dump h = some_unequal_lists _ all_slots refl h.0

-- another table
pub changed_by_dump : Answers Dump all_slots no_pairs → ⊥
changed_by_dump h = changed h.1

-- ---- what may change the table
-- a `put`
pub may_change : MayChange (Put 1 2)
may_change = tt

-- the other requests do not
pub may_not_change : (MayChange (Get 1) → ⊥)
    × (MayChange Len → ⊥)
    × (MayChange Walk → ⊥)
    × (MayChange Hex → ⊥)
    × (MayChange Dump → ⊥)
may_not_change = (λ h. h, λ h. h, λ h. h, λ h. h, λ h. h)
