-- Worked examples: what a `put` is answered with and leaves.
use Rattle.std.proofs.Common.{refl, false, arith, inl, inr, Option}
use Rattle.std.specs.Prelude.{codes}
use Rattle.std.specs.Fmt.{digits}
use Rattle.std.specs.Option.{option_map_or}
use Rattle.odht_base.specs.Table.{Table}
use Rattle.odht_base.proofs.examples.Opened.{opened}
use Rattle.odht_table.specs.Answers.{IsPutAnswered}
use Rattle.odht_table.proofs.Puts.{my_coding}
use Rattle.odht_header.proofs.examples.Apart.{are_distinct, unequal_lists}
use Rattle.odht.proofs.examples.SmallTables.{no_pairs, one_pair, full_of_none, one_of_32}
use Rattle.odht_table.proofs.examples.Tests.{has_pairs, has_value}

-- a new key
pub new_key : IsPutAnswered my_coding no_pairs 1 2 (codes "none\n") (one_pair 2)
unfolding opened digits
new_key = inl (refl, refl)

-- a present key
pub old_key : IsPutAnswered my_coding (one_pair 2) 1 3 (codes "was 2\n") (one_pair 3)
unfolding opened digits
old_key = inl (refl, refl)

-- a full table grows
pub grown : IsPutAnswered my_coding full_of_none 1 2 (codes "none\n") (one_of_32 6 2)
unfolding opened digits
grown = inl (refl, refl)

-- or memory for that is exhausted
pub not_grown : IsPutAnswered my_coding full_of_none 1 2 (codes "memory\n") full_of_none
unfolding opened digits
not_grown = inr (refl, refl, (refl, refl))

-- the right table and another text
pub other_text : IsPutAnswered my_coding (one_pair 2) 1 3 (codes "was 3\n") (one_pair 3) → ⊥
unfolding opened digits
other_text (inl h) = unequal_lists _ _ refl h.0
other_text (inr h) = unequal_lists _ _ refl h.0

-- the right text and the table of before
pub nothing_put : IsPutAnswered my_coding no_pairs 1 2 (codes "none\n") no_pairs → ⊥
unfolding opened digits
nothing_put (inl h) = are_distinct (λ (o : Option Table). option_map_or (has_pairs 1) o false) _ _ refl refl h.1
nothing_put (inr h) = unequal_lists _ _ refl h.0

-- the table of another value
pub other_value : IsPutAnswered my_coding (one_pair 2) 1 3 (codes "was 2\n") (one_pair 2) → ⊥
unfolding opened digits
other_value (inl h) = are_distinct (λ (o : Option Table). option_map_or (has_value 1 3) o false) _ _ refl refl h.1
other_value (inr h) = unequal_lists _ _ refl h.0

-- memory is exhausted, and the text is another
pub other_refusal : IsPutAnswered my_coding full_of_none 1 2 (codes "capacity\n") full_of_none → ⊥
unfolding opened digits
other_refusal (inl h) = unequal_lists _ _ refl h.0
other_refusal (inr h) = unequal_lists _ _ refl h.0

-- memory is exhausted, and the table is another
pub changed_by_refusal : IsPutAnswered my_coding full_of_none 1 2 (codes "memory\n") (one_of_32 6 2) → ⊥
unfolding opened digits
changed_by_refusal (inl h) = unequal_lists _ _ refl h.0
changed_by_refusal (inr h) = are_distinct (has_pairs 1) _ _ refl refl h.1

-- `memory` is no answer where there is room
pub refused_with_room : IsPutAnswered my_coding no_pairs 1 2 (codes "memory\n") no_pairs → ⊥
unfolding opened digits
refused_with_room (inl h) = unequal_lists _ _ refl h.0
refused_with_room (inr h) = omega (arith, h.2.0)

-- nor where the key is present
pub refused_old_key : IsPutAnswered my_coding (one_of_32 6 2) 1 3 (codes "memory\n") (one_of_32 6 2) → ⊥
unfolding opened digits
refused_old_key (inl h) = unequal_lists _ _ refl h.0
refused_old_key (inr h) = cc
