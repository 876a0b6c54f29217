-- Worked examples: pairs that are inserted.
use Rattle.std.proofs.Common.{rules, ◌≡◌, ◌∙◌, ◌==◌, [], Some, None, true, false, refl, sym, subst}
use Rattle.std.specs.Prelude.{IsSome}
use Rattle.odht_base.specs.Map.{map_of}
use Rattle.odht_base.specs.Table.{Table, count, empty}
use Rattle.odht_base.proofs.examples.Configs.{direct_config}
use Rattle.odht_base.proofs.lemmas.Options.{some_same}
use Rattle.odht_header.proofs.examples.Apart.{are_distinct}
use Rattle.odht_header.proofs.examples.Opened.{opened}
use Rattle.odht_header.specs.declared.error.Error.TheVariants.{TooShort}
use Rattle.odht_tool_writes.specs.Inserted.{AreInserted, IsAfterRun, IsLineTaken, IsNewInsert, copy_failure}
use Rattle.odht_tool_tables.proofs.examples.OneTable.{C}
use Rattle.odht_tool_core.specs.declared.failure.Failure.TheVariants.{Memory, Refused}
use Rattle.odht_tool_core.proofs.examples.Shapes.{one_item, one_bytes}

-- it is this table
abbrev IsTable : Table → Table → Type 0
IsTable P Q = P ≡ Q

-- no pairs leave the table
pub none : AreInserted C (IsTable one_item) [] (IsTable one_item)
none P same = subst (λ Q. IsAfterRun C.format Q [] (IsTable one_item)) same
    (record { table = one_item; runs = refl; holds = refl; maps = λ k. refl; stays = λ room. ((refl, refl), search rules) })

-- and no other
pub no_table : AreInserted C (IsTable one_item) [] (IsTable (empty 16 57015)) → ⊥
unfolding opened
no_table h =
    let after = h one_item refl in
    are_distinct (λ (P : Table). count P == 0) _ _ refl refl (after.holds ∙ sym (some_same one_item after.table after.runs))

-- a key that has a value is not new, and leaves the table
pub known : IsNewInsert C (IsTable one_item) 5 9 false (IsTable one_item)
known P same = subst (λ Q. IsSome (map_of Q (C.key_bytes 5)) × IsTable one_item Q) same (refl, refl)

-- it is not taken for a new one
pub known_is_not_new : (S : Table → Type 0) → IsNewInsert C (IsTable one_item) 5 9 true S → ⊥
known_is_not_new S h = let no : Some (C.value_bytes 7) ≡ None = (h one_item refl).0 in cc

-- nor is the table another
pub known_changes_nothing : IsNewInsert C (IsTable one_item) 5 9 false (IsTable (empty 16 57015)) → ⊥
unfolding opened
known_changes_nothing h = are_distinct (λ (P : Table). count P == 0) _ _ refl refl (h one_item refl).1

-- and where a key may be there once, a line of it is not taken
pub known_is_refused : (S : Table → Type 0) → IsLineTaken C (IsTable one_item) 5 9 true S → ⊥
known_is_refused S (true, h, once) = known_is_not_new S h
known_is_refused S (false, h, once) = let no : false ≡ true = once refl in cc

-- a copy of bytes that break a rule fails by the first one, and of others for want of memory alone
pub copies_fail : (copy_failure direct_config None [] ≡ Refused (TooShort 0)) × (copy_failure direct_config None one_bytes ≡ Memory)
unfolding opened
copies_fail = (refl, refl)
