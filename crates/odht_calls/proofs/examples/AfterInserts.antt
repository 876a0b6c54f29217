-- Worked examples: tables that are built of one pair.
use Rattle.std.proofs.Common.{◌≡◌, ◌∙◌, ℕ, refl, sym, ap, List, [], ◌∷◌, Some, None, replicate, set}
use Rattle.odht_base.specs.Image.{image}
use Rattle.odht_base.specs.Insert.{run, insert_owned}
use Rattle.odht_base.specs.Load.{factor_of}
use Rattle.odht_base.specs.Table.{Table, empty}
use Rattle.odht_base.proofs.examples.Configs.{direct_config, pair32}
use Rattle.odht_base.proofs.lemmas.Options.{some_same}
use Rattle.odht_header.proofs.examples.Opened.{opened}
use Rattle.odht.specs.Lists.{IsFreshAfterInserts}
use Rattle.odht_calls.specs.Builds.{IsGrownAfterInserts}
use Rattle.odht_header.proofs.examples.Apart.{unequal_lists}
use Rattle.odht_calls.proofs.examples.Tables.{direct_coding, no_items, one_item, one_bytes}

-- no other bytes are those of that table
pub only_built : (B : List ℕ) → IsFreshAfterInserts direct_coding 7 ((5, 7) ∷ []) B → B ≡ one_bytes
unfolding opened
only_built B h =
    let runs : Some one_item ≡ Some h.inserted.table = (
    ap (λ T. run (insert_owned direct_config) T (pair32 5 7 ∷ [])) (some_same no_items h.start h.new) ∙ h.inserted.runs) in
    h.inserted.image.bytes ∙ ap (image direct_config) (sym (some_same one_item h.inserted.table runs))

-- ---- IsGrownAfterInserts
-- sixteen slots at 87 percent, and these with 7 for 5
abbrev start : Table
start = empty 16 (factor_of 87)

abbrev roomy_item : Table
roomy_item = record { factor = factor_of 87; cells = set (replicate 16 None) 5 (Some (pair32 5 7)) }

abbrev pub roomy_bytes : List ℕ
roomy_bytes = image direct_config roomy_item

-- no other bytes are those of that table
pub only_grown : (B : List ℕ) → IsGrownAfterInserts direct_coding ((5, 7) ∷ []) B → B ≡ roomy_bytes
unfolding opened
only_grown B h =
    let inserted = h start refl in
    inserted.image.bytes ∙ ap (image direct_config) (sym (some_same roomy_item inserted.table inserted.runs))

-- so the table is not one at 7 percent
pub other_percent_refused : IsGrownAfterInserts direct_coding ((5, 7) ∷ []) one_bytes → ⊥
unfolding opened
other_percent_refused h = unequal_lists one_bytes roomy_bytes refl (only_grown one_bytes h)
