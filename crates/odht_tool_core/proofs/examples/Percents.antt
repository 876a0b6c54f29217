-- Worked examples: the load factor of a table that is made of another, and what is written of a word that is no key.
--     of_factor low high   bytes whose header states the load factor of these two bytes
use Rattle.std.proofs.Common.{◌≡◌, ℕ, refl, false, List, [], ◌∷◌, Some, None, map}
use Rattle.std.specs.Prelude.{codes}
use Rattle.odht_base.proofs.examples.Configs.{direct_config}
use Rattle.odht_base.specs.Bytes.{overwritten_at}
use Rattle.odht_base.specs.Image.{image}
use Rattle.odht_base.specs.Load.{factor_of}
use Rattle.odht_base.specs.Table.{empty}
use Rattle.odht_header.proofs.examples.Opened.{opened}
use Rattle.odht_tool_core.specs.JsonAnswers.{word_in}
use Rattle.odht_tool_core.specs.Percents.{kept_percent, new_percent}
use Rattle.odht_tool_core.specs.Statuses.{failure_status}
use Rattle.odht_tool_core.specs.declared.generated.topics.Topic.TheVariants.{Info, Get, Delete, Diff, Build}
use Rattle.odht_tool_core.specs.declared.status.Status.TheVariants.{NotDone, Trouble}
use Rattle.odht_tool_core.proofs.examples.Shapes.{one_bytes}

abbrev of_factor : ℕ → ℕ → List ℕ
of_factor low high = overwritten_at one_bytes 28 (low ∷ high ∷ [])

-- the percentage with which a table was made is kept
pub kept : (kept_percent one_bytes ≡ 7)
    × (map (λ p. kept_percent (image direct_config (empty 16 (factor_of p)))) (1 ∷ 50 ∷ 87 ∷ 100 ∷ []) ≡ 1 ∷ 50 ∷ 87 ∷ 100 ∷ [])
unfolding opened
kept = (refl, refl)

-- of another load factor it is the nearest one, and 1 of the load factor 0
pub nearest : (kept_percent (of_factor 254 223) ≡ 87) × (kept_percent (of_factor 0 224) ≡ 88) × (kept_percent (of_factor 0 0) ≡ 1)
unfolding opened
nearest = (refl, refl, refl)

-- one that is named is taken instead
pub named : (new_percent one_bytes (Some 50) ≡ 50) × (new_percent one_bytes None ≡ 7)
unfolding opened
named = (refl, refl)

-- the commands whose status 1 is a result fail with another one
pub failures : (failure_status Get ≡ Trouble) × (failure_status Delete ≡ Trouble) × (failure_status Diff ≡ Trouble)
    × (failure_status Info ≡ NotDone) × (failure_status Build ≡ NotDone)
failures = (refl, refl, refl, refl, refl)

-- a word that is no key is written as it is, or with a tab or a line end as messages show it; as an object it has no value
pub words : (word_in false (codes "x") ≡ codes "x\n") × (word_in false [] ≡ codes "\n")
    × (word_in false (codes "x\ty") ≡ codes "\"x\\ty\"\n") × (word_in false (codes "x\ny") ≡ codes "\"x\\x0ay\"\n")
words = (refl, refl, refl, refl)
