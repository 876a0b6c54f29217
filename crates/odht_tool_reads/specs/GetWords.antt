-- The parts of `get` of words.
--     IsWordsFailure n f   the writer failed, when the lines of n words were to be written, which are some
use Rattle.std.specs.Prelude.{ℕ, ◌<◌}
use Rattle.odht_tool_core.specs.declared.failure.Failure.{Failure}
use Rattle.odht_tool_core.specs.declared.failure.Failure.TheVariants.{Output}

abbrev pub IsWordsFailure : ℕ → Failure → Type 0
IsWordsFailure n (Output error) = 0 < n
IsWordsFailure n _ = ⊥
