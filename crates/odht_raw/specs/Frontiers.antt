-- How far the slots in the probe orders of some homes are placed, as it is kept.
--     AreFrontiers ns s fs   each of fs is the frontier of its home among s slots, of which those that wait are in ns
use Rattle.std.specs.Prelude.{ℕ, List, All}
use Rattle.odht_raw.specs.Waiting.{IsFrontier}
use Rattle.odht_raw.specs.declared.raw_table.insert_order.Frontier.{Frontier}

abbrev pub AreFrontiers : List ℕ → ℕ → List Frontier → Type 0
AreFrontiers ns s fs = All (λ (f : Frontier). IsFrontier ns s f.home f.base f.position) fs
