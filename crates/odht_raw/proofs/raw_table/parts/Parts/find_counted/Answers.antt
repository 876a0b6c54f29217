use Rattle.std.proofs.Common.{◌∙◌, ℕ, List, length, sym, ap, arith, subst}
use Rattle.odht_raw.proofs.lemmas.Below.{take_all}
use Rattle.std.specs.Option.{option_copied}
use Rattle.odht_raw.specs.Finds.{IsCountedFind}
use Rattle.odht_raw.specs.DynParts.{parts_format}
use Rattle.odht_raw.proofs.raw_table.parts.Parts.find_counted.Goals as goal

pub slice_bounds-find_of-end-in-32 : goal.slice_bounds-find_of-end-in-32
slice_bounds-find_of-end-in-32 g c = sym (ap length (take_all 32 c.args.key.now (omega (arith, c.in-32.is))) ∙ c.in-32.is)

pub find_of-requires-in-32 : goal.find_of-requires-in-32
find_of-requires-in-32 g c = ap length (take_all 32 c.args.key.now (omega (arith, c.in-32.is))) ∙ c.requires

pub returns-in-32 : goal.returns-in-32
returns-in-32 g c =
    subst (λ (k : List ℕ). IsCountedFind (parts_format c.args.self.now g.H.HashFn.hash) (λ b. b) c.args.self.now.parts k (option_copied c.find_of-in-32.result.0, c.find_of-in-32.result.1))
    (take_all 32 c.args.key.now (omega (arith, c.in-32.is))) c.find_of-in-32.ensures.found
