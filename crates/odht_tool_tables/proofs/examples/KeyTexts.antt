-- Worked examples: which words are texts of keys.
--     R                    which word is a text of which 32-bit number
use Rattle.std.proofs.Common.{inl, inr, ℕ, arith, refl, lit<, [], ◌∷◌, List}
use Rattle.std.specs.Prelude.{codes}
use Rattle.odht_tool_core.specs.declared.forms.Form.TheVariants.{Own}
use Rattle.odht_tool_core.specs.declared.shapes.Part.TheVariants.{U32}
use Rattle.odht_tool_tables.specs.KeyTexts.{AreLinesOf, IsTextOf}

abbrev pub R : List ℕ → ℕ → Type 0
R = IsTextOf Own U32

-- digits are a text of their number, and other words are no key
pub five : R (codes "5") 5
five = (((lit< tt, (lit< tt, tt)), lit< tt), refl)

pub six : R (codes "6") 6
six = (((lit< tt, (lit< tt, tt)), lit< tt), refl)

pub no_key : (k : ℕ) → R (codes "x") k → ⊥
no_key k r = omega (arith, r.0.0.1.0)

pub no_empty_key : (k : ℕ) → R [] k → ⊥
no_empty_key k r = omega (arith, r.0.0.0)

-- an empty line that is not the last one is not left out
pub empty_first : AreLinesOf R (codes "\n5\n") (codes "5" ∷ []) → ⊥
empty_first (inl e) = cc
empty_first (inr e) = cc

-- what is told of the second line of an input, which is no key
abbrev pub second_text : List ℕ
second_text = codes "standard input, line 2: the key \"x\" is not a number below 2^32"
