-- Worked examples: lines of a key and a value, and the words that say how they are read.
use Rattle.std.proofs.Common.{◌≡◌, ℕ, zero, suc, refl, ◌<◌, get_or, [], Some, None, inl, inr, arith}
use Rattle.std.specs.Prelude.{codes}
use Rattle.std.specs.Fmt.{digits}
use Rattle.odht_header.proofs.examples.Apart.{unequal_lists}
use Rattle.odht_tool_core.specs.DuplicateWords.{duplicates_named}
use Rattle.odht_tool_core.specs.PairLines.{AreParts, delimiter_named, line_text, repeated_text}
use Rattle.odht_tool_core.specs.declared.arguments.duplicates.Duplicates.TheVariants.{Last, First, Error}
use Rattle.odht_tool_core.specs.declared.failure.LineFault.TheVariants.{NoTab, Key, Value}
use Rattle.odht_tool_core.specs.declared.misread.Wanted.TheVariants.{Nothing, U32}

-- which line of a key counts
pub policies : (duplicates_named (codes "last") ≡ Some Last) × (duplicates_named (codes "first") ≡ Some First)
    × (duplicates_named (codes "error") ≡ Some Error) × (duplicates_named (codes "lasts") ≡ None) × (duplicates_named [] ≡ None)
policies = (refl, refl, refl, refl, refl)

-- a character, and a backslash with a t; no quote, no line end, and not two characters
pub delimiters : (delimiter_named (codes ",") ≡ Some 44) × (delimiter_named (codes "\\") ≡ Some 92) × (delimiter_named (codes "\\t") ≡ Some 9)
    × (delimiter_named (codes "\"") ≡ None) × (delimiter_named (codes "\n") ≡ None) × (delimiter_named (codes ",,") ≡ None) × (delimiter_named [] ≡ None)
delimiters = (refl, refl, refl, refl, refl, refl, refl)

-- the first comma ends the key
pub cut : AreParts 44 U32 (codes "1,2,3") (codes "1") (codes "2,3")
cut = inl (refl, one)
  where
    one : (k d : ℕ) → k < 1 → get_or (codes "1") k d ≡ 44 → ⊥
    one zero d l e = absurd (omega (arith, e))
    one (suc k) d l e = absurd (omega (arith, l))

-- and not the last
pub cut_later : AreParts 44 U32 (codes "1,2,3") (codes "1,2") (codes "3") → ⊥
cut_later (inl h) = h.1 1 0 (omega arith) refl
cut_later (inr h) = unequal_lists (codes "1,2") (codes "1,2,3") refl h.2

-- without a comma a line is a key where values are nothing
pub key_alone : AreParts 44 Nothing (codes "1") (codes "1") []
key_alone = inr (one, refl, refl, refl)
  where
    one : (k d : ℕ) → k < 1 → get_or (codes "1") k d ≡ 44 → ⊥
    one zero d l e = absurd (omega (arith, e))
    one (suc k) d l e = absurd (omega (arith, l))

-- what is said of lines
pub told : (line_text 44 2 NoTab U32 U32 (codes "1") ≡ codes "standard input, line 2: \"1\" has no \",\" between key and value")
    × (line_text 9 2 NoTab U32 U32 (codes "1") ≡ codes "standard input, line 2: \"1\" has no tab between key and value")
    × (line_text 44 2 Key U32 U32 (codes "x,1,2") ≡ codes "standard input, line 2: the key \"x\" is not a number below 2^32")
    × (line_text 44 2 Value U32 U32 (codes "1,1,2") ≡ codes "standard input, line 2: the value \"1,2\" is not a number below 2^32")
    × (repeated_text 44 5 (codes "7,1") ≡ codes "standard input, line 5: the key \"7\" is in the table already")
unfolding digits
told = (refl, refl, refl, refl, refl)
