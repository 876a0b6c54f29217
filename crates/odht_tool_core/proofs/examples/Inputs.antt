-- Worked examples: lines of an input.
use Rattle.std.proofs.Common.{◌≡◌, ℕ, zero, suc, refl, ◌<◌, get_or, List, [], ◌∷◌, Some, None, arith, lit<}
use Rattle.std.specs.Prelude.{codes, Ok, Err}
use Rattle.std.specs.Str.Lines.{lines}
use Rattle.odht_header.proofs.examples.Apart.{unequal_lists, some_unequal_lists}
use Rattle.odht_tool_core.specs.Cuts.{IsCutAt}
use Rattle.odht_tool_core.specs.InputLines.{without_end, IsBehind, IsEnding, IsNextLine, IsTakenThrough}
use Rattle.odht_tool_core.specs.declared.failure.Failure.TheVariants.{Line}
use Rattle.odht_tool_core.specs.declared.failure.LineFault.TheVariants.{NoTab}

-- an end is a line feed, with a carriage return before it or without; a last line needs none
pub ends : (without_end (codes "a\r\n") ≡ codes "a") × (without_end (codes "a\n") ≡ codes "a") × (without_end (codes "a\r") ≡ codes "a\r")
ends = (refl, refl, refl)

pub of_text : lines (codes "a\r\n\nb") ≡ codes "a" ∷ [] ∷ codes "b" ∷ []
of_text = refl

-- the first line, and what is left
pub next : IsNextLine (Some (codes "a\nb")) (Some (codes "b")) (codes "a")
next = (codes "b", refl, refl)

-- nothing is said where the bytes are not known
pub unknown : IsNextLine None None (codes "a")
unknown = tt

-- a line with its end is none
pub with_end : IsNextLine (Some (codes "a\nb")) (Some (codes "b")) (codes "a\n") → ⊥
with_end h = unequal_lists (codes "a") (codes "a\n") refl (first h.2)
  where
    first : {l : List (List ℕ)} → lines (codes "a\nb") ≡ codes "a\n" ∷ l → codes "a" ≡ codes "a\n"
    first e = cc

-- a line is taken with its end, and a last one without
pub taken : IsTakenThrough (Some (codes "a\r\nb\n")) (Some (codes "b\n")) (codes "a\r\n")
    × IsTakenThrough (Some (codes "\n\n")) (Some (codes "\n")) (codes "\n")
    × IsTakenThrough (Some (codes "ab")) (Some []) (codes "ab")
taken = ((refl, refl, lit< tt), (refl, refl, lit< tt), (refl, refl, lit< tt))

-- of bytes that are not known it is not nothing
pub taken_unknown : IsTakenThrough None None (codes "a\n")
taken_unknown = (tt, tt, lit< tt)

-- its end is not left out
pub taken_without_end : IsTakenThrough (Some (codes "a\nb")) (Some (codes "b")) (codes "a") → ⊥
taken_without_end h = unequal_lists (codes "a") (codes "a\n") refl h.0

-- nor left to the reader
pub end_is_left : IsTakenThrough (Some (codes "a\nb")) (Some (codes "\nb")) (codes "a\n") → ⊥
end_is_left h = some_unequal_lists (codes "\nb") (codes "b") refl h.1

-- no further line is taken
pub two_are_taken : IsTakenThrough (Some (codes "a\nb\n")) (Some []) (codes "a\nb\n") → ⊥
two_are_taken h = unequal_lists (codes "a\nb\n") (codes "a\n") refl h.0

-- and at the end of the input there is nothing to take
pub nothing_taken : IsTakenThrough (Some []) (Some []) [] → ⊥
nothing_taken h = omega (arith, h.2)

-- a line is cut at its first tab
pub cut : IsCutAt 9 (codes "a\tb\tc") (codes "a") (codes "b\tc")
cut = (refl, one)
  where
    one : (k d : ℕ) → k < 1 → get_or (codes "a") k d ≡ 9 → ⊥
    one zero d l e = absurd (omega (arith, e))
    one (suc k) d l e = absurd (omega (arith, l))

-- and not at a later one
pub cut_later : IsCutAt 9 (codes "a\tb\tc") (codes "a\tb") (codes "c") → ⊥
cut_later h = h.1 1 0 (omega arith) refl

-- nor is a part left out
pub cut_short : IsCutAt 9 (codes "a\tb") (codes "a") [] → ⊥
cut_short h = unequal_lists (codes "a\tb") (codes "a\t") refl h.0

-- a line of which no pair is read ends the input where it is empty and the last one
pub ending : IsEnding {X = Unit {0}} (Some []) [] [] 2 NoTab (Ok tt)
ending = (refl, refl)

-- where it is not empty, or another one comes after it, it is an error
pub not_empty : IsEnding {X = Unit {0}} (Some []) (codes "a") [] 2 NoTab (Ok tt) → ⊥
not_empty h = let e = h.0 in cc

pub not_last : IsEnding {X = Unit {0}} (Some (codes "a")) [] [] 2 NoTab (Ok tt) → ⊥
not_last h = let e = h.1 in cc

pub told : IsEnding {X = Unit {0}} (Some (codes "a")) [] [] 2 NoTab (Err (Line 2 NoTab))
told = (refl, refl, λ e q. cc)

pub last_told : IsEnding {X = Unit {0}} (Some []) [] [] 2 NoTab (Err (Line 2 NoTab)) → ⊥
last_told h = h.2 refl refl

-- a line that is not empty leaves the bytes behind it
pub behind : IsBehind (Some (codes "b")) (Some (codes "b")) (codes "a")
behind = (λ e. cc, λ e. refl)

pub taken_behind : IsBehind (Some (codes "b")) (Some []) (codes "a") → ⊥
taken_behind h = some_unequal_lists [] (codes "b") refl (h.1 (λ e. cc))
