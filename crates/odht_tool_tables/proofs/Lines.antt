-- The lines of an input whose bytes are known, and words that are texts of keys.
use Rattle.std.proofs.Common.{◌≡◌, ◌∙◌, ℕ, suc, ◌+◌, List, [], ◌∷◌, ◌++◌, Option, Some, None, IfSome, length, take, ap, refl, subst}
use Rattle.std.specs.Io.KnownBytes.{IsAtEnd}
use Rattle.std.specs.List.{AllZip, slice_get}
use Rattle.std.proofs.lemmas.List.{take_more}
use Rattle.std.proofs.lemmas.Option.{get_or_from_slice_get, slice_get_within}
use Rattle.std.specs.Str.Lines.{lines}
use Rattle.odht_tool_core.specs.InputLines.{IsNextLine}
use Rattle.odht_tool_core.specs.Keys.{IsLeftOut}

-- as many words as keys
pub AllZip-length : {X Y : Type 0} (R : X → Y → Type 0) (xs : List X) (ys : List Y) → AllZip R xs ys → length xs ≡ length ys
AllZip-length R [] [] h = refl
AllZip-length R [] (y ∷ ys) h = absurd h
AllZip-length R (x ∷ xs) [] h = absurd h
AllZip-length R (x ∷ xs) (y ∷ ys) h = ap suc (AllZip-length R xs ys h.1)

-- the elements in front of the one behind an index
pub taken_more : {X : Type 0} (xs : List X) (i : ℕ) (x : X) → slice_get xs i ≡ Some x → take (i + 1) xs ≡ take i xs ++ (x ∷ [])
taken_more xs i x is =
    take_more xs i x (slice_get_within xs i x is) ∙ ap (λ y. take i xs ++ (y ∷ [])) (get_or_from_slice_get xs i x x is)

-- what follows of known bytes
pub if_some : {X : Type 0} (o : Option X) (P Q : X → Type 0) → ((x : X) → P x → Q x) → IfSome o P → IfSome o Q
if_some None P Q f h = tt
if_some (Some x) P Q f h = f x h

-- of known bytes that are left the next line is known
pub next_of : (old new : Option (List ℕ)) (rest line : List ℕ) → old ≡ Some rest → IsNextLine old new line → (more : List ℕ) × (new ≡ Some more) × (lines rest ≡ line ∷ lines more)
next_of old new rest line e h = subst (λ o. IsNextLine o new line) e h

-- of known bytes that are left as an empty line alone the lines are known
pub only_of : {K : Type 0} (R : List ℕ → K → Type 0) (old : Option (List ℕ)) (rest : List ℕ) → old ≡ Some rest → IsLeftOut R old → lines rest ≡ [] ∷ []
only_of R old rest e h = (subst (IsLeftOut R) e h).0

-- and at the end there is none
pub end_of : (old : Option (List ℕ)) (rest : List ℕ) → old ≡ Some rest → IsAtEnd old → rest ≡ []
end_of old rest e h = subst IsAtEnd e h
