-- The pairs of lines, which are added one after the other.
--     pairs_in k v n b     the first n pairs of the bytes b, in which each key of k bytes is before its value of v bytes
--     keys_in k n b        the first n keys of the bytes b, each of k bytes
--     IsSideFault KW VW key value f   the fault f of these texts, where KW and VW say which words are keys and values
--     IsAdded KW K VW V key value old new a   a is what became of a pair of these texts, where KW and VW say which words are
--                          keys and values, K and V what they stand for: it is behind the pairs `old` in `new`; or it is
--                          none, for that reason, and `new` is `old`
--     IsLineAdded d w KW K VW V line old new a   a is what became of the pair of a line, in the same way, where d is between
--                          key and value, and w is wanted of values
--     IsPairRead d w K V o o' line old new more   the next line of the bytes o is this, and o' are those after it, and its pair is
--                          behind the pairs `old` in `new`, where `more` holds; where it does not, `new` is `old`
use Rattle.std.specs.Prelude.{◌≡◌, ℕ, suc, zero, Bool, true, false, Option, ◌+◌, List, [], ◌∷◌, ◌++◌, map, take, drop}
use Rattle.odht_tool_core.specs.Keys.{IsReadAs}
use Rattle.odht_tool_core.specs.PairLines.{IsFaultOf, IsNextPair, IsPairOf}
use Rattle.odht_tool_core.specs.declared.failure.LineFault.{LineFault}
use Rattle.odht_tool_core.specs.declared.failure.LineFault.TheVariants.{NoTab, Key, Value}
use Rattle.odht_tool_core.specs.declared.misread.Wanted.{Wanted}
use Rattle.odht_tool_core.specs.declared.pairs.Added.{Added}
use Rattle.odht_tool_core.specs.declared.pairs.Added.TheVariants.{Pair, Fault, NoMemory}

unfoldable pub pairs_in : ℕ → ℕ → ℕ → List ℕ → List (List ℕ × List ℕ)
pairs_in k v zero b = []
pairs_in k v (suc n) b = (take k b, take v (drop k b)) ∷ pairs_in k v n (drop (k + v) b)

abbrev pub keys_in : ℕ → ℕ → List ℕ → List (List ℕ)
keys_in k n b = map (λ p. p.0) (pairs_in k 0 n b)

abbrev pub IsSideFault : (List ℕ → Type 0) → (List ℕ → Type 0) → List ℕ → List ℕ → LineFault → Type 0
IsSideFault KW VW key value NoTab = ⊥
IsSideFault KW VW key value Key = KW key → ⊥
IsSideFault KW VW key value Value = KW key × (VW value → ⊥)

abbrev pub IsAdded : {X Y : Type 0} → (List ℕ → Type 0) → (List ℕ → X → Type 0) → (List ℕ → Type 0) → (List ℕ → Y → Type 0) → List ℕ → List ℕ → List (X × Y) → List (X × Y) → Added → Type 0
IsAdded {X = X} {Y = Y} KW K VW V key value old new Pair = (p : X × Y) × (new ≡ old ++ (p ∷ [])) × IsReadAs KW K key p.0 × IsReadAs VW V value p.1
IsAdded KW K VW V key value old new (Fault fault) = (new ≡ old) × IsSideFault KW VW key value fault
IsAdded KW K VW V key value old new NoMemory = new ≡ old

abbrev pub IsLineAdded : {X Y : Type 0} → ℕ → Wanted → (List ℕ → Type 0) → (List ℕ → X → Type 0) → (List ℕ → Type 0) → (List ℕ → Y → Type 0) → List ℕ → List (X × Y) → List (X × Y) → Added → Type 0
IsLineAdded {X = X} {Y = Y} d w KW K VW V line old new Pair = (p : X × Y) × (new ≡ old ++ (p ∷ [])) × IsPairOf d w (IsReadAs KW K) (IsReadAs VW V) line p
IsLineAdded d w KW K VW V line old new (Fault fault) = (new ≡ old) × IsFaultOf d w KW VW line fault
IsLineAdded d w KW K VW V line old new NoMemory = new ≡ old

abbrev pub IsPairRead : {X Y : Type 0} → ℕ → Wanted → (List ℕ → X → Type 0) → (List ℕ → Y → Type 0) → Option (List ℕ) → Option (List ℕ) → List ℕ → List (X × Y) → List (X × Y) → Bool → Type 0
IsPairRead {X = X} {Y = Y} d w K V o o' line old new true = (p : X × Y) × (new ≡ old ++ (p ∷ [])) × IsNextPair d w K V o o' line p
IsPairRead d w K V o o' line old new false = new ≡ old
