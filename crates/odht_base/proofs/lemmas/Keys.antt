-- Cells by the keys that they hold.
use Rattle.std.proofs.Common.{◌≡◌, ◌<◌, ℕ, zero, suc, [], ◌∷◌, length, arith, refl, sym, ap, ◌∙◌, true, false, true≢false, List, Option, Some, None, bytes_eq, is_none}
use Rattle.std.proofs.lemmas.Slice.Eq.{bytes_eq-Decides}
use Rattle.std.proofs.lemmas.Option.{none-some}
use Rattle.odht_base.specs.Table.{Pair, Cells, cell_at, has_key}

-- the test of two keys is equality
pub same_bytes : (xs ys : List ℕ) → bytes_eq xs ys ≡ true → xs ≡ ys
same_bytes xs ys h = (bytes_eq-Decides xs ys).0 h

-- a key passes it with itself
pub key_itself : (k : List ℕ) → bytes_eq k k ≡ true
key_itself k = (bytes_eq-Decides k k).1 refl

-- a cell with a key holds a pair with it
pub key_pair : (k : List ℕ) (c : Option Pair) → has_key k c ≡ true → (p : Pair) × (c ≡ Some p) × (k ≡ p.key)
key_pair k None h = absurd (true≢false (sym h))
key_pair k (Some p) h = (p, refl, same_bytes k p.key h)

-- and a cell with a pair has its key
pub pair_key : (k : List ℕ) (c : Option Pair) (p : Pair) → c ≡ Some p → k ≡ p.key → has_key k c ≡ true
pair_key k c p e s = ap (has_key k) e ∙ ap (λ j. bytes_eq j p.key) s ∙ key_itself p.key

-- a free cell has none
pub no_key_free : (k : List ℕ) (c : Option Pair) → is_none c ≡ true → has_key k c ≡ false
no_key_free k None e = refl
no_key_free k (Some p) e = absurd (true≢false (sym e))

-- a slot that holds a pair is below the number of cells
pub cell_at-within : (cs : Cells) (i : ℕ) (p : Pair) → cell_at cs i ≡ Some p → i < length cs
cell_at-within [] i p g = absurd (none-some p g)
cell_at-within (c ∷ cs) zero p g = omega arith
cell_at-within (c ∷ cs) (suc i) p g = let rest = cell_at-within cs i p g in omega (arith, rest)
