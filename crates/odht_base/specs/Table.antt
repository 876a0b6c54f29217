-- A plain table: a load factor, and a cell for each slot, which is free or holds a pair of a key and its value.
--     slot_count P         how many cells P has
--     empty s f            s free cells at the factor f
--     fresh n p            the fresh table for n items at p percent, if some slot count is large enough
--     cell_at cs i         cell i, free past the end
--     is_free cs i         cell i holds nothing
--     has_key k c          the cell c holds the key k
--     walk P, count P      its pairs in slot order, and how many they are
use Rattle.std.specs.Prelude.{ℕ, Bool, false, List, length, replicate, filter_map, slice_index_or, Option, Some, None, is_none, option_map, bytes_eq}
use Rattle.odht_base.specs.Load.{factor_of, slots_for}

pub record Pair : Type 0 where
  pub key : List ℕ
  pub value : List ℕ

abbrev pub Cells : Type 0
Cells = List (Option Pair)

pub record Table : Type 0 where
  pub factor : ℕ
  pub cells : Cells

abbrev pub slot_count : Table → ℕ
slot_count P = length P.cells

abbrev pub empty : ℕ → ℕ → Table
empty s f = record { factor = f; cells = replicate s None }

abbrev pub fresh : ℕ → ℕ → Option Table
fresh n p = option_map (λ s. empty s (factor_of p)) (slots_for n (factor_of p))

abbrev pub cell_at : Cells → ℕ → Option Pair
cell_at cs i = slice_index_or cs i None

abbrev pub is_free : Cells → ℕ → Bool
is_free cs i = is_none (cell_at cs i)

abbrev pub has_key : List ℕ → Option Pair → Bool
has_key k None = false
has_key k (Some p) = bytes_eq k p.key

abbrev pub walk : Table → List Pair
walk P = filter_map (λ c. c) P.cells

abbrev pub count : Table → ℕ
count P = length (walk P)
