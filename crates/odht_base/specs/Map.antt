-- Tables and lists of pairs as finite maps, from a key to its value.
--     Values               such a map: none where it has no value
--     value_in ps k        the value of the first pair with the key k
--     map_of P k           the value that P holds for k
--     last ps k            the value of the last pair with the key k
--     overwritten m n k    n's value for k, or else m's
--     KeysApart ps         no two pairs of ps have the same key
use Rattle.std.specs.Prelude.{◌≡◌, ℕ, ⊤, List, [], ◌∷◌, reverse, find, Option, None, option_map, bytes_eq}
use Rattle.std.specs.Option.{option_or}
use Rattle.odht_base.specs.Table.{Pair, Table, walk}

abbrev pub Values : Type 0
Values = List ℕ → Option (List ℕ)

abbrev pub value_in : List Pair → Values
value_in ps k = option_map (λ (p : Pair). p.value) (find (λ (p : Pair). bytes_eq k p.key) ps)

abbrev pub map_of : Table → Values
map_of P = value_in (walk P)

abbrev pub last : List Pair → Values
last ps = value_in (reverse ps)

abbrev pub overwritten : Values → Values → Values
overwritten m n k = option_or (n k) (m k)

abbrev pub KeysApart : List Pair → Type 0
KeysApart [] = ⊤
KeysApart (p ∷ ps) = (value_in ps p.key ≡ None) × KeysApart ps
