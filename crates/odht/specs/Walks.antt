-- What a walk over the bytes B gives, and how many items their header says. On valid bytes it is what the table has
-- (`on_valid`), on any bytes what they decode to (`on_any`): the slots whose own control byte is below 128.
--     ArePairs F B ps      ps are the pairs, in slot order
--     AreSlots F B i xs    xs are the slots from slot i on, each with its pair
--     IsWalk c B xs        xs are the keys and values, in slot order
--     IsWalkFrom c B i xs  xs are the slots from slot i on, each with its key and value
--     IsItemCount F B n    n is the item count of the header (`by_header`), on valid bytes the number of items
use Rattle.std.specs.Prelude.{◌≡◌, ℕ, List}
use Rattle.odht_raw.specs.Words.{Coding, count, decoded_pairs, decoded_table, Format, header_count, Pair, slots_from, walk}
use Rattle.odht_raw.specs.Walks.{decoded_all, decoded_slots}
use Rattle.odht.specs.Tables.{OfTable}

pub record ArePairs (F : Format) (B : List ℕ) (ps : List Pair) : Type 0 where
  pub on_valid : OfTable F B (λ P. ps ≡ walk P)
  pub on_any : ps ≡ decoded_pairs F B

pub record AreSlots (F : Format) (B : List ℕ) (from : ℕ) (slots : List (ℕ × Pair)) : Type 0 where
  pub on_valid : OfTable F B (λ P. slots ≡ slots_from P from)
  pub on_any : slots ≡ slots_from (decoded_table F B) from

pub record IsWalk {K V : Type 0} (c : Coding K V) (B : List ℕ) (items : List (K × V)) : Type 0 where
  pub on_valid : OfTable c.format B (λ P. items ≡ decoded_all c (walk P))
  pub on_any : items ≡ decoded_all c (decoded_pairs c.format B)

pub record IsWalkFrom {K V : Type 0} (c : Coding K V) (B : List ℕ) (from : ℕ) (slots : List (ℕ × (K × V))) : Type 0 where
  pub on_valid : OfTable c.format B (λ P. slots ≡ decoded_slots c (slots_from P from))
  pub on_any : slots ≡ decoded_slots c (slots_from (decoded_table c.format B) from)

pub record IsItemCount (F : Format) (B : List ℕ) (n : ℕ) : Type 0 where
  pub by_header : n ≡ header_count B
  pub on_valid : OfTable F B (λ P. n ≡ count P)
