-- What a table grows into, and how long that is.
--     table_len F o        how many bytes a table of o slots has; None where o is None, or the length passes 64 bits
--     grown_slots_of B     the slots for twice the item count of the header of B, and for one item at least, at the
--                          header's load factor
--     grown_len F B        how many bytes the table has that the bytes B grow into
--     HasGrownLen F B T    T are that many bytes
--     IsGrownLayout F B r  r is the slot count and the length in bytes of the table that the bytes B grow into; None exactly
--                          where there is none
--     IsGrownImage F P T   T is the image of the grown table of P
--     IsRoomFor F s B      the bytes B are as many as a table of s slots has, and zeros where its entries are
--     IsGrownFrom F B T    T are accepted bytes whose header has the item count and the load factor of B; and where B
--                          is the image of a table, T is the image of the one that it grows into
--     IsPlacing F P ps Q   placing the pairs ps into P gives Q; their keys are pairwise distinct and new to P
--     IsWritten F s c f ps T   T has the header of s slots, the item count c and the load factor f; where the keys of
--                          the pairs ps are pairwise distinct, and all are placed into the empty table, it is this header
--                          and the parts of that table
use Rattle.std.specs.Prelude.{◌≡◌, ℕ, ◌*◌, ◌^◌, ◌++◌, max, nat_lt, take, length, List, All, Option, Some, None, MatchOption, option_and_then}
use Rattle.std.specs.Bool.{then_some}
use Rattle.odht_raw.specs.Words.{bytes_at, empty, entry_len, Format, header_bytes, header_count, header_factor, image_len, IsImage, Pair, parts, place_all, Table}
use Rattle.odht_base.specs.Insert.{grown}
use Rattle.odht_base.specs.Load.{slots_for}
use Rattle.odht_base.specs.Map.{KeysApart}
use Rattle.odht_header.specs.Layouts.{IsLayout}
use Rattle.odht_raw.specs.Frame.{IsAccepted}
use Rattle.odht_raw.specs.Parts.{IsZeros}
use Rattle.odht_raw.specs.PartsPlacings.{IsNewTo}
use Rattle.odht.specs.Tables.{OfTable}

abbrev pub table_len : Format → Option ℕ → Option ℕ
table_len F o = option_and_then (λ s. then_some (nat_lt (image_len F s) (2 ^ 64)) (image_len F s)) o

abbrev pub grown_slots_of : List ℕ → Option ℕ
grown_slots_of B = slots_for (max 1 (2 * header_count B)) (header_factor B)

unfoldable pub grown_len : Format → List ℕ → Option ℕ
grown_len F B = table_len F (grown_slots_of B)

abbrev pub HasGrownLen : Format → List ℕ → List ℕ → Type 0
HasGrownLen F B T = grown_len F B ≡ Some (length T)

abbrev pub IsGrownLayout : Format → List ℕ → Option (ℕ × ℕ) → Type 0
IsGrownLayout F B r = MatchOption r (grown_len F B ≡ None) (λ l. IsLayout F (max 1 (2 * header_count B)) (header_factor B) l.0 l.1)

abbrev pub IsGrownImage : Format → Table → List ℕ → Type 0
IsGrownImage F P T = (Q : Table) × (grown F P ≡ Some Q) × IsImage F Q T

pub record IsRoomFor (F : Format) (s : ℕ) (B : List ℕ) : Type 0 where
  pub len : length B ≡ image_len F s
  pub zeros : IsZeros (s * entry_len F) (bytes_at B 32 (s * entry_len F))

pub record IsGrownFrom (F : Format) (B T : List ℕ) : Type 0 where
  pub accepted : IsAccepted F T
  pub count : header_count T ≡ header_count B
  pub factor : header_factor T ≡ header_factor B
  pub on_valid : OfTable F B (λ P. IsGrownImage F P T)

pub record IsPlacing (F : Format) (P : Table) (ps : List Pair) (Q : Table) : Type 0 where
  pub apart : KeysApart ps
  pub new : All (IsNewTo P) ps
  pub placed : place_all F P ps ≡ Some Q

pub record IsWritten (F : Format) (s c f : ℕ) (ps : List Pair) (T : List ℕ) : Type 0 where
  pub placed : (Q : Table) → KeysApart ps → place_all F (empty s f) ps ≡ Some Q → T ≡ header_bytes F s c f ++ parts F Q.cells
  pub header : take 32 T ≡ header_bytes F s c f
