-- A table that is given room for more items.
--     has_room_for P n     P takes n more items below its maximum
--     LacksRoom P n        n more items than P has are above its maximum
--     moved F P s          the pairs of P, placed in slot order into s free slots at its load factor
--     reserved F P n       P where it has room for n more items; otherwise its pairs in the slots for as many as it
--                          has and n more
--     IsMovedImage F P s B    B is the image of moved F P s
--     IsMove F B s T       T has the pairs of the table of the bytes B in s slots: of a valid table that has room there they
--                          are placed (`on_valid`), and header and length fit (`accepted`)
--     IsMoveFor F P n r    r is what P moves into for room for n more items: None where it has the room; else the slots for
--                          as many as it has and n more, and the length for them, or an error where no table is that large
use Rattle.std.specs.Prelude.{◌≡◌, ℕ, ◌+◌, ◌<◌, ◌≤◌, nat_le, Bool, List, Option, Some, Result, MatchOption, MatchResult, option_and_then, if◌then◌else◌}
use Rattle.odht_raw.specs.Words.{count, empty, Error, Format, IsImage, max_items, place_all, slot_count, Table, walk}
use Rattle.odht_base.specs.Load.{slots_for}
use Rattle.odht_header.specs.Layouts.{IsLayout}
use Rattle.odht_header.specs.Refusals.{IsTooLarge}
use Rattle.odht_raw.specs.Frame.{IsAccepted}
use Rattle.odht.specs.Tables.{OfTable}

abbrev pub has_room_for : Table → ℕ → Bool
has_room_for P n = nat_le (count P + n) (max_items (slot_count P) P.factor)

abbrev pub LacksRoom : Table → ℕ → Type 0
LacksRoom P n = max_items (slot_count P) P.factor < count P + n

abbrev pub moved : Format → Table → ℕ → Option Table
moved F P s = place_all F (empty s P.factor) (walk P)

unfoldable pub reserved : Format → Table → ℕ → Option Table
reserved F P n = if has_room_for P n then Some P else option_and_then (moved F P) (slots_for (count P + n) P.factor)

abbrev pub IsMovedImage : Format → Table → ℕ → List ℕ → Type 0
IsMovedImage F P s B = (Q : Table) × (moved F P s ≡ Some Q) × IsImage F Q B

pub record IsMove (F : Format) (B : List ℕ) (s : ℕ) (T : List ℕ) : Type 0 where
  pub on_valid : OfTable F B (λ P. count P ≤ max_items s P.factor → IsMovedImage F P s T)
  pub accepted : IsAccepted F T

abbrev pub IsMoveFor : Format → Table → ℕ → Result (Option (ℕ × ℕ)) Error → Type 0
IsMoveFor F P n r = MatchResult r
    (λ o. MatchOption o (count P + n ≤ max_items (slot_count P) P.factor) (λ l. LacksRoom P n × IsLayout F (count P + n) P.factor l.0 l.1))
    (λ e. LacksRoom P n × IsTooLarge F (count P + n) P.factor)
