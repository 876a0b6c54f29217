-- A growth is a move into the grown slots.
use Rattle.std.proofs.Common.{◌≡◌, ◌≤◌, ◌∙◌, ℕ, sym, ap, arith, List, Some}
use Rattle.std.specs.Prelude.{option_and_then}
use Rattle.odht_raw.specs.Words.{count, empty, Format, header_count, header_factor, IsValid, max_items, place_all, Table, walk}
use Rattle.odht_base.specs.Insert.{grown, grown_slots}
use Rattle.odht_base.proofs.lemmas.Grown.{room_above}
use Rattle.odht_base.proofs.lemmas.Least.{slots_for-IsLeastSlots}
use Rattle.odht.specs.Growths.{grown_slots_of, IsGrownImage, IsGrownFrom}
use Rattle.odht.specs.Reserves.{IsMove, IsMovedImage}
use Rattle.odht.proofs.lemmas.GrownBytes.{grown_header}

-- the grown slots have room for the pairs, and those pairs there are the grown table
grown_moved : (F : Format) (P : Table) → IsValid F P → (s : ℕ) → grown_slots P ≡ Some s → (T : List ℕ) → (count P ≤ max_items s P.factor → IsMovedImage F P s T) → IsGrownImage F P T
unfolding grown
grown_moved F P ok s enough T moves =
    let above = room_above F P ok s (slots_for-IsLeastSlots _ _ s enough) in
    let q = moves (omega (arith, above)) in
    (q.0, ap (option_and_then (λ t. place_all F (empty t P.factor) (walk P))) enough ∙ q.1, q.2)

-- so bytes that were moved into the grown slots, with the numbers of the header, are those of the growth
pub grown_from : (F : Format) (B T : List ℕ) (s : ℕ) → grown_slots_of B ≡ Some s → IsMove F B s T → header_count T ≡ header_count B → header_factor T ≡ header_factor B → IsGrownFrom F B T
grown_from F B T s slots move counts factor = record {
  accepted = move.accepted;
  count = counts;
  factor = factor;
  on_valid = λ P is. grown_moved F P is.valid s (sym (grown_header F P B is) ∙ slots) T (move.on_valid P is);
}
