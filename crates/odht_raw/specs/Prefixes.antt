-- A table at the front of longer bytes B.
--     IsFront F B n            the first n bytes of B, which has as many, have a header and a length that fit
--     IsCut F B front rest     front and rest are B in turn, and front is such a table
--     front_of F B             the bytes of a table at the front of B, as many as its header says
--     front_refusal F B        the error of opening the table at the front of B as a view: of its header and of too few
--                              bytes, then of its first ten slots
use Rattle.std.specs.Prelude.{◌≡◌, ℕ, ◌≤◌, List, ◌++◌, length, take, Option}
use Rattle.std.specs.Option.{option_or}
use Rattle.odht_raw.specs.Words.{controls_of, entries_of, Error, Format, hashes_refusal, header_slots, image_len, prefix_refusal}
use Rattle.odht_raw.specs.Frame.{IsAccepted}

pub record IsFront (F : Format) (B : List ℕ) (n : ℕ) : Type 0 where
  pub within : n ≤ length B
  pub accepted : IsAccepted F (take n B)

pub record IsCut (F : Format) (B front rest : List ℕ) : Type 0 where
  pub joined : front ++ rest ≡ B
  pub table : IsFront F B (length front)

abbrev pub front_of : Format → List ℕ → List ℕ
front_of F B = take (image_len F (header_slots B)) B

unfoldable pub front_refusal : Format → List ℕ → Option Error
front_refusal F B =
    option_or (prefix_refusal F B) (hashes_refusal F (entries_of F (front_of F B)) (controls_of F (front_of F B)) 10)
