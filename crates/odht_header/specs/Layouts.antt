-- How large a new table is.
--     IsLayout F n f s len   a table for n items at the load factor f has s slots, the least slot count that is enough,
--                          and len bytes, which is below 2 ^ 64
use Rattle.std.specs.Prelude.{◌≡◌, ℕ, ◌<◌, ◌^◌, Some}
use Rattle.odht_base.specs.Format.{Format}
use Rattle.odht_base.specs.Image.{image_len}
use Rattle.odht_base.specs.Load.{slots_for, IsLeastSlots}

pub record IsLayout (F : Format) (n f s len : ℕ) : Type 0 where
  pub slots : slots_for n f ≡ Some s
  pub least : IsLeastSlots n f s
  pub long : len ≡ image_len F s
  pub fits : len < 2 ^ 64
