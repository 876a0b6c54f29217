-- The lengths that searches and inserts require, where the hash function needs at least ml bytes, a key has kl bytes
-- and a value has vl bytes.
--     ArePairLengths ml kl vl        a key is long enough for the hash, and key and value have at most 255 bytes
--     AreSearchLengths ml kl vl s n  the same, and s slots have n control bytes with their mirror
--     ArePartLengths ml kl vl e n    the same, some slot count has n control bytes with their mirror, and the entries
--                                    of as many slots have e bytes
use Rattle.std.specs.Prelude.{◌≡◌, ℕ, ◌+◌, ◌-◌, ◌*◌, ◌≤◌}
use Rattle.odht_base.specs.Load.{IsSlotCount}

pub record ArePairLengths (ml kl vl : ℕ) : Type 0 where
  pub hashes : ml ≤ kl
  pub key : kl ≤ 255
  pub value : vl ≤ 255

pub record AreSearchLengths (ml kl vl s n : ℕ) : Type 0 where
  pub pair : ArePairLengths ml kl vl
  pub mirrored : n ≡ s + 16

pub record ArePartLengths (ml kl vl e n : ℕ) : Type 0 where
  pub pair : ArePairLengths ml kl vl
  pub slots : IsSlotCount (n - 16)
  pub entries : e ≡ (n - 16) * (kl + vl)
