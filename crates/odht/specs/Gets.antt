-- What a lookup of the key k answers from the bytes B. On valid bytes it is the map's answer (`on_valid`), on any bytes
-- one that is stored with this very key (`on_any`).
--     IsGet c B k o         o is that value, if there is one
--     IsCountedGet c B k r  r is that value, and how many groups were read: on valid bytes those up to the end of the search
--                           (`groups`), on any bytes no more than there are (`few`)
--     IsKnown c B k b       b is whether the key has a value; on any bytes it is true only where a slot holds this key
--     AreGot c B ks os      os are those values for the keys ks, in this order
use Rattle.std.specs.Prelude.{◌≡◌, ℕ, ◌/◌, ◌≤◌, ◌↔◌, Bool, List, map, Option, IfSome, IsSome, IsTrue}
use Rattle.odht_raw.specs.Words.{Coding, groups_read, header_slots, map_of, value_for}
use Rattle.odht_base.specs.Decoded.{HoldsKey}
use Rattle.odht_header.specs.Coding.{HasStored}
use Rattle.odht.specs.Lookups.{HaveStored}
use Rattle.odht.specs.Tables.{OfTable}

pub record IsGet {K V : Type 0} (c : Coding K V) (B : List ℕ) (k : K) (o : Option V) : Type 0 where
  pub on_valid : OfTable c.format B (λ P. o ≡ value_for c P k)
  pub on_any : IfSome o (λ v. HasStored c B k v)

pub record IsCountedGet {K V : Type 0} (c : Coding K V) (B : List ℕ) (k : K) (r : Option V × ℕ) : Type 0 where
  pub on_valid : OfTable c.format B (λ P. r.0 ≡ value_for c P k)
  pub groups : OfTable c.format B (λ P. r.1 ≡ groups_read c.format P.cells (c.key_bytes k))
  pub on_any : IfSome r.0 (λ v. HasStored c B k v)
  pub few : r.1 ≤ header_slots B / 16

pub record IsKnown {K V : Type 0} (c : Coding K V) (B : List ℕ) (k : K) (b : Bool) : Type 0 where
  pub on_valid : OfTable c.format B (λ P. IsTrue b ↔ IsSome (map_of P (c.key_bytes k)))
  pub on_any : IsTrue b → HoldsKey c.format B (c.key_bytes k)

pub record AreGot {K V : Type 0} (c : Coding K V) (B : List ℕ) (ks : List K) (os : List (Option V)) : Type 0 where
  pub on_valid : OfTable c.format B (λ P. os ≡ map (value_for c P) ks)
  pub on_any : HaveStored c B ks os
