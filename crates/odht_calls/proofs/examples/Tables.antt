-- The coding, the tables and the bytes of the examples.
--     direct_coding            numbers of four bytes to numbers of four bytes; the hash of a key is the key
--     no_items, no_bytes       a table of sixteen slots at 7 percent, which may hold one item, and its bytes
--     one_item, one_bytes      the same with the value 7 for the key 5, which is in slot 5
--     other_item, other_bytes  the same with the value 8
--     miscounted               the bytes of no items, with a header's count of five; they are accepted, and not valid
--     no_image, one_image      the first two tables are valid
--     not_stored               no slot of the bytes `miscounted` has the key 6
use Rattle.std.proofs.Common.{ℕ, refl, List, ◌∷◌, [], Some, None, set, replicate, lit≤}
use Rattle.odht_base.specs.Bytes.{overwritten_at}
use Rattle.odht_base.specs.Image.{image}
use Rattle.odht_base.specs.Load.{factor_of}
use Rattle.odht_base.specs.Numbers.{num, le_bytes}
use Rattle.odht_base.specs.Decoded.{key_at}
use Rattle.odht_base.specs.Table.{Table, empty}
use Rattle.odht_base.specs.Valid.{IsImage}
use Rattle.odht_base.proofs.examples.Configs.{direct_config, pair32}
use Rattle.odht_base.proofs.lemmas.Placed.{IsPlaced-tests}
use Rattle.odht_base.proofs.lemmas.FreeSlots.{empty-IsValid}
use Rattle.odht_header.specs.Coding.{Coding, HasStored}
use Rattle.odht_raw.specs.Frame.{IsAccepted}
use Rattle.odht_header.specs.Refusals.{lists_differ}
use Rattle.odht_header.proofs.examples.Apart.{unequal_lists, tested}
use Rattle.odht_header.proofs.examples.Opened.{opened}

abbrev pub direct_coding : Coding ℕ ℕ
direct_coding = record {
  format = direct_config;
  key_bytes = le_bytes 4;
  value_bytes = le_bytes 4;
  key_of = num;
  value_of = num;
}

abbrev pub no_items : Table
no_items = empty 16 (factor_of 7)

abbrev pub one_item : Table
one_item = record { factor = factor_of 7; cells = set (replicate 16 None) 5 (Some (pair32 5 7)) }

abbrev pub other_item : Table
other_item = record { factor = factor_of 7; cells = set (replicate 16 None) 5 (Some (pair32 5 8)) }

abbrev pub no_bytes : List ℕ
no_bytes = image direct_config no_items

abbrev pub one_bytes : List ℕ
one_bytes = image direct_config one_item

abbrev pub other_bytes : List ℕ
other_bytes = image direct_config other_item

abbrev pub miscounted : List ℕ
miscounted = overwritten_at no_bytes 8 (5 ∷ [])

-- the table without items is valid
pub no_image : IsImage direct_config no_items no_bytes
unfolding opened
no_image = record {
  valid = empty-IsValid 16 (factor_of 7) direct_config (record { power = refl; least = lit≤ tt }) (lit≤ tt) (lit≤ tt);
  bytes = refl;
}

-- and so is that with one
pub one_image : IsImage direct_config one_item one_bytes
unfolding opened
one_image = record {
  valid = record {
    placed = IsPlaced-tests direct_config one_item (record { power = refl; least = lit≤ tt }) refl refl;
    factor_low = lit≤ tt;
    factor_high = lit≤ tt;
    room = lit≤ tt;
  };
  bytes = refl;
}

-- the header and the length of these bytes fit
pub accepted_bytes : IsAccepted direct_config no_bytes
    × IsAccepted direct_config one_bytes
    × IsAccepted direct_config miscounted
unfolding opened
accepted_bytes = (refl, refl, refl)

-- no slot has the key 6
pub not_stored : (v : ℕ) → HasStored direct_coding miscounted 6 v → ⊥
unfolding opened
not_stored v (b, is, (i, low, key, value)) =
    unequal_lists (key_at direct_config miscounted i) (le_bytes 4 6)
    (tested (λ j. lists_differ (key_at direct_config miscounted j) (le_bytes 4 6)) 16 i refl low) key
