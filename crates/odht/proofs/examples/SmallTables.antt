-- The tables of the examples, from u64 to u32, and their coding.
--     number_coding        keys and values are numbers, little-endian
--     no_pairs             sixteen slots at 87 percent without a pair
--     one_pair v           the same with 1 to v
--     full_of_none         sixteen slots at 6 percent, which may hold no item
--     one_of_32 p v        32 slots at p percent with 1 to v; at 6 percent they may hold no other item
--     bytes_of P           its bytes
use Rattle.std.proofs.Common.{◌≡◌, ◌≤◌, ◌++◌, ◌∙◌, ℕ, true, refl, ap, List, [], ◌∷◌, Some, None, replicate, lit≤}
use Rattle.std.specs.Prelude.{IsTrue}
use Rattle.std.specs.List.{list_all}
use Rattle.odht_raw.specs.Words.{Coding, coding_of, count, decoded_table, empty, factor_of, image, is_power_of_two, IsFormat, IsImage, le_bytes, max_items, num, slot_count, Table}
use Rattle.odht_base.specs.HashLaws.{fx-lt}
use Rattle.odht_base.specs.Hashes.{fx}
use Rattle.odht_base.specs.Table.{fresh}
use Rattle.odht_base.proofs.examples.Configs.{my_config, pair64, owned_of}
use Rattle.odht_base.proofs.lemmas.Image.{decoded_table-image}
use Rattle.odht_base.proofs.lemmas.Placed.{IsPlaced-tests, pair_fits, all_arrive}
use Rattle.odht_header.proofs.examples.Opened.{opened}

abbrev pub number_coding : Coding ℕ ℕ
number_coding =
    coding_of 8 (λ (b : List ℕ). b) (λ b. b) 4 (λ (b : List ℕ). b) (λ b. b) fx (le_bytes 8) (le_bytes 4) num num

abbrev pub no_pairs : Table
no_pairs = empty 16 (factor_of 87)

abbrev pub one_pair : ℕ → Table
one_pair v = record { factor = factor_of 87; cells = replicate 5 None ++ Some (pair64 1 v) ∷ replicate 10 None }

abbrev pub full_of_none : Table
full_of_none = empty 16 (factor_of 6)

abbrev pub one_of_32 : ℕ → ℕ → Table
one_of_32 p v = record { factor = factor_of p; cells = replicate 21 None ++ Some (pair64 1 v) ∷ replicate 10 None }

abbrev pub bytes_of : Table → List ℕ
bytes_of P = image my_config P

-- they are what inserts leave
pub made_by_inserts : (fresh 0 87 ≡ Some no_pairs)
    × (owned_of my_config 0 87 (pair64 1 2 ∷ []) ≡ Some (one_pair 2))
    × (fresh 0 6 ≡ Some full_of_none)
    × (owned_of my_config 0 6 (pair64 1 2 ∷ []) ≡ Some (one_of_32 6 2))
    × (owned_of my_config 20 87 (pair64 1 2 ∷ []) ≡ Some (one_of_32 87 2))
unfolding opened
made_by_inserts = (refl, refl, refl, refl, refl)

-- ---- bytes of valid tables
-- tests decide that a table is valid
image_by : (P : Table) → IsTrue (is_power_of_two (slot_count P)) → 16 ≤ slot_count P
    → list_all (pair_fits my_config) P.cells ≡ true → all_arrive my_config P.cells 0 P.cells ≡ true
    → 655 ≤ P.factor → P.factor ≤ 65535 → count P ≤ max_items (slot_count P) P.factor → IsImage my_config P (bytes_of P)
image_by P power least fit arrive low high room = record {
  valid = record {
    placed = IsPlaced-tests my_config P (record { power = power; least = least }) fit arrive;
    factor_low = low;
    factor_high = high;
    room = room;
  };
  bytes = refl;
}

pub no_pairs_image : IsImage my_config no_pairs (bytes_of no_pairs)
unfolding opened
no_pairs_image = image_by no_pairs refl (lit≤ tt) refl refl (lit≤ tt) (lit≤ tt) (lit≤ tt)

pub one_pair_image : IsImage my_config (one_pair 2) (bytes_of (one_pair 2))
    × IsImage my_config (one_pair 3) (bytes_of (one_pair 3))
unfolding opened
one_pair_image = (
  image_by (one_pair 2) refl (lit≤ tt) refl refl (lit≤ tt) (lit≤ tt) (lit≤ tt),
  image_by (one_pair 3) refl (lit≤ tt) refl refl (lit≤ tt) (lit≤ tt) (lit≤ tt),
)

pub one_of_32_image : IsImage my_config (one_of_32 6 2) (bytes_of (one_of_32 6 2))
unfolding opened
one_of_32_image = image_by (one_of_32 6 2) refl (lit≤ tt) refl refl (lit≤ tt) (lit≤ tt) (lit≤ tt)

pub wide_image : IsImage my_config (one_of_32 87 2) (bytes_of (one_of_32 87 2))
unfolding opened
wide_image = image_by (one_of_32 87 2) refl (lit≤ tt) refl refl (lit≤ tt) (lit≤ tt) (lit≤ tt)

-- bytes are those of the one table that they decode to
pub my_format : IsFormat my_config
my_format = record { key_short = lit≤ tt; value_short = lit≤ tt; hash_small = λ b h. fx-lt b }

pub the_table : (P : Table) (B : List ℕ) → IsImage my_config P B → decoded_table my_config B ≡ P
the_table P B h = ap (decoded_table my_config) h.bytes ∙ decoded_table-image my_config P my_format h.valid

pub only_one_pair : (P : Table) → IsImage my_config P (bytes_of (one_pair 2)) → one_pair 2 ≡ P
unfolding opened
only_one_pair P is = the_table P _ is
