-- Worked examples: parts of a table that are read by position, here behind 40 other bytes.
use Rattle.std.proofs.Common.{◌≡◌, ℕ, ◌+◌, ◌%◌, ◌++◌, refl, List, replicate, length, Some, None, lit<, arith}
use Rattle.odht_raw.specs.Words.{Format, IsFormat, IsSlotCount, lists_differ, slot_count, slot_key, Table}
use Rattle.odht_base.proofs.examples.Configs.{direct_config}
use Rattle.odht_header.proofs.examples.Apart.{unequal, unequal_lists, tested}
use Rattle.odht_header.proofs.examples.Opened.{opened}
use Rattle.odht_raw.specs.Parts.{EntryBytes}
use Rattle.odht_raw.specs.SearchResults.{answer}
use Rattle.odht_raw.specs.SearchSteps.{IsGroupAt, IsGroupLook}
use Rattle.odht_raw.specs.declared.raw_table.search_result.Search.{Search}
use Rattle.odht_raw.specs.Reads.{read_entries, read_controls, read_key, IsPlaceFitting, IsHeldBy, IsFoundWithin, IsLooking}
use Rattle.odht_raw.specs.declared.raw_table.read_search.ReadPlace.{ReadPlace}
use Rattle.odht_raw.specs.declared.raw_table.search_result.Search.TheVariants.{Found, Free, Neither}
use Rattle.odht_raw.proofs.examples.FrameRefusals.{occupied_controls}
use Rattle.odht_raw.proofs.examples.SearchEnds.{five_in_three, five}

-- sixteen slots with keys and values of four bytes: the entries from byte 40 on, the control bytes behind them
abbrev place : ReadPlace
place = record { entries_at = 40; control_at = 168; slots = 16; layout = record { key_len = 4; value_len = 4 } }

abbrev source : List ℕ
source = replicate 40 9 ++ ((five_in_three 16).bytes ++ occupied_controls)

-- they are read where they lie
pub read_parts : (read_entries place source ≡ five_in_three 16) × (read_controls place source ≡ occupied_controls)
read_parts = (refl, refl)

-- and so is the key of slot 3, which is that of no other
pub read_three : (read_key place source 3 ≡ five) × (read_key place source 2 ≡ five → ⊥)
read_three = (refl, unequal_lists (read_key place source 2) five refl)

-- ---- what has such parts
pub fits : IsPlaceFitting place
fits = record { entries = lit< tt; controls = lit< tt; key = omega arith }

-- offsets that pass 2 ^ 64 do not
pub far_entries_refused : IsPlaceFitting (record { entries_at = 18446744073709551488; control_at = 0; slots = 16; layout = place.layout }) → ⊥
far_entries_refused h = omega (arith, h.entries)

pub far_controls_refused : IsPlaceFitting (record { entries_at = 0; control_at = 18446744073709551584; slots = 16; layout = place.layout }) → ⊥
far_controls_refused h = omega (arith, h.controls)

-- bytes that end before the last control byte do not have them
pub held : IsHeldBy place source
held = let n : length source ≡ 200 = refl in record { entries = omega (arith, n); controls = omega (arith, n) }

pub cut_refused : (B : List ℕ) → length B ≡ 199 → IsHeldBy place B → ⊥
cut_refused B n h = omega (arith, n, h.controls)

pub cut_entries_refused : (B : List ℕ) → length B ≡ 100 → IsHeldBy (record { entries_at = 40; control_at = 0; slots = 16; layout = place.layout }) B → ⊥
cut_entries_refused B n h = omega (arith, n, h.entries)

-- a search for the key 5, whose tag is 0, looks at slots of the table alone
pub looking : IsSlotCount 16 → IsFormat direct_config → IsLooking direct_config place five 0 15
unfolding opened
looking count format = record {
  slots = count;
  fits = fits;
  format = format;
  key = refl;
  tag = record { is = refl; small = lit< tt };
  start = lit< tt;
}

pub looking_behind_refused : IsLooking direct_config place five 0 16 → ⊥
looking_behind_refused h = omega (arith, h.start)

pub looking_with_other_tag_refused : IsLooking direct_config place five 1 0 → ⊥
unfolding opened
looking_with_other_tag_refused h = unequal 1 0 refl h.tag.is

-- ---- what is found
pub within : IsFoundWithin 16 (Found 15) × IsFoundWithin 16 (Free 16) × IsFoundWithin 16 Neither
within = (lit< tt, tt, tt)

pub behind_refused : IsFoundWithin 16 (Found 16) → ⊥
behind_refused h = omega (arith, h)

-- no table has five slots
no_table : (P : Table) → IsSlotCount (slot_count P) → 5 ≡ slot_count P → ⊥
no_table P count is = omega (arith, count.least, is)

-- so of five slots a look at the bytes of slots 2 to 17 finds the key that is in slot 3
pub looked : IsGroupLook direct_config (five_in_three 5) (replicate 16 0) 2 16 five (Some (Found 3))
looked = record {
  slot = (
    1,
    lit< tt,
    refl,
    refl,
    λ j l t e. unequal_lists (slot_key direct_config (five_in_three 5).bytes ((2 + j) % 5)) five
        (tested (λ i. lists_differ (slot_key direct_config (five_in_three 5).bytes ((2 + i) % 5)) five) 1 j refl l) e,
  );
  none = λ e. absurd cc;
  on_placed = λ P p at. absurd (no_table P at.placed.slots at.slots);
}

-- and no other
pub looked_elsewhere_refused : IsGroupLook direct_config (five_in_three 5) (replicate 16 0) 2 16 five (Some (Found 4)) → ⊥
looked_elsewhere_refused h = unequal_lists (slot_key direct_config (five_in_three 5).bytes 4) five refl h.slot.3

-- nor is it passed
pub passed_refused : IsGroupLook direct_config (five_in_three 5) (replicate 16 0) 2 16 five None → ⊥
unfolding opened
passed_refused h = (h.none refl 1 (lit< tt)).1 refl refl

-- and on the group of a placed table there is no other answer than the table's
pub other_answer_refused : (F : Format) (P : Table) (E : EntryBytes) (k bs : List ℕ) (p b n : ℕ) (a : Search) → IsGroupAt F P E k p b bs
    → (a ≡ answer F P.cells k → ⊥) → IsGroupLook F E bs b n k (Some a) → ⊥
other_answer_refused F P E k bs p b n a at other h = other (h.on_placed P p at).0
