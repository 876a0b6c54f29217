-- A search that passed each position.
use Rattle.std.proofs.Common.{◌≡◌, ℕ, ◌+◌, List, length}
use Rattle.odht_raw.specs.Words.{Format, IsFormat, IsSlotCount}
use Rattle.odht_raw.specs.Parts.{EntryBytes}
use Rattle.odht_raw.specs.Searches.{IsPassed, IsSearchEnd}
use Rattle.odht_raw.specs.declared.raw_table.search_result.Search.TheVariants.{Neither}
use Rattle.odht_raw.proofs.lemmas.GroupSearches.{no_free-on}
use Rattle.odht_raw.proofs.lemmas.PlainSearch.{no_end}

-- where all positions were passed, the search ends at none
pub none-ends : (F : Format) (E : EntryBytes) (ctrl k : List ℕ) → IsFormat F → length ctrl ≡ E.slots + 16 → IsSlotCount E.slots → IsPassed F E ctrl k E.slots → IsSearchEnd F E ctrl k Neither
none-ends F E ctrl k f mirrored count passed = record {
  on_placed = λ P h. no_end F P k E.bytes ctrl f h E.slots mirrored (passed.on_placed P h);
  slot = (no_free-on F E ctrl k count passed.on, passed.on);
  earlier = passed.on;
}
