-- The rest of a search from its first position on is a whole search, and a whole search in a new scan counts its groups.
use Rattle.std.proofs.Common.{◌≡◌, arith, List, ℕ}
use Rattle.odht_raw.specs.Words.{Format, groups_read, IsPartsOf, IsSlotCount, Table}
use Rattle.odht_base.proofs.lemmas.SlotCounts.{few_slots}
use Rattle.odht_raw.specs.Parts.{EntryBytes, ReadGroups}
use Rattle.odht_raw.specs.ProbeSeqs.{ProbePosition, place_of}
use Rattle.odht_raw.specs.Searches.{IsSearch, IsRest}
use Rattle.odht_raw.specs.declared.raw_table.search_result.Search.{Search}
use Rattle.odht_raw.proofs.lemmas.Lookups.{answer-IsWherePlaced}

-- the rest of a search from its first position on is the search
pub rest-IsSearch : (F : Format) (E : EntryBytes) (k : List ℕ) (before after : ReadGroups) (from to : ProbePosition) (r : Search)
    → IsRest F E k (place_of before from) (place_of after to) r → from.position ≡ 0 → IsSearch F E k before after r
rest-IsSearch F E k before after from to r rest first = record {
  end = rest.end;
  placing = λ P h. answer-IsWherePlaced F P k h.placed r (rest.end.on_placed P h);
  groups = λ P h. omega (arith, rest.groups P h, first);
  few = omega (arith, rest.few, first);
  control = rest.control;
}

-- there are fewer groups than a scan can count
pub counted_in_new : (F : Format) (E : EntryBytes) (k : List ℕ) (before after : ReadGroups) (r : Search) → IsSlotCount E.slots → before.groups ≡ 0 → IsSearch F E k before after r
    → (P : Table) → IsPartsOf F P E.bytes before.control → after.groups ≡ groups_read F P.cells k
counted_in_new F E k before after r count new whole P h = omega (arith, whole.groups P h, whole.few, new, few_slots E.slots count)
