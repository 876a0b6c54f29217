-- A search by groups for a key k. E is the entries, ctrl the control bytes, r the answer.
--     IsSearchEnd F E ctrl k r       on the parts of a table r is the table's answer (`on_placed`); on any parts r is
--                                    an end (`slot`), and says what comes before it in the probe order (`earlier`)
--     IsSearch F E k before after r  the same of a search that finds the scan `before` and leaves `after` (`end`). On
--                                    the parts of a table r is where a pair with the key is placed (`placing`), and the
--                                    count of groups rises by those up to the end, up to 2 ^ 64 - 1 (`groups`); on any
--                                    parts by no more than there are (`few`); no control byte changes (`control`)
--     IsPassed F E ctrl k p          the search passes each position of the probe order before p
--     IsUnderWay F E k q             it passed those before the place q, the first one of a group of sixteen
--     IsRest F E k before after r    the same as IsSearch of the rest of a search, from the place `before` on
use Rattle.std.specs.Prelude.{◌≡◌, ℕ, ◌+◌, ◌-◌, ◌/◌, ◌%◌, ◌≤◌, List, min}
use Rattle.odht_raw.specs.Words.{Format, groups_read, home, IsPartsOf, Table}
use Rattle.odht_raw.specs.ControlBytes.{GoesOnTo}
use Rattle.odht_raw.specs.Parts.{EntryBytes, ReadGroups}
use Rattle.odht_raw.specs.ProbeSeqs.{GroupPlace}
use Rattle.odht_raw.specs.SearchEnds.{IsEnd, IsAfter}
use Rattle.odht_raw.specs.SearchResults.{answer, IsWherePlaced}
use Rattle.odht_raw.specs.SearchSteps.{Passed}
use Rattle.odht_raw.specs.declared.raw_table.search_result.Search.{Search}

pub record IsSearchEnd (F : Format) (E : EntryBytes) (ctrl k : List ℕ) (r : Search) : Type 0 where
  pub on_placed : (P : Table) → IsPartsOf F P E.bytes ctrl → r ≡ answer F P.cells k
  pub slot : IsEnd F E ctrl k r
  pub earlier : IsAfter F E ctrl k r

pub record IsSearch (F : Format) (E : EntryBytes) (k : List ℕ) (before after : ReadGroups) (r : Search) : Type 0 where
  pub end : IsSearchEnd F E before.control k r
  pub placing : (P : Table) → IsPartsOf F P E.bytes before.control → IsWherePlaced F P k r
  pub groups : (P : Table) → IsPartsOf F P E.bytes before.control → after.groups ≡ min (before.groups + groups_read F P.cells k) 18446744073709551615
  pub few : after.groups ≤ before.groups + E.slots / 16
  pub control : after.control ≡ before.control

pub record IsPassed (F : Format) (E : EntryBytes) (ctrl k : List ℕ) (p : ℕ) : Type 0 where
  pub on : GoesOnTo F E ctrl k p
  pub on_placed : (P : Table) → IsPartsOf F P E.bytes ctrl → Passed F P k p

pub record IsUnderWay (F : Format) (E : EntryBytes) (k : List ℕ) (q : GroupPlace) : Type 0 where
  pub home : q.home ≡ home F k E.slots
  pub aligned : q.position % 16 ≡ 0
  pub passed : IsPassed F E q.control k q.position

pub record IsRest (F : Format) (E : EntryBytes) (k : List ℕ) (before after : GroupPlace) (r : Search) : Type 0 where
  pub end : IsSearchEnd F E before.control k r
  pub groups : (P : Table) → IsPartsOf F P E.bytes before.control → after.groups ≡ min (before.groups + (groups_read F P.cells k - before.position / 16)) 18446744073709551615
  pub few : after.groups ≤ before.groups + (E.slots - before.position) / 16
  pub control : after.control ≡ before.control
