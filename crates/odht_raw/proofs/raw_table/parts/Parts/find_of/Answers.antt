use Rattle.std.proofs.Common.{◌≡◌, ◌∙◌, ℕ, List, arith, refl, sym, ap, subst, Some, None}
use Rattle.std.specs.Prelude.{option_map}
use Rattle.odht_raw.specs.Words.{Format, groups_read, IsPartsOf, map_of, Table}
use Rattle.odht_raw.specs.Finds.{IsCountedFind}
use Rattle.odht_raw.specs.Parts.{TableParts, ReadGroups, hashed_by}
use Rattle.odht_raw.specs.Stored.{StoredEntries, stored_format}
use Rattle.odht_raw.specs.Searches.{IsSearch}
use Rattle.odht_raw.specs.DynParts.{parts_format}
use Rattle.odht_raw.proofs.lemmas.Lookups.{answer-Found, answer-Free, answer-Neither}
use Rattle.odht_raw.proofs.lemmas.Inserts.{found_value}
use Rattle.odht_raw.proofs.lemmas.WholeSearches.{counted_in_new}
use Rattle.odht_raw.proofs.raw_table.parts.Parts.find_of.Given.{Over}
use Rattle.odht_raw.proofs.raw_table.parts.Parts.find_of.Goals.{After-search_stored-end}
use Rattle.odht_raw.proofs.raw_table.parts.Parts.find_of.Goals as goal

module _ (g : Over) (c : After-search_stored-end g) where
  abbrev format : Format
  format = parts_format c.args.self.now g.H.HashFn.hash

  abbrev parts : TableParts
  parts = c.args.self.now.parts

  abbrev key : List ℕ
  key = c.args.key.now

  -- a new scan of the table's control bytes, and the search in it
  abbrev new : ReadGroups
  new = record { control = parts.control; groups = 0 }

  ended : IsSearch format parts.entries key new c.search_stored-end.new.scan c.search_stored-end.result
  ended = subst (λ (s : ReadGroups). IsSearch format parts.entries key s c.search_stored-end.new.scan c.search_stored-end.result)
      (c.new-scan.ensures ∙ ap (λ (b : List ℕ). record { control = b; groups = 0 }) c.controls.ensures.value)
      (subst (λ (S : StoredEntries). IsSearch (hashed_by g.H.HashFn.hash (stored_format S)) S.entries key c.new-scan.result c.search_stored-end.new.scan c.search_stored-end.result)
      c.stored-stored.ensures c.search_stored-end.ensures)

  counted : (P : Table) → IsPartsOf format P parts.entries.bytes parts.control → c.search_stored-end.new.scan.groups ≡ groups_read format P.cells key
  counted = counted_in_new format parts.entries key new _ _ c.len.ensures.whole.slots refl ended

  -- no value, and how many groups were read
  absent : (n : ℕ) → n ≡ c.search_stored-end.new.scan.groups → ((P : Table) → IsPartsOf format P parts.entries.bytes parts.control → None ≡ option_map (λ (b : List ℕ). b) (map_of P key))
      → IsCountedFind format (λ b. b) parts key (None, n)
  absent n read none = record {
    on_placed = none;
    groups = λ P h. read ∙ counted P h;
    on_any = tt;
    few = omega (arith, read, ended.few);
  }

pub returns-in-Found-clause-found : goal.returns-in-Found-clause-found
returns-in-Found-clause-found g c =
    let at = (goal.at.returns-in-Found-clause-found g c).After-search_stored-end in
    let ended = ended g at in
    let there = rw c.in-Found.is at ended.end.slot in
    record {
      on_placed = λ P h.
          let found = answer-Found (format g at) P (key g at) h.placed c.in-Found.slot (sym c.in-Found.is ∙ ended.end.on_placed P h) in
          ap Some (c.value.ensures.value ∙ found_value (format g at) P _ _ h (key g at) c.in-Found.slot found) ∙ sym (ap (option_map (λ (b : List ℕ). b)) found.value);
      groups = λ P h. c.groups-groups.ensures ∙ counted g at P h;
      on_any = (c.in-Found.slot, there.0, there.1, c.value.ensures.value);
      few = omega (arith, c.groups-groups.ensures, ended.few);
    }

pub returns-in-Free-clause-found : goal.returns-in-Free-clause-found
returns-in-Free-clause-found g c =
    let at = (goal.at.returns-in-Free-clause-found g c).After-search_stored-end in
    absent g at _ c.groups-groups.ensures (λ P h. sym (ap (option_map (λ (b : List ℕ). b)) (answer-Free (format g at) P _ h.placed _ (sym c.in-Free.is ∙ (ended g at).end.on_placed P h)).value))

pub returns-in-Neither-clause-found : goal.returns-in-Neither-clause-found
returns-in-Neither-clause-found g c =
    let at = (goal.at.returns-in-Neither-clause-found g c).After-search_stored-end in
    absent g at _ c.groups-groups.ensures (λ P h. sym (ap (option_map (λ (b : List ℕ). b)) (answer-Neither (format g at) P _ h.placed (sym c.in-Neither.is ∙ (ended g at).end.on_placed P h)).value))
