use Rattle.std.proofs.Common.{◌≡◌, ap, subst}
use Rattle.odht_raw.specs.Words.{Format, format_of, Pair}
use Rattle.odht_raw.specs.DynParts.{DynParts}
use Rattle.odht_raw.specs.Parts.{stored_in}
use Rattle.odht_raw.specs.PartsInserts.{IsInsertAt, IsInsertChange, IsPartsInsert}
use Rattle.odht_raw.specs.SearchResults.{answer}
use Rattle.odht_raw.specs.Searches.{IsSearchEnd}
use Rattle.odht_raw.proofs.lemmas.SearchedParts.{ended, former, low, tagged_end}
use Rattle.odht_raw.proofs.raw_table.table_mut.RawTableMut.insert_by.Given.{Over}
use Rattle.odht_raw.proofs.raw_table.table_mut.RawTableMut.insert_by.Goals.{After-insert_at, After-search_end-end}
use Rattle.odht_raw.proofs.raw_table.table_mut.RawTableMut.insert_by.Goals as goal

abbrev format : Over → Format
format g = format_of g.K.ByteArray.LEN g.V.ByteArray.LEN g.H.HashFn.hash

-- where the search ends
end_of : (g : Over) (c : After-search_end-end g) → let t = c.args.self.now in
    IsSearchEnd (format g) (stored_in t.entries.now t.control.now) t.control.now c.as_slice-key.result.now c.search_end-end.result.0
end_of g c = let t = c.args.self.now in ended _ _ g.H.HashFn.hash t.entries.now t.control.now _ c.read_parts-parts.ensures c.as_slice-key.result.now _ c.search_end-end.ensures.end

pub typed_value_at-former-requires-clause-slot : goal.typed_value_at-former-requires-clause-slot
typed_value_at-former-requires-clause-slot g c κs within =
    let t = c.args.self.now in
    low _ _ g.H.HashFn.hash t.entries.now t.control.now _ c.read_parts-parts.ensures c.as_slice-key.result.now _ (end_of g (goal.at.typed_value_at-former-requires-clause-slot g c).After-search_end-end).slot

pub typed_value_at-former-requires-clause-len : goal.typed_value_at-former-requires-clause-len
typed_value_at-former-requires-clause-len g c κs within = ap (λ (S : DynParts). S.value_len) c.read_parts-parts.ensures

pub insert_at-requires-clause-end : goal.insert_at-requires-clause-end
insert_at-requires-clause-end g c =
    let t = c.args.self.now in
    tagged_end _ _ g.H.HashFn.hash t.entries.now t.control.now _ c.read_parts-parts.ensures 18446744073709551615 c.as_slice-key.result.now _ c.search_end-end.ensures.end c.search_end-end.ensures.tag

-- what the insert did with the bytes of key and value
module _ (g : Over) (c : After-insert_at g) where
  abbrev read : Pair
  read = record { key = c.as_slice-key.result.now; value = c.as_slice-value.result.now }

  same : read ≡ record { key = g.K.ByteArray.bytes c.args.key; value = g.V.ByteArray.bytes c.args.value }
  same = λ i. record { key = c.as_slice-key.ensures.value i; value = c.as_slice-value.ensures.value i }

  inserted : let t = c.args.self.now in IsInsertAt (format g) g.V.ByteArray.of_bytes (λ P. c.search_end-end.result.0 ≡ answer (format g) P.cells c.as_slice-key.result.now)
      (t.entries.now, t.control.now) read c.insert_at.result (c.insert_at.new.entries, c.insert_at.new.control)
  inserted =
      let t = c.args.self.now in
      c.insert_at.ensures g.V.ByteArray.of_bytes
      (former _ _ g.H.HashFn.hash t.entries.now t.control.now _ c.read_parts-parts.ensures g.V.ByteArray.of_bytes c.search_end-end.result.0 c.typed_value_at-former.result c.typed_value_at-former.ensures)

pub returns-clause-placed : goal.returns-clause-placed
returns-clause-placed g c P h =
    let at = goal.at.returns-clause-placed g c in
    let end = end_of g at.After-search_end-end in
    subst (λ (p : Pair). IsPartsInsert (format g) g.V.ByteArray.of_bytes P p c.insert_at.result c.insert_at.new.entries c.insert_at.new.control) (same g at.After-insert_at)
    ((inserted g at.After-insert_at).placed P h (end.on_placed P h))

pub returns-clause-any : goal.returns-clause-any
returns-clause-any g c =
    let at = (goal.at.returns-clause-any g c).After-insert_at in
    let t = c.args.self.now in
    subst (λ (p : Pair). IsInsertChange (format g) g.V.ByteArray.of_bytes t.entries.now t.control.now p c.insert_at.result c.insert_at.new.entries c.insert_at.new.control) (same g at)
    (inserted g at).any
