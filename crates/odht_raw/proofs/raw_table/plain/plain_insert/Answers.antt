use Rattle.std.proofs.Common.{◌/◌, ◌^◌, ◌≡◌, ◌∙◌, ap, arith, subst, sym}
use Rattle.odht_raw.specs.Words.{Format, format_of, Pair}
use Rattle.odht_raw.specs.DynParts.{DynParts}
use Rattle.odht_raw.specs.Parts.{stored_in}
use Rattle.odht_raw.specs.PartsInserts.{IsInsertAt, IsInsertChange, IsPartsInsert}
use Rattle.odht_raw.specs.SearchEnds.{IsEnd}
use Rattle.odht_raw.specs.SearchResults.{answer}
use Rattle.odht_raw.proofs.lemmas.PlainSearch.{plain-end}
use Rattle.odht_raw.proofs.lemmas.SearchedParts.{former, low}
use Rattle.odht_raw.proofs.raw_table.plain.plain_insert.Given.{Over}
use Rattle.odht_raw.proofs.raw_table.plain.plain_insert.Goals.{After-insert_at, After-plain_search-end}
use Rattle.odht_raw.proofs.raw_table.plain.plain_insert.Goals as goal

abbrev format : Over → Format
format g = format_of g.K.ByteArray.LEN g.V.ByteArray.LEN g.H.HashFn.hash

-- where the search ends
end_of : (g : Over) (c : After-plain_search-end g)
    → IsEnd (format g) (stored_in c.args.entries.now c.args.control.now) c.args.control.now (g.K.ByteArray.bytes c.args.key) c.plain_search-end.result
end_of g c =
    let end = rw c.slot_count_of-slots.ensures at (rw c.new-stored.ensures at c.plain_search-end.ensures.slot) in
    let ctrl = c.args.control.now in
    plain-end (format g) (stored_in c.args.entries.now ctrl) ctrl (g.K.ByteArray.bytes c.args.key) c.plain_search-end.result (omega (arith, c.requires.slots.least)) end

pub typed_value_at-former-requires-clause-slot : goal.typed_value_at-former-requires-clause-slot
typed_value_at-former-requires-clause-slot g c κs within =
    low _ _ g.H.HashFn.hash c.args.entries.now c.args.control.now _ c.read_parts-parts.ensures (g.K.ByteArray.bytes c.args.key) _
    (end_of g (goal.at.typed_value_at-former-requires-clause-slot g c).After-plain_search-end)

pub typed_value_at-former-requires-clause-len : goal.typed_value_at-former-requires-clause-len
typed_value_at-former-requires-clause-len g c κs within = ap (λ (S : DynParts). S.value_len) c.read_parts-parts.ensures

pub insert_at-requires-clause-end : goal.insert_at-requires-clause-end
insert_at-requires-clause-end g c =
    let F = format g in
    let ctrl = c.args.control.now in
    let end = end_of g (goal.at.insert_at-requires-clause-end g c).After-plain_search-end in
    let key = c.as_slice-key.ensures.value in
    record {
      end = record {
        slot = subst (λ k. IsEnd F (stored_in c.args.entries.now ctrl) ctrl k c.plain_search-end.result) (sym key) end;
        earlier = λ none. absurd (omega (arith, none));
      };
      tag = c.tag_of.ensures ∙ ap (λ h. h / 2 ^ 25) (c.hash-hash.ensures ∙ ap g.H.HashFn.hash (c.as_slice.ensures.value ∙ sym key));
    }

-- what the insert did with the bytes of key and value
module _ (g : Over) (c : After-insert_at g) where
  abbrev read : Pair
  read = record { key = c.as_slice-key.result.now; value = c.as_slice-value.result.now }

  same : read ≡ record { key = g.K.ByteArray.bytes c.args.key; value = g.V.ByteArray.bytes c.args.value }
  same = λ i. record { key = c.as_slice-key.ensures.value i; value = c.as_slice-value.ensures.value i }

  inserted : IsInsertAt (format g) g.V.ByteArray.of_bytes (λ P. c.plain_search-end.result ≡ answer (format g) P.cells c.as_slice-key.result.now)
      (c.args.entries.now, c.args.control.now) read c.insert_at.result (c.insert_at.new.entries, c.insert_at.new.control)
  inserted =
      c.insert_at.ensures g.V.ByteArray.of_bytes
      (former _ _ g.H.HashFn.hash c.args.entries.now c.args.control.now _ c.read_parts-parts.ensures g.V.ByteArray.of_bytes c.plain_search-end.result c.typed_value_at-former.result c.typed_value_at-former.ensures)

pub returns-clause-placed : goal.returns-clause-placed
returns-clause-placed g c P h =
    let at = (goal.at.returns-clause-placed g c).After-insert_at in
    let F = format g in
    let known = rw c.slot_count_of-slots.ensures at (rw c.new-stored.ensures at c.plain_search-end.ensures) in
    subst (λ (p : Pair). IsPartsInsert F g.V.ByteArray.of_bytes P p c.insert_at.result c.insert_at.new.entries c.insert_at.new.control) (same g at)
    ((inserted g at).placed P h (known.on_placed P h ∙ ap (answer F P.cells) (sym c.as_slice-key.ensures.value)))

pub returns-clause-any : goal.returns-clause-any
returns-clause-any g c =
    let at = (goal.at.returns-clause-any g c).After-insert_at in
    subst (λ (p : Pair). IsInsertChange (format g) g.V.ByteArray.of_bytes c.args.entries.now c.args.control.now p c.insert_at.result c.insert_at.new.entries c.insert_at.new.control) (same g at)
    (inserted g at).any
