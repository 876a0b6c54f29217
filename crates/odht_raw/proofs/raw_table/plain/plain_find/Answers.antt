use Rattle.std.proofs.Common.{◌∙◌, sym, ap, Some}
use Rattle.std.specs.Prelude.{option_map}
use Rattle.odht_raw.proofs.lemmas.Lookups.{answer-Found, answer-Free, answer-Neither}
use Rattle.odht_raw.proofs.lemmas.Inserts.{found_value}
use Rattle.odht_raw.proofs.raw_table.plain.plain_find.Goals as goal

pub returns-in-Found : goal.returns-in-Found
returns-in-Found g c = record {
  on_any = (c.in-Found.slot, c.in-Found.ensures.slot.0, c.in-Found.ensures.slot.1, c.get.ensures.value);
  on_placed = λ P h.
      let at = answer-Found _ P _ h.placed c.in-Found.slot (c.in-Found.ensures.on_placed P h) in
      ap Some (c.get.ensures.value ∙ ap g.V.ByteArray.of_bytes (found_value _ P _ _ h _ c.in-Found.slot at)) ∙ sym (ap (option_map g.V.ByteArray.of_bytes) at.value);
}

pub returns-in-Free : goal.returns-in-Free
returns-in-Free g c = record { on_any = tt; on_placed = λ P h. sym (ap (option_map g.V.ByteArray.of_bytes) (answer-Free _ P _ h.placed _ (c.in-Free.ensures.on_placed P h)).value) }

pub returns-in-Neither : goal.returns-in-Neither
returns-in-Neither g c = record { on_any = tt; on_placed = λ P h. sym (ap (option_map g.V.ByteArray.of_bytes) (answer-Neither _ P _ h.placed (c.in-Neither.ensures.on_placed P h)).value) }
