use Rattle.std.proofs.Common.{rules, arith, ℕ, List, ◌≡◌, ◌≤◌, ◌<◌, ◌+◌, ◌*◌, ◌-◌, length, subst, ◌∙◌, sym, ap, Option, Some, None, Result, Ok, Err, refl}
use Rattle.std.specs.Prelude.{option_map}
use Rattle.odht_raw.specs.Words.{entry_len, Error, Format, format_of, Full, IsPairOf, IsPartsOf, overwritten_at, Pair, slot_value, tag as key_tag, tagged}
use Rattle.odht_raw.proofs.lemmas.Below.{slot_within, written}
use Rattle.odht_raw.specs.Frame.{PartsFrame}
use Rattle.odht_raw.specs.Parts.{stored_in}
use Rattle.odht_raw.specs.Steps.{StepFrame}
use Rattle.odht_raw.specs.Formers.{former_of}
use Rattle.odht_raw.specs.SearchEnds.{IsAfter, IsEnd}
use Rattle.odht_raw.specs.declared.raw_table.search_result.Search.{Search}
use Rattle.odht_raw.specs.declared.raw_table.search_result.Search.TheVariants.{Found, Free}
use Rattle.odht_raw.proofs.lemmas.GroupSearches.{missing-free, missing-neither}
use Rattle.odht_raw.proofs.lemmas.Lookups.{answer-Found, answer-Free}
use Rattle.odht_raw.proofs.lemmas.Inserts.{found_value, found_key, found_parts, free_parts}
use Rattle.odht_raw.proofs.raw_table.writes.write_at_end.Goals as goal

-- a slot's entry lies within the bytes of the entries
within : (F : Format) (es ctrl : List ℕ) (i : ℕ) → length es ≡ (length ctrl - 16) * entry_len F → i < length ctrl - 16
    → i * entry_len F + entry_len F ≤ length es
within F es ctrl i long low = omega (arith, long, slot_within i (length ctrl - 16) (entry_len F) low)

-- a found slot is one of the slots
found_low : (F : Format) (es ctrl k : List ℕ) (r : Search) (i : ℕ) → r ≡ Found i
    → IsEnd F (stored_in es ctrl) ctrl k r → i < length ctrl - 16
found_low F es ctrl k r i is known = (subst (IsEnd F (stored_in es ctrl) ctrl k) is known).0

-- and so is a free one
free_low : (F : Format) (es ctrl k : List ℕ) (r : Search) (i : ℕ) → r ≡ Free i
    → IsEnd F (stored_in es ctrl) ctrl k r → i < length ctrl - 16
free_low F es ctrl k r i is known = (subst (IsEnd F (stored_in es ctrl) ctrl k) is known).0

pub write_slot-requires-clause-slot : goal.write_slot-requires-clause-slot
write_slot-requires-clause-slot g c =
    let F : Format = format_of (g.L.Lengths.key_len c.args.lengths) (g.L.Lengths.value_len c.args.lengths) g.H.HashFn.hash in
    rw c.requires.slots (free_low F c.args.entries.now c.args.control.now c.args.key.now c.args.end.0 c.in-Free.slot c.in-Free.is c.requires.end.end.slot)

pub returns-in-Found-clause-step : goal.returns-in-Found-clause-step
returns-in-Found-clause-step g c =
    let F : Format = format_of (g.L.Lengths.key_len c.args.lengths) (g.L.Lengths.value_len c.args.lengths) g.H.HashFn.hash in
    let p : Pair = record { key = c.args.key.now; value = c.args.value.now } in
    let es = c.args.entries.now in
    let ctrl = c.args.control.now in
    let slot = c.in-Found.slot in
    let old : former_of F es c.args.end.0 ≡ Some (slot_value F es slot) = ap (former_of F es) c.in-Found.is in
    let bytes : c.write_slice.new.all ≡ overwritten_at es (slot * entry_len F + F.key_len) p.value =
    c.write_slice.ensures ∙ (λ i. overwritten_at es (slot * c.entry_len.ensures i + c.key_len.ensures i) p.value) in
    record {
      placed = λ P h e. (
          let at = answer-Found F P p.key h.placed slot (sym c.in-Found.is ∙ e) in
          let fits : IsPairOf F p = record { key = found_key F P _ _ h p.key _ at; value = c.requires.value } in
          let parts : IsPartsOf F (written P slot p) c.write_slice.new.all ctrl =
          subst (λ (es : List ℕ). IsPartsOf F (written P slot p) es ctrl) (sym bytes) (found_parts F P _ _ h p.key slot p refl fits at) in
          let former = old ∙ ap Some (found_value F P _ _ h p.key slot at) ∙ sym (ap (option_map (λ (b : List ℕ). b)) at.value) in
          (former, (written P slot p, at.places p refl, subst (λ (es : List ℕ). IsPartsOf F (written P slot p) es ctrl) (search rules) parts)));
      any =
          let known = subst (IsEnd F (stored_in es ctrl) ctrl p.key) c.in-Found.is c.requires.end.end.slot in
          let answer : Result (Option (List ℕ)) Error = Ok (Some (slot_value F es slot)) in
          let framed : StepFrame F c.args.room es ctrl p answer c.write_slice.new.all ctrl =
          subst (λ (new : List ℕ). StepFrame F c.args.room es ctrl p answer new ctrl) (sym bytes)
          (StepFrame.framed answer (overwritten_at es (slot * entry_len F + F.key_len) p.value) ctrl (λ d. cc) (PartsFrame.overwrote slot known.0 known.1)) in
          record {
            frame = (answer, ap Ok old, subst (λ (new : List ℕ). StepFrame F c.args.room es ctrl p answer new ctrl) (search rules) framed);
            errors = record { only_full = tt; refused_control = tt; refused_entries = tt };
          };
    }

pub returns-else-room-eq0-clause-step : goal.returns-else-room-eq0-clause-step
returns-else-room-eq0-clause-step g c =
    let F : Format = format_of (g.L.Lengths.key_len c.args.lengths) (g.L.Lengths.value_len c.args.lengths) g.H.HashFn.hash in
    let p : Pair = record { key = c.args.key.now; value = c.args.value.now } in
    let es = c.args.entries.now in
    let ctrl = c.args.control.now in
    let slot = c.in-Free.slot in
    let none : former_of F es c.args.end.0 ≡ None = ap (former_of F es) c.in-Free.is in
    let control : c.write_slot.new.control ≡ tagged ctrl slot (key_tag F p.key) = c.write_slot.ensures.control ∙ ap (tagged ctrl slot) c.requires.end.tag in
    record {
      placed = λ P h e. (
          let at = answer-Free F P p.key h.placed slot (sym c.in-Free.is ∙ e) in
          let fits : IsPairOf F p = record { key = c.requires.key; value = c.requires.value } in
          let parts : IsPartsOf F (written P slot p) c.write_slot.new.entries c.write_slot.new.control =
          rw (control, c.write_slot.ensures.entries) (free_parts F P _ _ h p.key slot p refl fits at) in
          (none ∙ sym (ap (option_map (λ (b : List ℕ). b)) at.value), (written P slot p, at.places p refl, parts)));
      any =
          let known = subst (IsEnd F (stored_in es ctrl) ctrl p.key) c.in-Free.is c.requires.end.end.slot in
          let some : 0 < c.args.room = omega (arith, c.if-room-eq0.false) in
          let framed : StepFrame F c.args.room es ctrl p (Ok None) c.write_slot.new.entries c.write_slot.new.control =
          StepFrame.framed (Ok None) c.write_slot.new.entries c.write_slot.new.control (λ e. some) (rw (control, c.write_slot.ensures.entries) (PartsFrame.added slot known.0 known.1)) in
          record { frame = (Ok None, ap Ok none, framed); errors = record { only_full = tt; refused_control = tt; refused_entries = tt } };
    }

-- without room the search says what comes before its end
pub returns-then-room-eq0-clause-step : goal.returns-then-room-eq0-clause-step
returns-then-room-eq0-clause-step g c = record {
  placed = λ P h e. tt;
  any =
      let F : Format = format_of (g.L.Lengths.key_len c.args.lengths) (g.L.Lengths.value_len c.args.lengths) g.H.HashFn.hash in
      let k : List ℕ = c.args.key.now in
      let stored = stored_in c.args.entries.now c.args.control.now in
      let ctrl = c.args.control.now in
      let known = subst (IsEnd F stored ctrl k) c.in-Free.is c.requires.end.end.slot in
      let earlier = subst (IsAfter F stored ctrl k) c.in-Free.is (c.requires.end.end.earlier c.if-room-eq0.true) in
      record { frame = (Err Full, refl, StepFrame.no_room c.if-room-eq0.true (missing-free F stored ctrl k c.in-Free.slot known earlier)); errors = record { only_full = refl; refused_control = refl; refused_entries = refl } };
}

pub returns-in-Neither-clause-step : goal.returns-in-Neither-clause-step
returns-in-Neither-clause-step g c = record {
  placed = λ P h e. tt;
  any =
      let F : Format = format_of (g.L.Lengths.key_len c.args.lengths) (g.L.Lengths.value_len c.args.lengths) g.H.HashFn.hash in
      let k : List ℕ = c.args.key.now in
      let es = c.args.entries.now in
      let ctrl = c.args.control.now in
      let known = subst (IsEnd F (stored_in es ctrl) ctrl k) c.in-Neither.is c.requires.end.end.slot in
      let frame = StepFrame.framed (Err Full) es ctrl (λ e. cc) (PartsFrame.no_slot known.0 (missing-neither F (stored_in es ctrl) ctrl k known.1)) in
      record { frame = (Err Full, refl, frame); errors = record { only_full = refl; refused_control = refl; refused_entries = refl } };
}

pub returns-in-Found-clause-found : goal.returns-in-Found-clause-found
returns-in-Found-clause-found g c = rw c.in-Found.is refl

pub returns-then-room-eq0-clause-found : goal.returns-then-room-eq0-clause-found
returns-then-room-eq0-clause-found g c = rw c.in-Free.is tt

pub returns-else-room-eq0-clause-found : goal.returns-else-room-eq0-clause-found
returns-else-room-eq0-clause-found g c = rw c.in-Free.is tt

pub returns-in-Neither-clause-found : goal.returns-in-Neither-clause-found
returns-in-Neither-clause-found g c = rw c.in-Neither.is tt
