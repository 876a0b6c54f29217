use Rattle.std.proofs.Common.{◌≡◌, ◌∙◌, List, ℕ, Some, None, sym, ap}
use Rattle.std.specs.Prelude.{option_map}
use Rattle.odht_raw.specs.Words.{Format, IsPartsOf, map_of, Table}
use Rattle.odht_raw.specs.Finds.{IsFind}
use Rattle.odht_raw.specs.Parts.{TableParts}
use Rattle.odht_raw.proofs.lemmas.Lookups.{answer-Found, answer-Free, answer-Neither}
use Rattle.odht_raw.proofs.lemmas.Inserts.{found_value}
use Rattle.odht_raw.specs.DynParts.{parts_format}
use Rattle.odht_raw.proofs.raw_table.parts.Parts.value_at.Goals as goal

pub returns-in-Found-clause-found : goal.returns-in-Found-clause-found
returns-in-Found-clause-found g c k end =
    let F = parts_format c.args.self.now g.H.HashFn.hash in
    let f = λ (b : List ℕ). b in
    let there = rw c.in-Found.is at end.slot in
    let value = c.value.ensures.value in
    record {
      on_placed = λ P h.
          let at = answer-Found F P k h.placed c.in-Found.slot (sym c.in-Found.is ∙ end.on_placed P h) in
          ap Some (value ∙ ap f (found_value F P _ _ h k c.in-Found.slot at)) ∙ sym (ap (option_map f) at.value);
      on_any = (c.in-Found.slot, there.0, there.1, value);
    }

-- where the key is absent there is no value
absent : (F : Format) (T : TableParts) (k : List ℕ) → ((P : Table) → IsPartsOf F P T.entries.bytes T.control → map_of P k ≡ None) → IsFind F (λ b. b) T k None
absent F T k none = record { on_placed = λ P h. sym (ap (option_map (λ (b : List ℕ). b)) (none P h)); on_any = tt }

pub returns-in-Free-clause-found : goal.returns-in-Free-clause-found
returns-in-Free-clause-found g c k end =
    let F = parts_format c.args.self.now g.H.HashFn.hash in
    absent F c.args.self.now.parts k (λ P h. (answer-Free F P k h.placed c.in-Free.field-0 (sym c.in-Free.is ∙ end.on_placed P h)).value)

pub returns-in-Neither-clause-found : goal.returns-in-Neither-clause-found
returns-in-Neither-clause-found g c k end =
    let F = parts_format c.args.self.now g.H.HashFn.hash in
    absent F c.args.self.now.parts k (λ P h. (answer-Neither F P k h.placed (sym c.in-Neither.is ∙ end.on_placed P h)).value)
