use Rattle.std.proofs.Common.{◌≡◌, ◌∙◌, ◌-◌, ◌<◌, ℕ, List, Option, Result, Ok, Err, arith, sym, ap, subst, length}
use Rattle.std.specs.Prelude.{option_map}
use Rattle.odht_raw.specs.Words.{Error, Format, format_of, Full, Pair}
use Rattle.odht_header.proofs.lemmas.Formats.{IsFormat-format_of}
use Rattle.odht_raw.specs.Formers.{former_of, with_former, write_result}
use Rattle.odht_raw.specs.PartsInserts.{IsInsertAt}
use Rattle.odht_raw.specs.SearchResults.{answer}
use Rattle.odht_raw.specs.Steps.{IsStepWhere}
use Rattle.odht_raw.proofs.lemmas.Formers.{decoded_step}
use Rattle.odht_raw.proofs.lemmas.Steps.{step-change, step-insert}
use Rattle.odht_raw.proofs.raw_table.writes.insert_at.Given.{Over}
use Rattle.odht_raw.proofs.raw_table.writes.insert_at.Goals.{After-write_at_end}
use Rattle.odht_raw.proofs.raw_table.writes.insert_at.Goals as goal

-- what the write did, with the value that was there in the answer
inserted : (g : Over) (c : After-write_at_end g) (f : List ℕ → g.row.T.Denot) → let F = format_of (g.L.Lengths.key_len c.args.lengths) (g.L.Lengths.value_len c.args.lengths) g.H.HashFn.hash in
    c.args.former ≡ option_map f (former_of F c.args.entries.now c.args.end.0)
    → (r : Result (Option (g.row.T.Denot)) Error) → with_former c.args.former (write_result c.write_at_end.result) ≡ r
    → IsInsertAt F f (λ P. c.args.end.0 ≡ answer F P.cells c.args.key.now) (c.args.entries.now, c.args.control.now) (record { key = c.args.key.now; value = c.args.value.now }) r (c.write_at_end.new.entries, c.write_at_end.new.control)
inserted g c f former r is =
    let F : Format = format_of (g.L.Lengths.key_len c.args.lengths) (g.L.Lengths.value_len c.args.lengths) g.H.HashFn.hash in
    let p : Pair = record { key = c.args.key.now; value = c.args.value.now } in
    let es = c.args.entries.now in
    let ctrl = c.args.control.now in
    let es' = c.write_at_end.new.entries in
    let ctrl' = c.write_at_end.new.control in
    let wrote = write_result c.write_at_end.result in
    let some : 0 < 18446744073709551615 = omega arith in
    let answered : with_former (option_map f (former_of F es c.args.end.0)) wrote ≡ r = ap (λ o. with_former o wrote) (sym former) ∙ is in
    let step : IsStepWhere (λ P. c.args.end.0 ≡ answer F P.cells p.key) F f 18446744073709551615 (es, ctrl) p r (es', ctrl') =
    subst (λ a. IsStepWhere (λ P. c.args.end.0 ≡ answer F P.cells p.key) F f 18446744073709551615 (es, ctrl) p a (es', ctrl')) answered
    (decoded_step f (λ P. c.args.end.0 ≡ answer F P.cells p.key) F 18446744073709551615 (es, ctrl) p (former_of F es c.args.end.0) wrote (es', ctrl') c.write_at_end.ensures.step) in
    let lengths = c.requires.lengths in
    let fit = IsFormat-format_of _ _ _ _ lengths.pair.key lengths.pair.value lengths.pair.hashes g.met.H.HashFn.fits in
    record {
      placed = λ P h at. step-insert F f 18446744073709551615 p r some P es ctrl es' ctrl' (length ctrl - 16) fit (omega (arith, lengths.slots.least)) h (step.placed P h at) step.any;
      any = step-change F f 18446744073709551615 p r some es ctrl es' ctrl' step.any;
    }

pub returns-then-write_at_end : goal.returns-then-write_at_end
returns-then-write_at_end g c f former =
    inserted g (goal.at.returns-then-write_at_end g c).After-write_at_end f former (Ok c.args.former) (ap (λ w. with_former c.args.former (write_result w)) c.if-write_at_end.true)

pub returns-else-write_at_end : goal.returns-else-write_at_end
returns-else-write_at_end g c f former =
    inserted g (goal.at.returns-else-write_at_end g c).After-write_at_end f former (Err Full) (ap (λ w. with_former c.args.former (write_result w)) c.if-write_at_end.false)
