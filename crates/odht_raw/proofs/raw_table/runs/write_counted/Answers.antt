use Rattle.std.proofs.Common.{◌≡◌, ◌∙◌, Bool, true, false, ℕ, List, Option, Some, refl, sym, ap}
use Rattle.std.specs.Bool.{then_some}
use Rattle.std.specs.Prelude.{is_none}
use Rattle.odht_raw.specs.Words.{Format, format_of, Pair, Table}
use Rattle.odht_raw.specs.Formers.{answered, former_of, write_result}
use Rattle.odht_raw.specs.Steps.{adds, IsCountedStep, IsStepWhere}
use Rattle.odht_raw.specs.declared.raw_table.search_result.Search.{Search}
use Rattle.odht_raw.proofs.raw_table.runs.write_counted.Given.{Over}
use Rattle.odht_raw.proofs.raw_table.runs.write_counted.Goals as goal

-- what is told of a write where the search ended: it adds an entry where there is no value before
told_of : (F : Format) (es : List ℕ) (end : Search) (w b : Bool) → b ≡ is_none (former_of F es end) → then_some w b ≡ adds (answered F es end (write_result w))
told_of F es end true b is = ap Some is
told_of F es end false b is = refl

counted : (A : Table → Type 0) (F : Format) (m : ℕ) (t : List ℕ × List ℕ) (p : Pair) (t' : List ℕ × List ℕ) (end : Search) (w b : Bool) (r : Option Bool)
    → IsStepWhere A F (λ x. x) m t p (answered F t.0 end (write_result w)) t' → b ≡ is_none (former_of F t.0 end) → r ≡ then_some w b → IsCountedStep A F m t p r t'
counted A F m t p t' end w b r step is told = record { answer = answered F t.0 end (write_result w); told = told ∙ told_of F t.0 end w b is; step = step }

-- whether there is a value where the search ended
abbrev is_new : (g : Over) → g.row.L.Denot → List ℕ → Search → Bool
is_new g lengths es end = is_none (former_of (format_of (g.L.Lengths.key_len lengths) (g.L.Lengths.value_len lengths) g.H.HashFn.hash) es end)

pub returns-in-Found-clause-step : goal.returns-in-Found-clause-step
returns-in-Found-clause-step g c = counted _ _ _ _ _ _ _ _ _ _ c.write_at_end-ok.ensures.step (ap (is_new g c.args.lengths c.args.entries.now) (sym c.in-Found.is)) c.then_some.ensures

pub returns-then-not-write_at_end-clause-step : goal.returns-then-not-write_at_end-clause-step
returns-then-not-write_at_end-clause-step g c = counted _ _ _ _ _ _ _ _ _ _ c.write_at_end.ensures.step (ap (is_new g c.args.lengths c.args.entries.now) (sym c.in-Free.is)) (ap (λ w. then_some w true) (sym c.if-not-write_at_end.true))

pub returns-else-not-write_at_end-clause-step : goal.returns-else-not-write_at_end-clause-step
returns-else-not-write_at_end-clause-step g c = counted _ _ _ _ _ _ _ _ _ _ c.write_at_end.ensures.step (ap (is_new g c.args.lengths c.args.entries.now) (sym c.in-Free.is)) (ap (λ w. then_some w true) (sym c.if-not-write_at_end.false))

pub returns-in-Neither-clause-step : goal.returns-in-Neither-clause-step
returns-in-Neither-clause-step g c = counted _ _ _ _ _ _ _ _ _ _ c.write_at_end-ok-in-Neither.ensures.step (ap (is_new g c.args.lengths c.args.entries.now) (sym c.in-Neither.is)) c.then_some-in-Neither.ensures
