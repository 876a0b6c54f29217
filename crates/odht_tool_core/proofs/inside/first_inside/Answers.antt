use Rattle.std.proofs.Common.{◌≡◌, ◌∙◌, ℕ, List, [], ◌∷◌, true, Option, inr, sym, subst, rules}
use Rattle.std.specs.List.{slice_get}
use Rattle.odht_tool_core.specs.Finds.{AreTables}
use Rattle.odht_tool_core.specs.Insides.{IsFirstInside, is_foreign}
use Rattle.odht_tool_core.proofs.inside.first_inside.Goals as goal

-- the first of all tables
first_of : (B ts : List ℕ) (o : Option ℕ) → is_foreign B ≡ true → AreTables B 0 ts → slice_get ts 0 ≡ o → IsFirstInside B o
first_of B [] o f h e = subst (IsFirstInside B) e (inr h)
first_of B (t ∷ ts) o f h e = subst (IsFirstInside B) e (f, (ts, h))

pub returns-clause-ok : goal.returns-clause-ok
returns-clause-ok c =
    let B = c.args.bytes.now in
    let foreign : is_foreign B ≡ true = search rules in
    let tables : AreTables B 0 c.as_slice.result.now = subst (AreTables B 0) (search rules) c.in_ok-tables.ensures.ok in
    first_of B c.as_slice.result.now c.copied.result foreign tables (sym c.first.ensures.value ∙ sym c.copied.ensures)
