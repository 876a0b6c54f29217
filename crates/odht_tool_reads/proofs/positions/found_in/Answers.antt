use Rattle.std.proofs.Common.{rules, arith, ◌≡◌, ◌∙◌, ℕ, List, None, Ok, Err, IfSome, length, ap, subst, sym}
use Rattle.std.specs.Prelude.{IfErr, unwrap_or}
use Rattle.odht_base.specs.Bytes.{bytes_at}
use Rattle.odht_tool_core.specs.AnyShapes.{any_formed, read_any}
use Rattle.odht_tool_reads.specs.Positions.{IsNamed, len_by, table_read}
use Rattle.odht_tool_reads.proofs.FileAnswers.{named_shape}
use Rattle.odht_tool_reads.proofs.positions.found_in.Goals as goal

-- the shape that the header shows is that of the table
pub returns-clause-given : goal.returns-clause-given
returns-clause-given g c B h all =
    let a = c.args.asked.now in
    let start = c.in-Some.start in
    let read = c.in-Some.ensures in
    let begun = read.given B h (omega (arith, all)) in
    let T : List ℕ = bytes_at B start.at start.len in
    let head : start.header ≡ bytes_at B (unwrap_or a.at 0) 32 = begun.header ∙ ap (λ a. bytes_at B a 32) read.at in
    let long : start.len ≡ len_by a.at (length B) (bytes_at B (unwrap_or a.at 0) 32) =
    read.len ∙ (λ j. len_by a.at (sym all j) (head j)) in
    let table : T ≡ table_read B a.at = λ j. bytes_at B (read.at j) (long j) in
    let name = c.in-Some-2.name in
    let named : IsNamed T a.hash a.kinds.hash name = subst (λ o. IfSome o (IsNamed T a.hash a.kinds.hash)) c.in-Some-2.is (c.in_ok-name.ensures.given B h begun) in
    let found = c.in-Ok.found in
    let formed = named_shape B start begun read.long a.hash name a.kinds named found (sym c.in-Ok.is ∙ c.read_any.ensures.forms) in
    record {
      held = begun.held;
      table = table;
      named = name;
      is = subst (λ (X : List ℕ). IsNamed X a.hash a.kinds.hash name) table named;
      shape = found.0;
      types = c.types.ensures;
      formed = subst (λ (X : List ℕ). read_any X name a.kinds ≡ Ok found) table formed;
    }

-- where slots fit no hash function the table has no shape
pub returns-in_err-name-clause-unfit : goal.returns-in_err-name-clause-unfit
returns-in_err-name-clause-unfit g c B h all =
    let a = c.args.asked.now in
    let start = c.in-Some.start in
    let read = c.in-Some.ensures in
    let begun = read.given B h (omega (arith, all)) in
    let T : List ℕ = bytes_at B start.at start.len in
    let head : start.header ≡ bytes_at B (unwrap_or a.at 0) 32 = begun.header ∙ ap (λ a. bytes_at B a 32) read.at in
    let long : start.len ≡ len_by a.at (length B) (bytes_at B (unwrap_or a.at 0) 32) =
    read.len ∙ (λ j. len_by a.at (sym all j) (head j)) in
    let table : T ≡ table_read B a.at = λ j. bytes_at B (read.at j) (long j) in
    let x = c.in_err-name.field-0.0 in
    let failed : c.from_residual.result ≡ Err x = search rules in
    let none = c.in_err-name.ensures.unfit B h begun in
    subst (λ r. IfErr r (λ f. (a.hash ≡ None) × (read_any (table_read B a.at) None a.kinds ≡ Err f))) (sym failed)
    (none.0, subst (λ (X : List ℕ). read_any X None a.kinds ≡ Err x) table (ap (any_formed a.kinds) none.1))
