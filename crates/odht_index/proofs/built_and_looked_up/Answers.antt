use Rattle.std.proofs.Common.{sym, subst, ◌∙◌}
use Rattle.odht.specs.LastValues.{IsLastValue}
use Rattle.odht_index.proofs.built_and_looked_up.Goals as goal

pub returns-clause-ok : goal.returns-clause-ok
returns-clause-ok c =
    let built = c.in_ok-bytes.ensures.last_numbers in
    let same = c.in_ok-index.ensures.ok ∙ c.as_slice.ensures.value in
    let answer = c.lookup.ensures.on_valid built.table (record { valid = built.image.valid; bytes = same ∙ built.image.bytes }) in
    subst (IsLastValue c.args.pairs.now c.args.path.now) (sym answer) (c.keys_have_last_values.ensures built.table built.maps)
