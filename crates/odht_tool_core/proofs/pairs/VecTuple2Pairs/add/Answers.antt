use Rattle.std.proofs.Common.{refl, subst}
use Rattle.odht_tool_core.specs.Keys.{IsReadAs}
use Rattle.odht_tool_core.specs.declared.forms.Form.{Form}
use Rattle.odht_tool_core.proofs.pairs.VecTuple2Pairs.add.Goals as goal

-- the pair is the last one
pub returns-in-Ok : goal.returns-in-Ok
returns-in-Ok g c =
    let key = subst (λ (f : Form). IsReadAs (g.K.Text.is_word f) (g.K.Text.stands_for f) c.args.key.now c.in-Some.key) c.key.ensures (c.in-Some.ensures.some.0 refl, c.in-Some.ensures.value) in
    let value = subst (λ (f : Form). IsReadAs (g.V.Text.is_word f) (g.V.Text.stands_for f) c.args.value.now c.in-Some-parse.value) c.value.ensures (c.in-Some-parse.ensures.some.0 refl, c.in-Some-parse.ensures.value) in
    ((c.in-Some.key, c.in-Some-parse.value), c.in-Ok.ensures.items, key, value)
