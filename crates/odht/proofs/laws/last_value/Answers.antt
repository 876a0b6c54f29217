use Rattle.std.proofs.Common.{sym, subst}
use Rattle.odht.specs.LastValues.{IsLastValue}
use Rattle.odht.proofs.laws.last_value.Goals as goal

pub returns : goal.returns
returns g c = subst (IsLastValue c.args.items.now c.args.key.now) (sym c.get.ensures) (c.keys_have_last_values.ensures c.args.table.now c.requires)
