use Rattle.std.proofs.Common.{subst}
use Rattle.std.specs.Prelude.{IfOk}
use Rattle.odht_tool_core.specs.Keys.{IsReadAs, IsNextKey}
use Rattle.odht_tool_reads.proofs.lookups.key_of_line.Goals as goal

-- the form that is handed on is that of keys
pub returns-clause-next : goal.returns-clause-next
returns-clause-next g c =
    subst (λ f. IfOk c.take_key.result (IsNextKey (IsReadAs (g.L.Key.Text.is_word f) (g.L.Key.Text.stands_for f)) (g.I.Read.remaining c.args.input.now) (g.I.Read.remaining c.take_key.new.input) c.take_key.new.line.items (g.L.Keys.items c.args.keys.now) (g.L.Keys.items c.take_key.new.keys))) c.key.ensures c.take_key.ensures.next
