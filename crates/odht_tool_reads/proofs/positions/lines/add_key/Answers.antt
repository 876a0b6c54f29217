use Rattle.std.proofs.Common.{◌∙◌, Some, ap, subst}
use Rattle.odht_tool_core.specs.DynTexts.{IsDynamicOf, dynamic_wanted}
use Rattle.odht_tool_core.specs.Keys.{IsNextKey, IsNoKeyLine}
use Rattle.odht_tool_core.specs.Misreads.{misread_text}
use Rattle.odht_tool_core.specs.declared.failure.LineFault.TheVariants.{Key}
use Rattle.odht_tool_reads.proofs.positions.lines.add_key.Goals as goal

-- the line that was read is no key, and the message tells it
pub returns-in_ok-message-in-NoKey-clause-err : goal.returns-in_ok-message-in-NoKey-clause-err
returns-in_ok-message-in-NoKey-clause-err g c =
    let key = c.args.forms.key in
    let line : IsNoKeyLine (IsDynamicOf key) (g.I.Read.remaining c.args.input.now) (g.I.Read.remaining c.key_of_line.new.input) c.key_of_line.new.line.items =
    (subst (IsNextKey (IsDynamicOf key) (g.I.Read.remaining c.args.input.now) (g.I.Read.remaining c.key_of_line.new.input) c.key_of_line.new.line.items c.args.keys.now c.key_of_line.new.keys) c.in-NoKey.is c.in_ok-key_of_line.ensures.next).1 in
    record {
      then = line.0;
      line = c.key_of_line.new.line.items;
      next = line.1;
      fault = line.2;
      more = line.3.0;
      misread = c.in_ok-message-in-NoKey.ensures ∙ ap (misread_text (Some c.args.number) Key (dynamic_wanted key)) c.as_slice-line.ensures.value;
    }
