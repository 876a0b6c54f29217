use Rattle.std.proofs.Common.{map, IfOk, subst, ◌∙◌, ap}
use Rattle.std.specs.Prelude.{IfErr, string_bytes}
use Rattle.std.specs.List.{AllZip}
use Rattle.odht_tool_core.specs.Forms.{bytes_form}
use Rattle.odht_tool_core.specs.Keys.{TellsFault}
use Rattle.odht_tool_core.specs.DynTexts.{IsDynamicOf, dynamic_wanted}
use Rattle.odht_tool_core.specs.declared.forms.Form.{Form}
use Rattle.odht_tool_writes.proofs.KeyLines.{either}
use Rattle.odht_tool_writes.specs.Deletes.{are_keys, is_fault}
use Rattle.odht_tool_writes.proofs.commands.delete.keys_of_words.Goals as goal

pub returns : goal.returns
returns c =
    let of = c.of.ensures ∙ ap (bytes_form c.args.form) c.key-key.ensures in
    let ws = map string_bytes c.args.words.now in
    let r = c.parse_keys.result in
    either r (λ keys. are_keys c.args.form ws c.args.shape keys) (is_fault c.args.form ws c.args.shape)
    (subst (λ (f : Form). IfOk r (λ keys. AllZip (IsDynamicOf f) ws keys)) of c.parse_keys.ensures.keys)
    (subst (λ (f : Form). IfErr r (TellsFault (IsDynamicOf f) (dynamic_wanted f) ws)) of c.parse_keys.ensures.fault)
