use Rattle.std.proofs.Common.{◌∙◌, sym, ap, subst}
use Rattle.std.specs.Prelude.{IfOk}
use Rattle.odht_base.specs.Format.{Format}
use Rattle.odht_base.specs.Valid.{IsValidBytes}
use Rattle.odht.specs.Tables.{OfTable}
use Rattle.odht_tool_writes.specs.Deletes.{IsLeft}
use Rattle.odht_tool_writes.proofs.Deletions.{format_as}
use Rattle.odht_tool_core.specs.ReadyShapes.{typed_len}
use Rattle.odht_tool_core.specs.declared.shapes.Hash.TheVariants.{Fx, Unhash, Xxh64}
use Rattle.odht_tool_writes.proofs.commands.delete.deleted_for.Goals as goal

pub returns-in-Fx-clause-ok : goal.returns-in-Fx-clause-ok
returns-in-Fx-clause-ok g c =
    let format = format_as c.args.shape c.lengths_of-layout.result.key_len c.lengths_of-layout.result.value_len Fx (c.lengths_of-layout.ensures.key ∙ ap typed_len c.key.ensures) (c.lengths_of-layout.ensures.value ∙ ap typed_len c.value.ensures) (sym c.hash.ensures ∙ c.in-Fx.is) in
    subst (λ (F : Format). OfTable F c.args.bytes.now (λ P. IfOk c.delete_lengths.result (λ x. IsLeft F c.args.named.now.keys.now P x.0.items x.1))) format c.delete_lengths.ensures.ok

pub delete_lengths-requires-in-Unhash-clause-valid : goal.delete_lengths-requires-in-Unhash-clause-valid
delete_lengths-requires-in-Unhash-clause-valid g c =
    let format = format_as c.args.shape c.lengths_of-layout.result.key_len c.lengths_of-layout.result.value_len Unhash (c.lengths_of-layout.ensures.key ∙ ap typed_len c.key.ensures) (c.lengths_of-layout.ensures.value ∙ ap typed_len c.value.ensures) (sym c.hash.ensures ∙ c.in-Unhash.is) in
    subst (λ (F : Format). IsValidBytes F c.args.bytes.now) (sym format) c.requires.valid

pub delete_lengths-requires-in-Xxh64-clause-valid : goal.delete_lengths-requires-in-Xxh64-clause-valid
delete_lengths-requires-in-Xxh64-clause-valid g c =
    let format = format_as c.args.shape c.lengths_of-layout.result.key_len c.lengths_of-layout.result.value_len Xxh64 (c.lengths_of-layout.ensures.key ∙ ap typed_len c.key.ensures) (c.lengths_of-layout.ensures.value ∙ ap typed_len c.value.ensures) (sym c.hash.ensures ∙ c.in-Xxh64.is) in
    subst (λ (F : Format). IsValidBytes F c.args.bytes.now) (sym format) c.requires.valid

pub returns-in-Unhash-clause-ok : goal.returns-in-Unhash-clause-ok
returns-in-Unhash-clause-ok g c =
    let format = format_as c.args.shape c.lengths_of-layout.result.key_len c.lengths_of-layout.result.value_len Unhash (c.lengths_of-layout.ensures.key ∙ ap typed_len c.key.ensures) (c.lengths_of-layout.ensures.value ∙ ap typed_len c.value.ensures) (sym c.hash.ensures ∙ c.in-Unhash.is) in
    subst (λ (F : Format). OfTable F c.args.bytes.now (λ P. IfOk c.delete_lengths-in-Unhash.result (λ x. IsLeft F c.args.named.now.keys.now P x.0.items x.1))) format c.delete_lengths-in-Unhash.ensures.ok

pub returns-in-Xxh64-clause-ok : goal.returns-in-Xxh64-clause-ok
returns-in-Xxh64-clause-ok g c =
    let format = format_as c.args.shape c.lengths_of-layout.result.key_len c.lengths_of-layout.result.value_len Xxh64 (c.lengths_of-layout.ensures.key ∙ ap typed_len c.key.ensures) (c.lengths_of-layout.ensures.value ∙ ap typed_len c.value.ensures) (sym c.hash.ensures ∙ c.in-Xxh64.is) in
    subst (λ (F : Format). OfTable F c.args.bytes.now (λ P. IfOk c.delete_lengths-in-Xxh64.result (λ x. IsLeft F c.args.named.now.keys.now P x.0.items x.1))) format c.delete_lengths-in-Xxh64.ensures.ok
