use Rattle.std.proofs.Common.{◌∙◌, refl, sym, ap, subst}
use Rattle.std.specs.Prelude.{IfErr, IfOk}
use Rattle.odht_base.specs.Decoded.{header_count}
use Rattle.odht_base.specs.Format.{Format}
use Rattle.odht_base.specs.Valid.{IsValidBytes}
use Rattle.odht.specs.Tables.{OfTable}
use Rattle.odht_tool_writes.specs.Rebuilds.{IsNewFailure, IsRebuilt}
use Rattle.odht_tool_writes.proofs.NewTables.{both_formats}
use Rattle.odht_tool_core.specs.InfoNumbers.{least_key_len}
use Rattle.odht_tool_core.specs.ReadyShapes.{typed_len}
use Rattle.odht_tool_core.specs.declared.shapes.Hash.{Hash}
use Rattle.odht_tool_core.specs.declared.shapes.Hash.TheVariants.{Fx, Unhash, Xxh64}
use Rattle.odht_tool_writes.proofs.commands.rebuild.rebuilt_for.Goals as goal

pub returns-in-Fx-clause-ok : goal.returns-in-Fx-clause-ok
returns-in-Fx-clause-ok g c =
    let formats = both_formats c.args.shape c.size.result c.size-2.result Fx c.args.hash c.args.hash (c.size.ensures ∙ ap typed_len c.key.ensures) (c.size-2.ensures ∙ ap typed_len c.value.ensures)
    (sym c.hash.ensures ∙ c.in-Fx.is) refl in
    subst (λ (x : Format × (Hash × Format)). OfTable x.0 c.args.bytes.now (λ P. IfOk c.rebuilt_from.result (λ new. IsRebuilt x.1.1 c.args.percent P new.items))) formats c.rebuilt_from.ensures.ok

pub returns-in-Fx-clause-err : goal.returns-in-Fx-clause-err
returns-in-Fx-clause-err g c =
    let formats = both_formats c.args.shape c.size.result c.size-2.result Fx c.args.hash c.args.hash (c.size.ensures ∙ ap typed_len c.key.ensures) (c.size-2.ensures ∙ ap typed_len c.value.ensures)
    (sym c.hash.ensures ∙ c.in-Fx.is) refl in
    subst (λ (x : Format × (Hash × Format)). IfErr c.rebuilt_from.result (IsNewFailure (least_key_len x.1.0) x.1.1 (header_count c.args.bytes.now) c.args.percent)) formats c.rebuilt_from.ensures.err

pub rebuilt_from-requires-in-Unhash-clause-valid : goal.rebuilt_from-requires-in-Unhash-clause-valid
rebuilt_from-requires-in-Unhash-clause-valid g c =
    let formats = both_formats c.args.shape c.size.result c.size-2.result Unhash c.args.hash c.args.hash (c.size.ensures ∙ ap typed_len c.key.ensures) (c.size-2.ensures ∙ ap typed_len c.value.ensures)
    (sym c.hash.ensures ∙ c.in-Unhash.is) refl in
    subst (λ (x : Format × (Hash × Format)). IsValidBytes x.0 c.args.bytes.now) (sym formats) c.requires.valid

pub returns-in-Unhash-clause-ok : goal.returns-in-Unhash-clause-ok
returns-in-Unhash-clause-ok g c =
    let formats = both_formats c.args.shape c.size.result c.size-2.result Unhash c.args.hash c.args.hash (c.size.ensures ∙ ap typed_len c.key.ensures) (c.size-2.ensures ∙ ap typed_len c.value.ensures)
    (sym c.hash.ensures ∙ c.in-Unhash.is) refl in
    subst (λ (x : Format × (Hash × Format)). OfTable x.0 c.args.bytes.now (λ P. IfOk c.rebuilt_from-in-Unhash.result (λ new. IsRebuilt x.1.1 c.args.percent P new.items))) formats c.rebuilt_from-in-Unhash.ensures.ok

pub returns-in-Unhash-clause-err : goal.returns-in-Unhash-clause-err
returns-in-Unhash-clause-err g c =
    let formats = both_formats c.args.shape c.size.result c.size-2.result Unhash c.args.hash c.args.hash (c.size.ensures ∙ ap typed_len c.key.ensures) (c.size-2.ensures ∙ ap typed_len c.value.ensures)
    (sym c.hash.ensures ∙ c.in-Unhash.is) refl in
    subst (λ (x : Format × (Hash × Format)). IfErr c.rebuilt_from-in-Unhash.result (IsNewFailure (least_key_len x.1.0) x.1.1 (header_count c.args.bytes.now) c.args.percent)) formats c.rebuilt_from-in-Unhash.ensures.err

pub rebuilt_from-requires-in-Xxh64-clause-valid : goal.rebuilt_from-requires-in-Xxh64-clause-valid
rebuilt_from-requires-in-Xxh64-clause-valid g c =
    let formats = both_formats c.args.shape c.size.result c.size-2.result Xxh64 c.args.hash c.args.hash (c.size.ensures ∙ ap typed_len c.key.ensures) (c.size-2.ensures ∙ ap typed_len c.value.ensures)
    (sym c.hash.ensures ∙ c.in-Xxh64.is) refl in
    subst (λ (x : Format × (Hash × Format)). IsValidBytes x.0 c.args.bytes.now) (sym formats) c.requires.valid

pub returns-in-Xxh64-clause-ok : goal.returns-in-Xxh64-clause-ok
returns-in-Xxh64-clause-ok g c =
    let formats = both_formats c.args.shape c.size.result c.size-2.result Xxh64 c.args.hash c.args.hash (c.size.ensures ∙ ap typed_len c.key.ensures) (c.size-2.ensures ∙ ap typed_len c.value.ensures)
    (sym c.hash.ensures ∙ c.in-Xxh64.is) refl in
    subst (λ (x : Format × (Hash × Format)). OfTable x.0 c.args.bytes.now (λ P. IfOk c.rebuilt_from-in-Xxh64.result (λ new. IsRebuilt x.1.1 c.args.percent P new.items))) formats c.rebuilt_from-in-Xxh64.ensures.ok

pub returns-in-Xxh64-clause-err : goal.returns-in-Xxh64-clause-err
returns-in-Xxh64-clause-err g c =
    let formats = both_formats c.args.shape c.size.result c.size-2.result Xxh64 c.args.hash c.args.hash (c.size.ensures ∙ ap typed_len c.key.ensures) (c.size-2.ensures ∙ ap typed_len c.value.ensures)
    (sym c.hash.ensures ∙ c.in-Xxh64.is) refl in
    subst (λ (x : Format × (Hash × Format)). IfErr c.rebuilt_from-in-Xxh64.result (IsNewFailure (least_key_len x.1.0) x.1.1 (header_count c.args.bytes.now) c.args.percent)) formats c.rebuilt_from-in-Xxh64.ensures.err
