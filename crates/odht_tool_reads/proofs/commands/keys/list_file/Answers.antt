use Rattle.std.proofs.Common.{rules, ◌≡◌, ◌∙◌, Err, sym, subst}
use Rattle.odht_base.specs.Format.{Format}
use Rattle.odht_tool_reads.specs.Listings.{list_of_forms, listed}
use Rattle.odht_tool_core.specs.AnyShapes.{read_any}
use Rattle.odht_tool_core.specs.Endings.{IsDone}
use Rattle.odht_tool_core.specs.declared.shapes.Hash.TheVariants.{Fx, Unhash, Xxh64}
use Rattle.odht_tool_core.specs.declared.typed.Texts.{Texts}
use Rattle.odht_tool_reads.proofs.Shaped.{table_of, without_shape, with_shape}
use Rattle.odht_tool_reads.proofs.commands.keys.list_file.Goals as goal

pub returns-in_err-found : goal.returns-in_err-found
returns-in_err-found g c =
    let B = c.args.bytes.now in
    let x = c.in_err-found.field-0.0 in
    let old = g.O.Write.contents c.args.output.now in
    let failed : c.from_residual.result ≡ Err x = search rules in
    rw failed (without_shape (read_any B c.args.hash c.args.kinds) (list_of_forms c.args.side B c.args.is_json) old x (sym c.in_err-found.was ∙ c.read_any.ensures.forms))

pub returns-in-Fx : goal.returns-in-Fx
returns-in-Fx g c =
    let B = c.args.bytes.now in
    let old = g.O.Write.contents c.args.output.now in
    let new = g.O.Write.contents c.list_table.new.output in
    let found = c.in_ok-found.found in
    let table = table_of found.0 found.1 c.of-texts.result Fx c.of-texts.ensures (sym c.hash.ensures ∙ c.in-Fx.is) in
    with_shape (read_any B c.args.hash c.args.kinds) (list_of_forms c.args.side B c.args.is_json) found old new _ (sym c.in_ok-found.was ∙ c.read_any.ensures.forms)
    (subst (λ (x : Format × Texts). IsDone (listed c.args.side x.0 x.1 B c.args.is_json) old new c.list_table.result) table c.list_table.ensures)

pub returns-in-Unhash : goal.returns-in-Unhash
returns-in-Unhash g c =
    let B = c.args.bytes.now in
    let old = g.O.Write.contents c.args.output.now in
    let new = g.O.Write.contents c.list_table-in-Unhash.new.output in
    let found = c.in_ok-found.found in
    let table = table_of found.0 found.1 c.of-texts.result Unhash c.of-texts.ensures (sym c.hash.ensures ∙ c.in-Unhash.is) in
    with_shape (read_any B c.args.hash c.args.kinds) (list_of_forms c.args.side B c.args.is_json) found old new _ (sym c.in_ok-found.was ∙ c.read_any.ensures.forms)
    (subst (λ (x : Format × Texts). IsDone (listed c.args.side x.0 x.1 B c.args.is_json) old new c.list_table-in-Unhash.result) table c.list_table-in-Unhash.ensures)

pub returns-in-Xxh64 : goal.returns-in-Xxh64
returns-in-Xxh64 g c =
    let B = c.args.bytes.now in
    let old = g.O.Write.contents c.args.output.now in
    let new = g.O.Write.contents c.list_table-in-Xxh64.new.output in
    let found = c.in_ok-found.found in
    let table = table_of found.0 found.1 c.of-texts.result Xxh64 c.of-texts.ensures (sym c.hash.ensures ∙ c.in-Xxh64.is) in
    with_shape (read_any B c.args.hash c.args.kinds) (list_of_forms c.args.side B c.args.is_json) found old new _ (sym c.in_ok-found.was ∙ c.read_any.ensures.forms)
    (subst (λ (x : Format × Texts). IsDone (listed c.args.side x.0 x.1 B c.args.is_json) old new c.list_table-in-Xxh64.result) table c.list_table-in-Xxh64.ensures)
