use Rattle.std.proofs.Common.{rules, ◌≡◌, ◌∙◌, Err, sym, subst}
use Rattle.std.specs.Io.KnownBytes.{Keeps}
use Rattle.odht_base.specs.Format.{Format}
use Rattle.odht_base.specs.Valid.{IsValidBytes}
use Rattle.odht_tool_tables.specs.Wholes.{whole_any}
use Rattle.odht_tool_reads.specs.Orders.{IsOrdered, order_of_forms}
use Rattle.odht_tool_core.specs.declared.shapes.Hash.TheVariants.{Fx, Unhash, Xxh64}
use Rattle.odht_tool_core.specs.declared.typed.Texts.{Texts}
use Rattle.odht_tool_reads.proofs.Shaped.{table_of, without_shape_said, with_shape_said}
use Rattle.odht_tool_reads.proofs.commands.order.order_file.Goals as goal

pub returns-in_err-found : goal.returns-in_err-found
returns-in_err-found g c =
    let B = c.args.bytes.now in
    let x = c.in_err-found.field-0.0 in
    let old = g.O.Write.contents c.args.output.now in
    let failed : c.from_residual.result ≡ Err x = search rules in
    rw failed (without_shape_said (whole_any B c.args.hash c.args.kinds c.args.bound) x old (order_of_forms B old old (Err x)) (sym c.in_err-found.was ∙ c.read_whole.ensures.whole))

pub returns-in-Fx : goal.returns-in-Fx
returns-in-Fx g c =
    let B = c.args.bytes.now in
    let old = g.O.Write.contents c.args.output.now in
    let new = g.O.Write.contents c.order_pairs.new.output in
    let r = c.order_pairs.result in
    let found = c.in_ok-found.found in
    let table = table_of found.0 found.1 c.of-texts.result Fx c.of-texts.ensures (sym c.hash.ensures ∙ c.in-Fx.is) in
    with_shape_said (whole_any B c.args.hash c.args.kinds c.args.bound) found (order_of_forms B old new r) (λ x. (r ≡ Err x) × Keeps old new)
    (sym c.in_ok-found.was ∙ c.read_whole.ensures.whole)
    (subst (λ (x : Format × Texts). IsOrdered x.0 x.1 B old new r) table c.order_pairs.ensures)

pub order_pairs-requires-clause-valid : goal.order_pairs-requires-clause-valid
order_pairs-requires-clause-valid g c =
    let found = c.in_ok-found.found in
    let table = table_of found.0 found.1 c.of-texts.result Fx c.of-texts.ensures (sym c.hash.ensures ∙ c.in-Fx.is) in
    subst (λ (x : Format × Texts). IsValidBytes x.0 c.args.bytes.now) (sym table) c.in_ok-found.ensures.valid

pub returns-in-Unhash : goal.returns-in-Unhash
returns-in-Unhash g c =
    let B = c.args.bytes.now in
    let old = g.O.Write.contents c.args.output.now in
    let new = g.O.Write.contents c.order_pairs-in-Unhash.new.output in
    let r = c.order_pairs-in-Unhash.result in
    let found = c.in_ok-found.found in
    let table = table_of found.0 found.1 c.of-texts.result Unhash c.of-texts.ensures (sym c.hash.ensures ∙ c.in-Unhash.is) in
    with_shape_said (whole_any B c.args.hash c.args.kinds c.args.bound) found (order_of_forms B old new r) (λ x. (r ≡ Err x) × Keeps old new)
    (sym c.in_ok-found.was ∙ c.read_whole.ensures.whole)
    (subst (λ (x : Format × Texts). IsOrdered x.0 x.1 B old new r) table c.order_pairs-in-Unhash.ensures)

pub returns-in-Xxh64 : goal.returns-in-Xxh64
returns-in-Xxh64 g c =
    let B = c.args.bytes.now in
    let old = g.O.Write.contents c.args.output.now in
    let new = g.O.Write.contents c.order_pairs-in-Xxh64.new.output in
    let r = c.order_pairs-in-Xxh64.result in
    let found = c.in_ok-found.found in
    let table = table_of found.0 found.1 c.of-texts.result Xxh64 c.of-texts.ensures (sym c.hash.ensures ∙ c.in-Xxh64.is) in
    with_shape_said (whole_any B c.args.hash c.args.kinds c.args.bound) found (order_of_forms B old new r) (λ x. (r ≡ Err x) × Keeps old new)
    (sym c.in_ok-found.was ∙ c.read_whole.ensures.whole)
    (subst (λ (x : Format × Texts). IsOrdered x.0 x.1 B old new r) table c.order_pairs-in-Xxh64.ensures)

pub order_pairs-requires-in-Unhash-clause-valid : goal.order_pairs-requires-in-Unhash-clause-valid
order_pairs-requires-in-Unhash-clause-valid g c =
    let found = c.in_ok-found.found in
    let table = table_of found.0 found.1 c.of-texts.result Unhash c.of-texts.ensures (sym c.hash.ensures ∙ c.in-Unhash.is) in
    subst (λ (x : Format × Texts). IsValidBytes x.0 c.args.bytes.now) (sym table) c.in_ok-found.ensures.valid

pub order_pairs-requires-in-Xxh64-clause-valid : goal.order_pairs-requires-in-Xxh64-clause-valid
order_pairs-requires-in-Xxh64-clause-valid g c =
    let found = c.in_ok-found.found in
    let table = table_of found.0 found.1 c.of-texts.result Xxh64 c.of-texts.ensures (sym c.hash.ensures ∙ c.in-Xxh64.is) in
    subst (λ (x : Format × Texts). IsValidBytes x.0 c.args.bytes.now) (sym table) c.in_ok-found.ensures.valid
