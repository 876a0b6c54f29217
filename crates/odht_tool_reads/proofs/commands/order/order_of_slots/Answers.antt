use Rattle.std.proofs.Common.{rules, ◌∙◌, true≢false, sym, subst}
use Rattle.std.specs.Prelude.{◌↔◌, IsTrue}
use Rattle.odht.specs.Dynamic.{dyn_format}
use Rattle.odht.specs.Tables.{OfTable}
use Rattle.odht_base.specs.Format.{Format, format_of}
use Rattle.odht_base.specs.Made.{IsMade}
use Rattle.odht_base.specs.Valid.{IsImage}
use Rattle.odht_raw.specs.Frame.{IsAccepted}
use Rattle.odht_raw.proofs.lemmas.Accepted.{IsAccepted-IsValidBytes}
use Rattle.odht_tool_reads.proofs.commands.order.order_of_slots.Goals as goal

-- valid bytes are accepted
pub open_unchecked-table-requires-clause-accepted : goal.open_unchecked-table-requires-clause-accepted
open_unchecked-table-requires-clause-accepted g c =
    let F : Format = format_of c.args.layout.key_len c.args.layout.value_len g.H.HashFn.hash in
    subst (IsAccepted F) (search rules) (IsAccepted-IsValidBytes F c.args.bytes.now c.requires.valid)

-- a table that inserts make has an order
pub returns-else-insert_order_with-clause-none : goal.returns-else-insert_order_with-clause-none
returns-else-insert_order_with-clause-none g c e P image made =
    let F : Format = format_of c.args.layout.key_len c.args.layout.value_len g.H.HashFn.hash in
    let found : OfTable F c.new.result.0.now (λ P. IsTrue c.insert_order_with.result ↔ IsMade F P) =
    subst (λ t. OfTable (dyn_format t g.H.HashFn.hash) t.store.0.now (λ P. IsTrue c.insert_order_with.result ↔ IsMade (dyn_format t g.H.HashFn.hash) P)) c.open_unchecked-table.ensures c.insert_order_with.ensures.made in
    let here : IsImage F P c.new.result.0.now = record { valid = image.valid; bytes = c.new.ensures ∙ image.bytes } in
    absurd (true≢false (sym ((found P here).1 made) ∙ c.if-insert_order_with.false))
