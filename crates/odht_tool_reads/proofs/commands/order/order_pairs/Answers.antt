use Rattle.std.proofs.Common.{rules, ◌<◌, ◌≤◌, ◌∙◌, Ok, All, OnOk, map, sym, ap, subst}
use Rattle.std.specs.Io.KnownBytes.{Appends}
use Rattle.std.proofs.KnownBytes.{Keeps-refl}
use Rattle.odht.specs.Tables.{OfTable}
use Rattle.odht_base.specs.Decoded.{header_slots}
use Rattle.odht_base.specs.Format.{Format, IsFormat, format_of}
use Rattle.odht_base.specs.Made.{IsInsertOrder, IsMade}
use Rattle.odht_base.specs.Valid.{IsValidBytes}
use Rattle.odht_header.proofs.lemmas.Formats.{IsFormat-format_of}
use Rattle.odht_tool_reads.specs.Orders.{stored_at}
use Rattle.odht_tool_core.specs.ReadyShapes.{typed_len}
use Rattle.odht_tool_core.specs.StoredTexts.{lines_of}
use Rattle.odht_tool_reads.proofs.Ordered.{order_told, order_stored, order_within, same_format}
use Rattle.odht_tool_reads.proofs.commands.order.order_pairs.Goals as goal

pub order_of_slots-requires-clause-valid : goal.order_of_slots-requires-clause-valid
order_of_slots-requires-clause-valid g c =
    let layout = c.lengths_of-layout.ensures in
    subst (λ (G : Format). IsValidBytes G c.args.bytes.now) (sym (same_format _ _ _ _ g.H.HashFn.hash layout.key layout.value)) c.requires.valid

pub write_order-requires-clause-valid : goal.write_order-requires-clause-valid
write_order-requires-clause-valid g c =
    let layout = c.lengths_of-layout.ensures in
    subst (λ (G : Format). IsValidBytes G c.args.bytes.now) (sym (same_format _ _ _ _ g.H.HashFn.hash layout.key layout.value)) c.requires.valid

-- the slots of an order are slots of the table
pub write_order-requires-clause-slots : goal.write_order-requires-clause-slots
write_order-requires-clause-slots g c =
    let F : Format = format_of (typed_len c.args.texts.key) (typed_len c.args.texts.value) g.H.HashFn.hash in
    let B = c.args.bytes.now in
    let layout = c.lengths_of-layout.ensures in
    let key : typed_len c.args.texts.key ≤ 255 = subst (λ n. n ≤ 255) layout.key (search rules) in
    let value : typed_len c.args.texts.value ≤ 255 = subst (λ n. n ≤ 255) layout.value (search rules) in
    let fits : IsFormat F = IsFormat-format_of _ _ _ _ key value c.requires.hashes g.met.H.HashFn.fits in
    let order : OfTable F B (λ P. IsInsertOrder F P c.in-Some.order.items) =
    subst (λ (G : Format). OfTable G B (λ P. IsInsertOrder G P c.in-Some.order.items)) (same_format _ _ _ _ g.H.HashFn.hash layout.key layout.value) (rw c.in-Some.is at c.in_ok-order.ensures.order) in
    let valid = c.requires.valid in
    subst (All (λ i. i < header_slots B)) (sym c.as_slice-order.ensures.value) (order_within F fits valid.0 B valid.1 c.in-Some.order.items (order valid.0 valid.1))

-- the pairs in this order are written
pub returns-in-Some : goal.returns-in-Some
returns-in-Some g c =
    let F : Format = format_of (typed_len c.args.texts.key) (typed_len c.args.texts.value) g.H.HashFn.hash in
    let B = c.args.bytes.now in
    let t = c.args.texts in
    let layout = c.lengths_of-layout.ensures in
    let key : typed_len t.key ≤ 255 = subst (λ n. n ≤ 255) layout.key (search rules) in
    let value : typed_len t.value ≤ 255 = subst (λ n. n ≤ 255) layout.value (search rules) in
    let fits : IsFormat F = IsFormat-format_of _ _ _ _ key value c.requires.hashes g.met.H.HashFn.fits in
    let order : OfTable F B (λ P. IsInsertOrder F P c.in-Some.order.items) =
    subst (λ (G : Format). OfTable G B (λ P. IsInsertOrder G P c.in-Some.order.items)) (same_format _ _ _ _ g.H.HashFn.hash layout.key layout.value) (rw c.in-Some.is at c.in_ok-order.ensures.order) in
    let xs = c.as_slice-order.result.now in
    let old = g.O.Write.contents c.args.output.now in
    let new = g.O.Write.contents c.write_order.new.output in
    let written : OnOk c.write_order.result (Appends old new (lines_of t (map (stored_at F B) xs))) =
    subst (λ (G : Format). OnOk c.write_order.result (Appends old new (lines_of t (map (stored_at G B) xs)))) (same_format _ _ _ _ g.H.HashFn.hash layout.key layout.value) c.write_order.ensures in
    order_told F t B (lines_of t (map (stored_at F B) xs)) old new c.write_order.result c.of_output.result written
    (λ P is. (
      c.in-Some.order.items,
      order P is,
      ap (λ ys. lines_of t (map (stored_at F B) ys)) c.as_slice-order.ensures.value
          ∙ ap (lines_of t) (order_stored F fits P B is c.in-Some.order.items (order P is)),
    ))
    c.of_output.ensures

-- no inserts make the table
pub returns-in-None : goal.returns-in-None
returns-in-None g c =
    let layout = c.lengths_of-layout.ensures in
    let unmade = subst (λ (G : Format). OfTable G c.args.bytes.now (λ P. IsMade G P → ⊥)) (same_format _ _ _ _ g.H.HashFn.hash layout.key layout.value)
    (c.order_of_slots.ensures.none (c.in_ok-order.was ∙ ap Ok c.in-None.is)) in
    λ P is. (unmade P is, Keeps-refl (g.O.Write.contents c.args.output.now))
