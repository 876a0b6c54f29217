use Rattle.std.proofs.Common.{◌≡◌, ◌∙◌, sym, ap, subst, refl, arith, length}
use Rattle.std.specs.Prelude.{option_map}
use Rattle.odht_raw.specs.Words.{empty, factor_of, format_of, image, with_count}
use Rattle.odht_base.proofs.lemmas.FreeSlots.{empty-IsValid}
use Rattle.odht_header.specs.Layouts.{IsLayout}
use Rattle.odht_header.specs.Refusals.{IsTooLarge}
use Rattle.odht_raw.specs.Frame.{IsAccepted}
use Rattle.odht_raw.proofs.lemmas.Borrows.{borrowed-bytes}
use Rattle.odht_raw.proofs.lemmas.NewTables.{IsAccepted-new, with_count-new}
use Rattle.odht.proofs.lemmas.NewRefusals.{new_refusal-large, new_refusal-wrong, new_refusal-fits}
use Rattle.odht.proofs.new_tables.init_bytes.Given.{Over}
use Rattle.odht.proofs.new_tables.init_bytes.Goals.{In-Some, After-init_parts}
use Rattle.odht.proofs.new_tables.init_bytes.Goals as goal

-- how large the table is
sizes : (g : Over) (c : In-Some g) → IsLayout (format_of (g.L.Lengths.key_len c.args.lengths) (g.L.Lengths.value_len c.args.lengths) g.H.HashFn.hash) c.args.max_item_count (factor_of c.args.max_load_factor_percent) c.in-Some.slot_count c.in-Some.expected
sizes g c = rw (c.of_lengths-layout.ensures.key, c.of_lengths-layout.ensures.value, c.from_percent-factor.ensures) at c.in-Some.ensures.some g.H.HashFn.hash

pub returns-in_default-clause-err : goal.returns-in_default-clause-err
returns-in_default-clause-err g c =
    let F = format_of (g.L.Lengths.key_len c.args.lengths) (g.L.Lengths.value_len c.args.lengths) g.H.HashFn.hash in
    let n = c.args.max_item_count in
    let f = factor_of c.args.max_load_factor_percent in
    let none = rw (c.of_lengths-layout.ensures.key, c.of_lengths-layout.ensures.value, c.from_percent-factor.ensures) at c.in_default.ensures.none g.H.HashFn.hash in
    let large : IsTooLarge F n f = none.0 refl in
    sym (new_refusal-large F n f (length (g.D.ByteStore.bytes c.args.store.now)) large)

pub returns-then-found-expected-clause-err : goal.returns-then-found-expected-clause-err
returns-then-found-expected-clause-err g c =
    let F = format_of (g.L.Lengths.key_len c.args.lengths) (g.L.Lengths.value_len c.args.lengths) g.H.HashFn.hash in
    let n = c.args.max_item_count in
    let f = factor_of c.args.max_load_factor_percent in
    let s = c.in-Some.slot_count in
    let layout = sizes g (goal.at.returns-then-found-expected-clause-err g c).In-Some in
    let B = g.D.ByteStore.bytes c.args.store.now in
    let found : length c.bytes-found.result.now ≡ length B = ap length c.bytes-found.ensures in
    rw (found, layout.long) (sym (new_refusal-wrong F n f (length B) s layout.slots (omega (arith, layout.long, layout.fits)) (λ e. c.if-found-expected.true (found ∙ e ∙ sym layout.long))))

-- the store that is left has these bytes
left : (g : Over) (c : After-init_parts g) → g.D.ByteStore.bytes (g.D.ByteStoreMut.after_borrow c.args.store.now c.init_parts.new.bytes) ≡ c.init_parts.new.bytes
left g c =
    borrowed-bytes g.D.ByteStore.bytes g.D.ByteStoreMut.holding g.D.ByteStoreMut.after_borrow g.met.D.ByteStoreMut.held g.met.D.ByteStoreMut.after_borrow_fits c.args.store.now c.init_parts.new.bytes
    (c.init_parts.auto.bytes ∙ ap length c.bytes_mut.ensures.value)

pub returns-clause-ok : goal.returns-clause-ok
returns-clause-ok g c =
    let F = format_of (g.L.Lengths.key_len c.args.lengths) (g.L.Lengths.value_len c.args.lengths) g.H.HashFn.hash in
    let n = c.args.max_item_count in
    let f = factor_of c.args.max_load_factor_percent in
    let s = c.in-Some.slot_count in
    let layout = sizes g (goal.at.returns-clause-ok g c).In-Some in
    let count = layout.least.is_count in
    record {
      table = empty s f;
      new = ap (option_map (λ t. empty t f)) layout.slots;
      image = record {
        valid = empty-IsValid s f F count (omega (arith, c.requires.percent.0)) (omega (arith, c.requires.percent.1));
        bytes = left g (goal.at.returns-clause-ok g c).After-init_parts ∙ c.init_parts.ensures F.hash ∙ ap (λ t. with_count (image F (empty s t)) 0) c.from_percent-factor.ensures ∙ with_count-new F s 0 f count;
      };
    }

pub returns-clause-err : goal.returns-clause-err
returns-clause-err g c =
    let F = format_of (g.L.Lengths.key_len c.args.lengths) (g.L.Lengths.value_len c.args.lengths) g.H.HashFn.hash in
    let n = c.args.max_item_count in
    let f = factor_of c.args.max_load_factor_percent in
    let s = c.in-Some.slot_count in
    let layout = sizes g (goal.at.returns-clause-err g c).In-Some in
    let B = g.D.ByteStore.bytes c.args.store.now in
    let found : length c.bytes-found.result.now ≡ length B = ap length c.bytes-found.ensures in
    sym (new_refusal-fits F n f (length B) s layout.slots (omega (arith, layout.long, layout.fits)) (omega (arith, found, layout.long, c.if-found-expected.false)))

pub init_parts-requires-clause-len : goal.init_parts-requires-clause-len
init_parts-requires-clause-len g c = ap length c.bytes_mut.ensures.value ∙ ap length (sym c.bytes-found.ensures) ∙ c.if-found-expected.false ∙ (sizes g (goal.at.init_parts-requires-clause-len g c).In-Some).long

pub init_parts-requires-clause-slots : goal.init_parts-requires-clause-slots
init_parts-requires-clause-slots g c = (sizes g (goal.at.init_parts-requires-clause-slots g c).In-Some).least.is_count

pub returns-clause-accepted : goal.returns-clause-accepted
returns-clause-accepted g c =
    let F = format_of (g.L.Lengths.key_len c.args.lengths) (g.L.Lengths.value_len c.args.lengths) g.H.HashFn.hash in
    subst (IsAccepted F) (sym (left g (goal.at.returns-clause-accepted g c).After-init_parts ∙ c.init_parts.ensures F.hash))
    (IsAccepted-new F c.in-Some.slot_count 0 c.from_percent-factor.result.0 (sizes g (goal.at.returns-clause-accepted g c).In-Some).least.is_count)
