use Rattle.std.proofs.Common.{arith, ◌≡◌, ◌∙◌, ◌+◌, ◌*◌, slice_index, sym, ap, ap₂}
use Rattle.odht_base.specs.Decoded.{header_slots}
use Rattle.odht_base.specs.Format.{format_of}
use Rattle.odht_header.specs.Refusals.{header_refusal}
use Rattle.odht_header.proofs.lemmas.FirstErrors.{Ok-checked}
use Rattle.odht_tool_reads.proofs.FileReads.{start_length, start_opens}
use Rattle.odht_tool_reads.proofs.positions.names.place_of.Goals as goal

pub overflow_add-entries_at : goal.overflow_add-entries_at
overflow_add-entries_at c =
    let long = start_length c.layout-layout.result.key_len c.layout-layout.result.value_len c.args.start.now.len c.of-header.result (sym c.in-Ok.is ∙ c.check_layout.ensures (λ b. 0)) in
    omega (arith, long, c.requires.fits)

pub overflow_mul-control_at : goal.overflow_mul-control_at
overflow_mul-control_at c =
    let long = start_length c.layout-layout.result.key_len c.layout-layout.result.value_len c.args.start.now.len c.of-header.result (sym c.in-Ok.is ∙ c.check_layout.ensures (λ b. 0)) in
    let size : c.slot_count-slots.result * c.entry_len.result ≡ header_slots c.of-header.result * (c.layout-layout.result.key_len + c.layout-layout.result.value_len) =
    ap₂ (λ a b. a * b) c.slot_count-slots.ensures c.entry_len.ensures in
    omega (arith, size, long, c.requires.fits)

pub overflow_add-control_at : goal.overflow_add-control_at
overflow_add-control_at c =
    let long = start_length c.layout-layout.result.key_len c.layout-layout.result.value_len c.args.start.now.len c.of-header.result (sym c.in-Ok.is ∙ c.check_layout.ensures (λ b. 0)) in
    let size : c.slot_count-slots.result * c.entry_len.result ≡ header_slots c.of-header.result * (c.layout-layout.result.key_len + c.layout-layout.result.value_len) =
    ap₂ (λ a b. a * b) c.slot_count-slots.ensures c.entry_len.ensures in
    omega (arith, size, long, c.requires.fits)

pub returns-clause-long : goal.returns-clause-long
returns-clause-long c =
    let long = start_length c.layout-layout.result.key_len c.layout-layout.result.value_len c.args.start.now.len c.of-header.result (sym c.in-Ok.is ∙ c.check_layout.ensures (λ b. 0)) in
    ap (λ s. 32 + s * (c.layout-layout.result.key_len + c.layout-layout.result.value_len) + s + 16) c.slot_count-slots.ensures ∙ sym long

-- a table whose header fits its length opens
pub returns-clause-opens : goal.returns-clause-opens
returns-clause-opens c B is enough =
    let start = c.args.start.now in
    let key : c.layout-layout.result.key_len ≡ slice_index start.header 5 = c.layout-layout.ensures.key ∙ ap (λ b. slice_index b 5) c.of-header.ensures in
    let value : c.layout-layout.result.value_len ≡ slice_index start.header 6 = c.layout-layout.ensures.value ∙ ap (λ b. slice_index b 6) c.of-header.ensures in
    start_opens B start is enough
    (sym (λ j. header_refusal (format_of (key j) (value j) (λ b. 0)) start.len (c.of-header.ensures j)) ∙ Ok-checked _ (sym c.in-Ok.is ∙ c.check_layout.ensures (λ b. 0)))
