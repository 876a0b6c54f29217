use Rattle.std.proofs.Common.{◌≡◌, ◌+◌, ◌*◌, ◌∙◌, ◌++◌, sym, ap, arith, append_assoc, length, replicate, take, drop}
use Rattle.odht_raw.proofs.lemmas.Below.{bytes_at-take, drop-take}
use Rattle.odht_raw.specs.Words.{entry_len, Format, format_of, header_bytes}
use Rattle.odht_raw.proofs.lemmas.NewTables.{bytes-new}
use Rattle.odht_raw.proofs.memory_layout.new_tables.write_empty.Given.{Over}
use Rattle.odht_raw.proofs.memory_layout.new_tables.write_empty.Goals.{After-entry_len}
use Rattle.odht_raw.proofs.memory_layout.new_tables.write_empty.Goals as goal

-- where the control bytes begin
at_is : (g : Over) (c : After-entry_len g) → 32 + c.args.slot_count * c.entry_len.result ≡ 32 + c.args.slot_count * (g.L.Lengths.key_len c.args.lengths + g.L.Lengths.value_len c.args.lengths)
at_is g c = ap (λ n. 32 + c.args.slot_count * n) c.entry_len.ensures

pub returns : goal.returns
returns g c hash =
    let F : Format = format_of (g.L.Lengths.key_len c.args.lengths) (g.L.Lengths.value_len c.args.lengths) hash in
    let s = c.args.slot_count in
    let B = c.args.bytes.now in
    let m = s * entry_len F in
    let at = at_is g (goal.at.returns g c).After-entry_len in
    let header : c.write_header.new.header ≡ header_bytes F s c.args.item_count c.args.max_load_factor.0 =
    c.write_header.ensures hash ∙ (λ i. header_bytes (format_of (c.of_lengths-layout.ensures.key i) (c.of_lengths-layout.ensures.value i) hash) s c.args.item_count c.args.max_load_factor.0) in
    let zeros : c.split_at_mut-header.result.1.now ≡ replicate m 0 =
    c.split_at_mut-header.ensures.back ∙ ap (drop 32) (c.split_at_mut-table.ensures.front ∙ ap (λ n. take n B) at)
    ∙ drop-take 32 m B ∙ sym (bytes_at-take B 32 m) ∙ c.requires.zeros in
    let control : length c.split_at_mut-table.result.1.now ≡ s + 16 = omega (arith, at, c.requires.len, c.split_at_mut-table.ensures.back_len) in
    let ones = c.fill.ensures.after (λ y e. e) ∙ ap (λ m. replicate m 255) control in
    append_assoc c.write_header.new.header c.split_at_mut-header.result.1.now c.fill.new.self ∙ (λ i. header i ++ (zeros i ++ ones i))
    ∙ sym (bytes-new F s c.args.item_count c.args.max_load_factor.0 c.requires.slots)
