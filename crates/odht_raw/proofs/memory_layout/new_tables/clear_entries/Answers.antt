use Rattle.std.proofs.Common.{◌≡◌, ◌+◌, ◌*◌, ap, arith}
use Rattle.odht_base.specs.Format.{Format, entry_len}
use Rattle.odht_raw.specs.Parts.{entry_format}
use Rattle.odht_raw.proofs.lemmas.ClearedEntries.{cleared}
use Rattle.odht_raw.proofs.memory_layout.new_tables.clear_entries.Given.{Over}
use Rattle.odht_raw.proofs.memory_layout.new_tables.clear_entries.Goals.{After-entry_len}
use Rattle.odht_raw.proofs.memory_layout.new_tables.clear_entries.Goals as goal

-- where the entries end
end_is : (g : Over) (c : After-entry_len g) → 32 + c.args.slot_count * c.entry_len.result ≡ 32 + c.args.slot_count * entry_len (entry_format (g.L.Lengths.key_len c.args.lengths) (g.L.Lengths.value_len c.args.lengths))
end_is g c = ap (λ n. 32 + c.args.slot_count * n) c.entry_len.ensures

pub returns : goal.returns
returns g c =
    let F : Format = entry_format (g.L.Lengths.key_len c.args.lengths) (g.L.Lengths.value_len c.args.lengths) in
    let end = end_is g (goal.at.returns g c).After-entry_len in
    cleared c.args.bytes.now c.fill.new.self (c.args.slot_count * entry_len F) _ end
    (omega (arith, c.requires.len, end)) (c.fill.ensures.after (λ y e. e))
