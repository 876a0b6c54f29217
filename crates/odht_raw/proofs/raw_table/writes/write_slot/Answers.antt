use Rattle.std.proofs.Common.{◌≡◌, ◌∙◌, ◌+◌, ◌*◌, ◌<◌, ◌≤◌, ◌++◌, ℕ, List, ap, length, arith}
use Rattle.odht_base.specs.Bytes.{overwritten_at}
use Rattle.odht_raw.proofs.lemmas.Below.{length-overwritten_at, overwritten_at-twice, slot_within}
use Rattle.odht_raw.proofs.raw_table.writes.write_slot.Given.{Over}
use Rattle.odht_raw.proofs.raw_table.writes.write_slot.Goals.{After-write_slice-2}
use Rattle.odht_raw.proofs.raw_table.writes.write_slot.Goals as goal

-- a slot's entry lies within the bytes of the entries
within : (es : List ℕ) (s i n : ℕ) → length es ≡ s * n → i < s → i * n + n ≤ length es
within es s i n long low = omega (arith, long, slot_within i s n low)

pub write_slice-requires-2 : goal.write_slice-requires-2
write_slice-requires-2 g c =
    let es = c.args.entries.now in
    let n : ℕ = (g.L.Lengths.key_len c.args.lengths) + (g.L.Lengths.value_len c.args.lengths) in
    let fits = within es c.args.slots c.args.slot n c.requires.entries c.requires.slot in
    let at : c.args.slot * c.entry_len.result ≡ c.args.slot * n = ap (λ m. c.args.slot * m) c.entry_len.ensures in
    let first = ap length c.write_slice.ensures ∙ length-overwritten_at es (c.args.slot * c.entry_len.result) c.args.key.now (omega (arith, at, fits, c.requires.key)) in
    omega (arith, at, fits, first, c.requires.value, c.key_len.ensures)

-- the key and the value behind it are the entry
written : (g : Over) (c : After-write_slice-2 g) → c.write_slice-2.new.all ≡ overwritten_at c.args.entries.now (c.args.slot * ((g.L.Lengths.key_len c.args.lengths) + (g.L.Lengths.value_len c.args.lengths))) (c.args.key.now ++ c.args.value.now)
written g c =
    let es = c.args.entries.now in
    let n : ℕ = (g.L.Lengths.key_len c.args.lengths) + (g.L.Lengths.value_len c.args.lengths) in
    let at : ℕ = c.args.slot * n in
    let fits = within es c.args.slots c.args.slot n c.requires.entries c.requires.slot in
    let first : c.write_slice.new.all ≡ overwritten_at es at c.args.key.now = c.write_slice.ensures ∙ ap (λ m. overwritten_at es (c.args.slot * m) c.args.key.now) c.entry_len.ensures in
    c.write_slice-2.ensures
    ∙ (λ i. overwritten_at (first i) (c.args.slot * c.entry_len.ensures i + c.key_len.ensures i) c.args.value.now)
    ∙ overwritten_at-twice es at (at + (g.L.Lengths.key_len c.args.lengths)) c.args.key.now c.args.value.now (omega (arith, c.requires.key)) (omega (arith, fits, c.requires.key, c.requires.value))

pub returns-then-slot-lt-REFERENCE_GROUP_SIZE-clause-entries :
    goal.returns-then-slot-lt-REFERENCE_GROUP_SIZE-clause-entries
returns-then-slot-lt-REFERENCE_GROUP_SIZE-clause-entries g c =
    written g (goal.at.returns-then-slot-lt-REFERENCE_GROUP_SIZE-clause-entries g c).After-write_slice-2

pub returns-else-slot-lt-REFERENCE_GROUP_SIZE-clause-entries :
    goal.returns-else-slot-lt-REFERENCE_GROUP_SIZE-clause-entries
returns-else-slot-lt-REFERENCE_GROUP_SIZE-clause-entries g c =
    written g (goal.at.returns-else-slot-lt-REFERENCE_GROUP_SIZE-clause-entries g c).After-write_slice-2
