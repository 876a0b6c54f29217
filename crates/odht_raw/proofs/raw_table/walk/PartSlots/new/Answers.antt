use Rattle.std.proofs.Common.{All, ◌≡◌, ◌∙◌, ℕ, ◌<◌, List, [], map, ap, sym, subst}
use Rattle.odht_raw.specs.Parts.{entry_format}
use Rattle.odht_raw.specs.DynParts.{read_slot}
use Rattle.odht_raw.specs.Walks.{Item, numbered_from}
use Rattle.odht_raw.proofs.lemmas.DynWalks.{bare, read-numbered, numbered-below}
use Rattle.odht_raw.proofs.raw_table.walk.PartSlots.new.Given.{Over}
use Rattle.odht_raw.proofs.raw_table.walk.PartSlots.new.Goals.{After-new-slots}
use Rattle.odht_raw.proofs.raw_table.walk.PartSlots.new.Goals as goal

abbrev itself : List ℕ → List ℕ
itself b = b

-- the slots are those of the table with entries of no bytes
slots : (g : Over) (c : After-new-slots g) → c.new-slots.result ≡ numbered_from itself itself (entry_format 0 0) (bare c.args.table) c.args.from
slots g c =
    let none : c.new-none.result ≡ (record { slots = c.args.table.parts.entries.slots; bytes = [] }) = c.new-none.ensures ∙ ap (λ n. record { slots = n; bytes = [] }) c.len.ensures.value in
    c.new-slots.ensures.items
    ∙ (λ i. numbered_from itself itself (entry_format 0 0) (record { control = c.controls.ensures.value i; entries = none i }) c.args.from)

pub invariant_of-result : goal.invariant_of-result
invariant_of-result g c =
    let at = (goal.at.invariant_of-result g c).After-new-slots in
    subst (All (λ (x : ℕ × Item (List ℕ) (List ℕ)). x.0 < c.args.table.parts.entries.slots)) (sym (slots g at)) (numbered-below itself itself c.args.table g.H.HashFn.hash c.args.from)

pub returns-clause-items : goal.returns-clause-items
returns-clause-items g c =
    let at = (goal.at.returns-clause-items g c).After-new-slots in
    ap (map (read_slot c.args.table)) (slots g at) ∙ read-numbered itself itself c.args.table g.H.HashFn.hash c.args.from c.len.ensures.whole.mirrored
