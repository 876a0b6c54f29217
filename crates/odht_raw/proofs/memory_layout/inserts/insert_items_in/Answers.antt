use Rattle.std.proofs.Common.{rules, ◌≡◌, ◌<◌, ◌≤◌, ◌+◌, ◌-◌, ◌*◌, ◌^◌, ◌∙◌, ℕ, List, inl, inr, sym, ap, subst, refl, arith}
use Rattle.std.specs.List.{slice_range}
use Rattle.odht_raw.specs.Words.{Coding, entry_len, Format, format_of, header_count, header_factor, header_slots, max_items, with_count}
use Rattle.odht_raw.specs.DynParts.{bytes_coding}
use Rattle.odht_raw.specs.Frame.{header_maximum}
use Rattle.odht_raw.specs.Runs.{encoded_all, IsRefusedIn}
use Rattle.odht_raw.proofs.lemmas.ListWrites.{IsCut, cut_accepted, cut-image, cut-lengths, cut-slots, cut_len, list_framed, list_accepted, list_length, list_stopped, list_placed}
use Rattle.odht_raw.proofs.lemmas.PartRuns.{run_fits}
use Rattle.odht_raw.proofs.memory_layout.inserts.insert_items_in.Given.{Over}
use Rattle.odht_raw.proofs.memory_layout.inserts.insert_items_in.Goals as goal
use Rattle.odht_raw.proofs.memory_layout.inserts.insert_items_in.Goals.{After-split_at_mut-front}

-- the format of the lengths
abbrev format : (g : Over) → g.row.L.Denot → Format
format g lengths = format_of (g.L.Lengths.key_len lengths) (g.L.Lengths.value_len lengths) g.H.HashFn.hash

pub overflow_mul-at : goal.overflow_mul-at
overflow_mul-at g c =
    let all = cut_len (format g c.args.lengths) c.args.bytes.now c.requires.accepted c.args.slots c.entry_len.result c.requires.slots c.entry_len.ensures in
    search rules

pub overflow_add-at : goal.overflow_add-at
overflow_add-at g c =
    let all = cut_len (format g c.args.lengths) c.args.bytes.now c.requires.accepted c.args.slots c.entry_len.result c.requires.slots c.entry_len.ensures in
    search rules

pub split_at_mut-table-requires : goal.split_at_mut-table-requires
split_at_mut-table-requires g c =
    omega (arith, cut_len (format g c.args.lengths) c.args.bytes.now c.requires.accepted c.args.slots c.entry_len.result c.requires.slots c.entry_len.ensures)

-- header, entries and control bytes are those of the bytes
cut : (g : Over) (c : After-split_at_mut-front g) → IsCut (format g c.args.lengths) c.args.bytes.now c.split_at_mut-front.result.0.now c.split_at_mut-front.result.1.now c.split_at_mut-table.result.1.now
cut g c =
    let slots : c.args.slots ≡ header_slots c.args.bytes.now = c.requires.slots in
    let at : 32 + c.args.slots * c.entry_len.result ≡ 32 + header_slots c.args.bytes.now * entry_len (format g c.args.lengths) = λ i. 32 + slots i * c.entry_len.ensures i in
    cut_accepted (format g c.args.lengths) c.args.bytes.now c.requires.accepted (32 + c.args.slots * c.entry_len.result) at _ _ _ _
    c.split_at_mut-table.ensures.front c.split_at_mut-table.ensures.back c.split_at_mut-front.ensures.front c.split_at_mut-front.ensures.back

pub of-header-requires : goal.of-header-requires
of-header-requires g c = let cut = cut g (goal.at.of-header-requires g c).After-split_at_mut-front in omega (arith, cut.head)

pub insert_run-end-requires-clause-slots : goal.insert_run-end-requires-clause-slots
insert_run-end-requires-clause-slots g c =
    c.requires.slots ∙ sym (cut-slots (format g c.args.lengths) c.args.bytes.now _ _ _ (cut g (goal.at.insert_run-end-requires-clause-slots g c).After-split_at_mut-front))

pub insert_run-end-requires-clause-can : goal.insert_run-end-requires-clause-can
insert_run-end-requires-clause-can g c = record {
  parts = cut-lengths (format g c.args.lengths) c.args.bytes.now _ _ _ (cut g (goal.at.insert_run-end-requires-clause-can g c).After-split_at_mut-front) g.H.HashFn.MIN_LEN (g.L.Lengths.key_len c.args.lengths) (g.L.Lengths.value_len c.args.lengths) refl c.requires.pair;
  lengths = c.requires.lengths;
  within = c.requires.from;
}

pub returns : goal.returns
returns g c =
    let F = format g c.args.lengths in
    let K : Coding (List ℕ) (List ℕ) = bytes_coding F in
    let cut = cut g (goal.at.returns g c).After-split_at_mut-front in
    let B = c.args.bytes.now in
    let items = g.I.EncodedItems.items c.args.items in
    let run = c.insert_run-end in
    let n = run.result.1 in
    let inserted = slice_range items c.args.from run.result.0 in
    let count_is : c.item_count-count.result ≡ header_count B = c.item_count-count.ensures ∙ ap header_count c.of-header.ensures ∙ cut.count in
    let maximum_is : max_items c.args.slots c.max_load_factor.result.0 ≡ header_maximum B = λ i. max_items (c.requires.slots i) ((c.max_load_factor.ensures ∙ ap header_factor c.of-header.ensures ∙ cut.factor) i) in
    let room_is : c.saturating_sub-room.result ≡ header_maximum B - header_count B = c.saturating_sub-room.ensures ∙ (λ i. (c.apply.ensures ∙ maximum_is) i - count_is i) in
    let counted : header_count B < 2 ^ 64 = omega (arith, count_is) in
    let small : header_maximum B < 2 ^ 64 = omega (arith, c.apply.ensures, maximum_is) in
    let written : c.write_count.new.header ≡ with_count c.split_at_mut-front.result.0.now (header_count B + n) = c.write_count.ensures ∙ ap (λ m. with_count c.split_at_mut-front.result.0.now (m + n)) count_is in
    let left : n ≤ header_maximum B - header_count B = omega (arith, room_is, run.ensures.inserted.room) in
    let fits = run_fits K _ _ inserted n _ _ run.ensures.inserted.run in
    record {
      after = omega (arith, run.ensures.inserted.few);
      within = run.ensures.within;
      fit = fits;
      placed = λ P is. list_placed F B _ _ _ cut n _ _ _ written left P is (encoded_all K inserted) fits (run.ensures.inserted.placed P (cut-image F B _ _ _ cut P is).1);
      framed = list_framed K B _ _ _ cut inserted n _ _ _ written run.ensures.inserted.run left counted small c.prove_bytes.ensures;
      accepted = list_accepted K B _ _ _ cut inserted n _ _ _ written run.ensures.inserted.run left counted small;
      len = list_length K B _ _ _ cut inserted n _ _ _ written run.ensures.inserted.run left counted small;
      stopped = elim run.ensures.stop [
        | inl e ↦ inl e
        | inr (inl other) ↦ inr (inl other)
        | inr (inr refused) ↦ inr (inr (list_stopped K B _ _ _ cut inserted n _ _ _ written run.ensures.inserted.run left counted small items run.result.0
            (subst (λ m. IsRefusedIn K (m - n) items run.result.0 run.new.entries run.new.control) room_is refused)))
      ];
    }
