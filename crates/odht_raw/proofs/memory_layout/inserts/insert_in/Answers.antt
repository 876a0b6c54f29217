use Rattle.std.proofs.Common.{rules, true, false, ◌≡◌, ◌+◌, ◌-◌, ◌*◌, ◌∙◌, ◌++◌, ℕ, Bool, List, Ok, None, sym, ap, subst, refl, arith}
use Rattle.std.specs.Prelude.{IsTrue, ⊤}
use Rattle.odht_raw.specs.Words.{entry_len, Format, format_of, header_count, header_factor, header_slots, IsPairOf, max_items, Pair, with_count}
use Rattle.odht_raw.specs.DynParts.{bytes_coding}
use Rattle.odht_raw.specs.EndWrites.{IsEndWrite}
use Rattle.odht_raw.specs.Formers.{answered, write_result}
use Rattle.odht_raw.specs.Frame.{header_maximum}
use Rattle.odht_raw.specs.Runs.{count_after}
use Rattle.odht_raw.specs.SearchResults.{MatchSearchResult, answer}
use Rattle.odht_raw.specs.Steps.{IsStepWhere}
use Rattle.odht_raw.proofs.lemmas.ListWrites.{IsCut, cut_accepted, cut-end, cut-lengths, cut-slots, cut_len, kept-cut}
use Rattle.odht_raw.proofs.lemmas.OneInsert.{end_write}
use Rattle.odht_raw.proofs.lemmas.Steps.{step_added}
use Rattle.odht_raw.proofs.memory_layout.inserts.insert_in.Given.{Over}
use Rattle.odht_raw.proofs.memory_layout.inserts.insert_in.Goals as goal
use Rattle.odht_raw.proofs.memory_layout.inserts.insert_in.Goals.{After-split_at_mut-front, After-write_at_end}

-- the format of the lengths
abbrev format : (g : Over) → g.row.L.Denot → Format
format g lengths = format_of (g.L.Lengths.key_len lengths) (g.L.Lengths.value_len lengths) g.H.HashFn.hash

pub overflow_mul-at : goal.overflow_mul-at
overflow_mul-at g c =
    let all = cut_len (format g c.args.lengths) c.args.bytes.now c.requires.accepted c.args.slots c.entry_len.result c.requires.slots c.entry_len.ensures in
    search rules

pub overflow_add-at : goal.overflow_add-at
overflow_add-at g c =
    let all = cut_len (format g c.args.lengths) c.args.bytes.now c.requires.accepted c.args.slots c.entry_len.result c.requires.slots c.entry_len.ensures in
    search rules

pub split_at_mut-table-requires : goal.split_at_mut-table-requires
split_at_mut-table-requires g c =
    omega (arith, cut_len (format g c.args.lengths) c.args.bytes.now c.requires.accepted c.args.slots c.entry_len.result c.requires.slots c.entry_len.ensures)

-- header, entries and control bytes are those of the bytes
cut : (g : Over) (c : After-split_at_mut-front g) → IsCut (format g c.args.lengths) c.args.bytes.now c.split_at_mut-front.result.0.now c.split_at_mut-front.result.1.now c.split_at_mut-table.result.1.now
cut g c =
    let slots : c.args.slots ≡ header_slots c.args.bytes.now = c.requires.slots in
    let at : 32 + c.args.slots * c.entry_len.result ≡ 32 + header_slots c.args.bytes.now * entry_len (format g c.args.lengths) = λ i. 32 + slots i * c.entry_len.ensures i in
    cut_accepted (format g c.args.lengths) c.args.bytes.now c.requires.accepted (32 + c.args.slots * c.entry_len.result) at _ _ _ _
    c.split_at_mut-table.ensures.front c.split_at_mut-table.ensures.back c.split_at_mut-front.ensures.front c.split_at_mut-front.ensures.back

pub of-header-requires : goal.of-header-requires
of-header-requires g c = let cut = cut g (goal.at.of-header-requires g c).After-split_at_mut-front in omega (arith, cut.head)

pub write_at_end-requires-clause-slots : goal.write_at_end-requires-clause-slots
write_at_end-requires-clause-slots g c =
    c.requires.slots ∙ sym (cut-slots (format g c.args.lengths) c.args.bytes.now _ _ _ (cut g (goal.at.write_at_end-requires-clause-slots g c).After-split_at_mut-front))

pub write_at_end-requires-clause-lengths : goal.write_at_end-requires-clause-lengths
write_at_end-requires-clause-lengths g c =
    cut-lengths (format g c.args.lengths) c.args.bytes.now _ _ _ (cut g (goal.at.write_at_end-requires-clause-lengths g c).After-split_at_mut-front) g.H.HashFn.MIN_LEN (g.L.Lengths.key_len c.args.lengths) (g.L.Lengths.value_len c.args.lengths) refl c.requires.pair

pub write_at_end-requires-clause-end : goal.write_at_end-requires-clause-end
write_at_end-requires-clause-end g c =
    let end = cut-end (format g c.args.lengths) c.args.bytes.now _ _ _ (cut g (goal.at.write_at_end-requires-clause-end g c).After-split_at_mut-front) c.args.key.now c.args.end c.requires.end in
    record {
      end = record { slot = end.slot; earlier = λ none. end.earlier };
      tag = c.requires.end.tag;
    }

pub overflow_add-count : goal.overflow_add-count
overflow_add-count g c =
    let F = format g c.args.lengths in
    let answer = λ (w : Bool). answered F c.split_at_mut-front.result.1.now c.args.end.0 (write_result w) in
    let ok : answer c.write_at_end.result ≡ Ok None = ap answer c.if-not-write_at_end.false ∙ ap Ok (c.is_found.ensures.absent F c.split_at_mut-front.result.1.now c.if-is_found.false) in
    let some = step_added F (λ (b : List ℕ). b) _ _ (answer c.write_at_end.result) _ _ _ _ ok c.write_at_end.ensures.step.any.frame in
    omega (arith, some, c.saturating_sub-room.ensures)

-- what the header says, and what is left of the bytes where the header is then H'
module _ (g : Over) (c : After-write_at_end g)
    (cut : IsCut (format g c.args.lengths) c.args.bytes.now c.split_at_mut-front.result.0.now c.split_at_mut-front.result.1.now c.split_at_mut-table.result.1.now) where
  abbrev F : Format
  F = format g c.args.lengths

  abbrev B : List ℕ
  B = c.args.bytes.now

  abbrev H : List ℕ
  H = c.split_at_mut-front.result.0.now

  abbrev es : List ℕ
  es = c.split_at_mut-front.result.1.now

  count_is : c.item_count-count.result ≡ header_count B
  count_is = c.item_count-count.ensures ∙ ap header_count c.of-header.ensures ∙ cut.count

  maximum_is : max_items c.args.slots c.max_load_factor.result.0 ≡ header_maximum B
  maximum_is = λ i. max_items (c.requires.slots i) ((c.max_load_factor.ensures ∙ ap header_factor c.of-header.ensures ∙ cut.factor) i)

  room_is : c.saturating_sub-room.result ≡ header_maximum B - header_count B
  room_is = c.saturating_sub-room.ensures ∙ (λ i. (c.apply.ensures ∙ maximum_is) i - count_is i)

  left : (w : Bool) → c.write_at_end.result ≡ w → (H' : List ℕ) → H' ≡ with_count H (count_after (header_count B) (answered F es c.args.end.0 (write_result w)))
      → IsEndWrite (bytes_coding F) B c.args.key.now c.args.value.now c.args.end.0 w (H' ++ c.write_at_end.new.entries ++ c.write_at_end.new.control)
  left w is H' written =
      let p : Pair = record { key = c.args.key.now; value = c.args.value.now } in
      let fits : IsPairOf F p = record { key = record { len = c.requires.key; each = c.prove_bytes-2.ensures }; value = record { len = c.requires.value; each = c.prove_bytes-3.ensures } } in
      end_write F B H es c.split_at_mut-table.result.1.now cut c.prove_bytes.ensures (omega (arith, count_is)) (omega (arith, c.apply.ensures, maximum_is)) c.args.key.now c.args.value.now fits
      c.write_at_end.new.entries c.write_at_end.new.control H' c.args.end.0 (cut-end F B _ _ _ cut c.args.key.now c.args.end c.requires.end) w
      (subst (λ x. MatchSearchResult c.args.end.0 (λ _. IsTrue x) (λ _. ⊤) ⊤) is c.write_at_end.ensures.found)
      (subst (λ (x : ℕ × Bool). IsStepWhere (λ P. c.args.end.0 ≡ answer F P.cells p.key) F (λ (b : List ℕ). b) x.0 (es, c.split_at_mut-table.result.1.now) p (answered F es c.args.end.0 (write_result x.1)) (c.write_at_end.new.entries, c.write_at_end.new.control))
      (λ i. (room_is i, is i)) c.write_at_end.ensures.step) written

  -- a header that is not written has its own count
  kept : H ≡ with_count H (header_count B)
  kept = sym (kept-cut F B _ _ _ cut c.prove_bytes.ensures)

pub returns-then-not-write_at_end : goal.returns-then-not-write_at_end
returns-then-not-write_at_end g c =
    let at = (goal.at.returns-then-not-write_at_end g c).After-write_at_end in
    let cut = cut g (goal.at.returns-then-not-write_at_end g c).After-split_at_mut-front in
    left g at cut false c.if-not-write_at_end.true c.split_at_mut-front.result.0.now (kept g at cut)

pub returns-then-is_found : goal.returns-then-is_found
returns-then-is_found g c =
    let at = (goal.at.returns-then-is_found g c).After-write_at_end in
    let cut = cut g (goal.at.returns-then-is_found g c).After-split_at_mut-front in
    let found = c.is_found.ensures.found (format g c.args.lengths) c.split_at_mut-front.result.1.now c.if-is_found.true in
    left g at cut true c.if-not-write_at_end.false c.split_at_mut-front.result.0.now
    (kept g at cut ∙ ap (λ o. with_count c.split_at_mut-front.result.0.now (count_after (header_count c.args.bytes.now) (Ok o))) (sym found.1))

pub returns : goal.returns
returns g c =
    let at = (goal.at.returns g c).After-write_at_end in
    let cut = cut g (goal.at.returns g c).After-split_at_mut-front in
    let none = c.is_found.ensures.absent (format g c.args.lengths) c.split_at_mut-front.result.1.now c.if-is_found.false in
    left g at cut true c.if-not-write_at_end.false c.write_count.new.header
    (c.write_count.ensures ∙ ap (λ m. with_count c.split_at_mut-front.result.0.now (m + 1)) (count_is g at cut)
    ∙ ap (λ o. with_count c.split_at_mut-front.result.0.now (count_after (header_count c.args.bytes.now) (Ok o))) (sym none))
