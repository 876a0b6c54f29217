use Rattle.std.proofs.Common.{arith, ◌≡◌, ◌∙◌, ◌+◌, ◌≤◌, ℕ, List, Some, sym, ap, subst, length}
use Rattle.std.specs.Prelude.{option_map}
use Rattle.odht_raw.specs.Words.{bytes_at, checked, Format, format_of, header_count, header_refusal, header_slots, image_len, IsSlotCount, opening_refusal, TooShort}
use Rattle.odht_header.proofs.lemmas.FirstErrors.{Ok-checked, Err-checked}
use Rattle.odht_header.proofs.lemmas.HeaderFits.{IsHeader-header_refusal}
use Rattle.odht_raw.proofs.lemmas.Openings.{opening_refusal-short}
use Rattle.odht.specs.declared.dynamic.DynError.TheVariants.{Rejected}
use Rattle.odht.proofs.lemmas.Files.{table_long, front_slots, front_count, front_opening}
use Rattle.odht.proofs.dynamic.file.reads.header_counts.Given.{Over}
use Rattle.odht.proofs.dynamic.file.reads.header_counts.Goals.{After-check_layout}
use Rattle.odht.proofs.dynamic.file.reads.header_counts.Goals as goal

pub returns-then-len-lt-HEADER_SIZE-clause-given : goal.returns-then-len-lt-HEADER_SIZE-clause-given
returns-then-len-lt-HEADER_SIZE-clause-given g c hash B h held =
    let F : Format = format_of c.args.layout.key_len c.args.layout.value_len hash in
    let long = table_long F B c.args.at c.args.len held in
    ap (option_map Rejected) (opening_refusal-short F (bytes_at B c.args.at c.args.len) (omega (arith, long, c.if-len-lt-HEADER_SIZE.true)))
    ∙ ap (λ n. Some (Rejected (TooShort n))) long

pub returns-in-Err-clause-given : goal.returns-in-Err-clause-given
returns-in-Err-clause-given g c hash B h held =
    c.in-Err.ensures.failed B h (omega (arith, held, c.if-len-lt-HEADER_SIZE.false)) (omega (arith, c.requires.fits, c.if-len-lt-HEADER_SIZE.false))

-- what the check of the header says
module _ (g : Over) (c : After-check_layout g) (hash : List ℕ → ℕ) where
  abbrev F : Format
  F = format_of c.args.layout.key_len c.args.layout.value_len hash

  checked_is : c.check_layout.result ≡ checked (header_refusal F c.args.len c.read_exact_at.new.out)
  checked_is = c.check_layout.ensures hash ∙ ap (λ b. checked (header_refusal F c.args.len b)) c.of-header.ensures

  enough : 32 ≤ c.args.len
  enough = omega (arith, c.if-len-lt-HEADER_SIZE.false)

  module _ (B : List ℕ) (h : g.S.ReadAt.gives c.args.source.now B) (held : c.args.at + c.args.len ≤ length B) where
    read : c.read_exact_at.new.out ≡ bytes_at B c.args.at 32
    read = c.in-Ok.ensures.given B h

    opening : opening_refusal F (bytes_at B c.args.at c.args.len) ≡ header_refusal F c.args.len c.read_exact_at.new.out
    opening = front_opening F B c.args.at c.args.len held enough ∙ ap (header_refusal F c.args.len) (sym read)

    slots : header_slots (bytes_at B c.args.at c.args.len) ≡ header_slots c.read_exact_at.new.out
    slots = sym (ap header_slots read ∙ front_slots F B c.args.at c.args.len held enough)

    count : header_count (bytes_at B c.args.at c.args.len) ≡ header_count c.read_exact_at.new.out
    count = sym (ap header_count read ∙ front_count F B c.args.at c.args.len held enough)

pub returns-in-Ok-check_layout : goal.returns-in-Ok-check_layout
returns-in-Ok-check_layout g c =
    let at = (goal.at.returns-in-Ok-check_layout g c).After-check_layout in
    let none = λ (hash : List ℕ → ℕ). Ok-checked _ (sym c.in-Ok-check_layout.is ∙ checked_is g at hash) in
    let header = IsHeader-header_refusal (F g at (λ b. 0)) c.args.len c.read_exact_at.new.out (none (λ b. 0)) in
    let stated : c.slot_count.result ≡ header_slots c.read_exact_at.new.out = c.slot_count.ensures ∙ ap header_slots c.of-header.ensures in
    record {
      count = subst IsSlotCount (sym stated) header.slots;
      long = ap (image_len (F g at (λ b. 0))) stated ∙ sym header.length_is;
      given = λ hash B h held. (
        ap (option_map Rejected) (opening g at hash B h held ∙ none hash),
        (slots g at hash B h held ∙ sym stated, count g at hash B h held ∙ sym (c.item_count.ensures ∙ ap header_count c.of-header.ensures)),
      );
    }

pub returns-in-Err-check_layout-clause-given : goal.returns-in-Err-check_layout-clause-given
returns-in-Err-check_layout-clause-given g c hash B h held =
    let at = (goal.at.returns-in-Err-check_layout-clause-given g c).After-check_layout in
    ap (option_map Rejected) (opening g at hash B h held ∙ Err-checked _ c.in-Err-check_layout.rejected (sym c.in-Err-check_layout.is ∙ checked_is g at hash))
