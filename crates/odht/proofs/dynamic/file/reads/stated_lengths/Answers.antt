use Rattle.std.proofs.Common.{arith, ◌≡◌, ◌∙◌, ◌+◌, ◌≤◌, ℕ, List, Some, sym, ap, length}
use Rattle.std.specs.Prelude.{option_map, slice_index}
use Rattle.odht_raw.specs.Words.{bytes_at, checked, format_of, header_refusal, opening_refusal, TooShort}
use Rattle.odht_base.proofs.lemmas.ByteRanges.{index-bytes_at}
use Rattle.odht_header.proofs.lemmas.FirstErrors.{Ok-checked, Err-checked}
use Rattle.odht_raw.proofs.lemmas.Openings.{opening_refusal-short}
use Rattle.odht.specs.Dynamic.{stated_format}
use Rattle.odht.specs.declared.dynamic.DynError.TheVariants.{Rejected}
use Rattle.odht.proofs.lemmas.Files.{table_long, front_opening}
use Rattle.odht.proofs.dynamic.file.reads.stated_lengths.Given.{Over}
use Rattle.odht.proofs.dynamic.file.reads.stated_lengths.Goals.{After-check_layout}
use Rattle.odht.proofs.dynamic.file.reads.stated_lengths.Goals as goal

pub returns-then-len-lt-HEADER_SIZE : goal.returns-then-len-lt-HEADER_SIZE
returns-then-len-lt-HEADER_SIZE g c = record {
  given = λ hash B h held.
      let T : List ℕ = bytes_at B c.args.at c.args.len in
      let long = table_long (stated_format hash T) B c.args.at c.args.len held in
      ap (option_map Rejected) (opening_refusal-short (stated_format hash T) T (omega (arith, long, c.if-len-lt-HEADER_SIZE.true)))
      ∙ ap (λ n. Some (Rejected (TooShort n))) long;
}

-- what the check of the header says
module _ (g : Over) (c : After-check_layout g) (hash : List ℕ → ℕ) (B : List ℕ) (h : g.S.ReadAt.gives c.args.source.now B) (held : c.args.at + c.args.len ≤ length B) where
  abbrev T : List ℕ
  T = bytes_at B c.args.at c.args.len

  read : c.read_exact_at.new.out ≡ bytes_at B c.args.at 32
  read = c.in-Ok.ensures.given B h

  enough : 32 ≤ c.args.len
  enough = omega (arith, c.if-len-lt-HEADER_SIZE.false)

  stated : (i : ℕ) → i + 1 ≤ 32 → slice_index c.read_exact_at.new.out i ≡ slice_index T i
  stated i low =
      ap (λ b. slice_index b i) read
      ∙ index-bytes_at B c.args.at 32 i (omega (arith, low))
      ∙ sym (index-bytes_at B c.args.at c.args.len i (omega (arith, low, enough)))

  key : c.layout-layout.result.key_len ≡ slice_index T 5
  key = c.layout-layout.ensures.key ∙ ap (λ b. slice_index b 5) c.of-header.ensures ∙ stated 5 (omega arith)

  value : c.layout-layout.result.value_len ≡ slice_index T 6
  value = c.layout-layout.ensures.value ∙ ap (λ b. slice_index b 6) c.of-header.ensures ∙ stated 6 (omega arith)

  checked_is : c.check_layout.result ≡ checked (opening_refusal (stated_format hash T) T)
  checked_is =
      c.check_layout.ensures hash
      ∙ ap (λ b. checked (header_refusal (format_of c.layout-layout.result.key_len c.layout-layout.result.value_len hash) c.args.len b)) (c.of-header.ensures ∙ read)
      ∙ (λ i. checked (header_refusal (format_of (key i) (value i) hash) c.args.len (bytes_at B c.args.at 32)))
      ∙ ap checked (sym (front_opening (stated_format hash T) B c.args.at c.args.len held enough))

pub returns-in-Ok-check_layout : goal.returns-in-Ok-check_layout
returns-in-Ok-check_layout g c =
    let at = (goal.at.returns-in-Ok-check_layout g c).After-check_layout in
    record {
      given = λ hash B h held. (
        ap (option_map Rejected) (Ok-checked _ (sym c.in-Ok-check_layout.is ∙ checked_is g at hash B h held)),
        (key g at hash B h held, value g at hash B h held),
      );
    }

pub returns-in-Err-check_layout : goal.returns-in-Err-check_layout
returns-in-Err-check_layout g c =
    let at = (goal.at.returns-in-Err-check_layout g c).After-check_layout in
    record { given = λ hash B h held. ap (option_map Rejected) (Err-checked _ c.in-Err-check_layout.rejected (sym c.in-Err-check_layout.is ∙ checked_is g at hash B h held)) }
