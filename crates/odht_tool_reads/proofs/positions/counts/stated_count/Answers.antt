use Rattle.std.proofs.Common.{arith, ◌≡◌, ◌∙◌, ℕ, List, None, length, sym, ap, slice_index}
use Rattle.std.specs.Prelude.{unwrap_or}
use Rattle.odht_base.specs.Bytes.{bytes_at}
use Rattle.odht_base.specs.Decoded.{header_count}
use Rattle.odht_base.specs.Format.{format_of}
use Rattle.odht_header.specs.Refusals.{header_refusal}
use Rattle.odht_header.proofs.lemmas.FirstErrors.{Ok-checked}
use Rattle.odht_tool_core.specs.InfoNumbers.{info_refusal}
use Rattle.odht_tool_reads.proofs.FileReads.{counted, start_opens}
use Rattle.odht_tool_reads.specs.Listings.{count_by, count_opened}
use Rattle.odht_tool_reads.specs.Positions.{len_by, table_read}
use Rattle.odht_tool_reads.proofs.positions.counts.stated_count.Goals as goal

-- the table whose header was read opens, and counts as many items as this header
pub returns-in-Ok : goal.returns-in-Ok
returns-in-Ok g c B h all =
    let start = c.in_ok-start.start in
    let read = c.in_ok-start.ensures in
    let begun = read.given B h (omega (arith, all)) in
    let T : List ℕ = bytes_at B start.at start.len in
    let head : start.header ≡ bytes_at B (unwrap_or c.args.offset 0) 32 = begun.header ∙ ap (λ a. bytes_at B a 32) read.at in
    let long : start.len ≡ len_by c.args.offset (length B) (bytes_at B (unwrap_or c.args.offset 0) 32) =
    read.len ∙ (λ j. len_by c.args.offset (sym all j) (head j)) in
    let table : T ≡ table_read B c.args.offset = λ j. bytes_at B (read.at j) (long j) in
    let key : c.layout.result.key_len ≡ slice_index start.header 5 = c.layout.ensures.key ∙ ap (λ b. slice_index b 5) c.of-header.ensures in
    let value : c.layout.result.value_len ≡ slice_index start.header 6 = c.layout.ensures.value ∙ ap (λ b. slice_index b 6) c.of-header.ensures in
    let fits : header_refusal (format_of (slice_index start.header 5) (slice_index start.header 6) (λ b. 0)) start.len start.header ≡ None =
    sym (λ j. header_refusal (format_of (key j) (value j) (λ b. 0)) start.len (c.of-header.ensures j)) ∙ Ok-checked _ (sym c.in-Ok.is ∙ c.check_layout.ensures (λ b. 0)) in
    let opens : info_refusal T ≡ None = start_opens B start begun read.long fits in
    let count : c.item_count.result ≡ header_count T = c.item_count.ensures ∙ ap header_count c.of-header.ensures ∙ counted B start begun read.long in
    sym (ap count_opened table) ∙ (λ j. count_by (opens j) (sym count j))
