use Rattle.std.proofs.Common.{arith, ◌≡◌, ◌∙◌, ℕ, ◌+◌, ◌*◌, sym, ap, length}
use Rattle.std.proofs.lemmas.Slice.Eq.{bytes_eq-Decides}
use Rattle.odht_base.specs.Bytes.{bytes_at}
use Rattle.odht_raw.specs.Reads.{read_key, entry_size}
use Rattle.odht_raw.proofs.lemmas.Reads.{entry_within, read_key-bytes, passed_error}
use Rattle.odht_raw.proofs.raw_table.read_search.is_read_key.Goals as goal

pub returns-clause-given : goal.returns-clause-given
returns-clause-given g c B h =
    let at : ℕ → ℕ = λ n. c.args.place.now.entries_at + c.args.slot * n in
    let front = c.split_at_mut-found.result.0.now in
    let read = c.in_ok-read_exact_at.ensures.given B h in
    let same : c.read_exact_at.new.out ≡ read_key c.args.place.now B c.args.slot =
    read ∙ ap (λ n. bytes_at B (at n) (length front)) c.entry_len.ensures
    ∙ ap (bytes_at B (at (c.args.place.now.layout.key_len + c.args.place.now.layout.value_len))) (c.split_at_mut-found.ensures.front_len ∙ c.requires.key)
    ∙ sym (read_key-bytes c.args.place.now B c.args.slot c.requires.slot) in
    let decides = bytes_eq-Decides c.read_exact_at.new.out c.args.key.now in
    (λ t. sym same ∙ decides.0 (sym c.eq.ensures ∙ t), λ e. c.eq.ensures ∙ decides.1 (same ∙ e))

pub returns-in_err-read_exact_at-clause-failed : goal.returns-in_err-read_exact_at-clause-failed
returns-in_err-read_exact_at-clause-failed g c B h held =
    let p = c.args.place.now in
    let within = entry_within p c.args.slot c.requires.slot in
    let place : c.args.slot * c.entry_len.result ≡ c.args.slot * entry_size p = ap (λ n. c.args.slot * n) c.entry_len.ensures in
    let long = c.split_at_mut-found.ensures.front_len ∙ c.requires.key in
    let failed = c.in_err-read_exact_at.ensures.failed B h (omega (arith, place, long, within, held.entries)) (omega (arith, place, long, within, c.requires.fits.entries)) in
    passed_error (g.S.ReadAt.fails c.args.source.now) c.from_residual.result c.in_err-read_exact_at.field-0.0 c.from_residual.ensures.1 failed
