use Rattle.std.proofs.Common.{rules, Err, subst, arith, ◌≡◌, ◌∙◌, ◌+◌, ◌*◌, ℕ, sym, ap, length}
use Rattle.std.specs.Prelude.{MatchResult}
use Rattle.odht_raw.specs.Words.{bytes_at}
use Rattle.odht_raw.specs.Reads.{entry_size}
use Rattle.odht_raw.proofs.lemmas.Reads.{entry_within}
use Rattle.odht.specs.Files.{read_slot_value}
use Rattle.odht.proofs.lemmas.Files.{read_value-bytes}
use Rattle.odht.proofs.dynamic.file.reads.read_value.Goals as goal

pub returns : goal.returns
returns g c = record {
  given = λ B h held. (
      let p = c.args.place.now in
      let at : ℕ → ℕ = λ n. p.entries_at + c.args.slot * n + p.layout.key_len in
      c.of.ensures ∙ c.in_ok-read_exact_at.ensures.given B h
      ∙ ap (λ n. bytes_at B (at n) (length c.split_at_mut-value.result.0.now)) c.entry_len.ensures
      ∙ ap (bytes_at B (at (entry_size p))) c.split_at_mut-value.ensures.front_len
      ∙ sym (read_value-bytes p B c.args.slot c.requires.slot));
}

pub returns-in_err-read_exact_at : goal.returns-in_err-read_exact_at
returns-in_err-read_exact_at g c = record {
  given = λ B h held. (
      let p = c.args.place.now in
      let within = entry_within p c.args.slot c.requires.slot in
      let place : c.args.slot * c.entry_len.result ≡ c.args.slot * entry_size p = ap (λ n. c.args.slot * n) c.entry_len.ensures in
      let long = c.split_at_mut-value.ensures.front_len in
      let refusal : c.from_residual.result ≡ Err c.in_err-read_exact_at.field-0.0 = search rules in
      subst (λ r. MatchResult r (λ v. v ≡ read_slot_value p B c.args.slot) (g.S.ReadAt.fails c.args.source.now)) (sym refusal)
      (c.in_err-read_exact_at.ensures.failed B h (omega (arith, place, long, within, held.entries)) (omega (arith, place, long, within, c.requires.fits.entries))));
}
