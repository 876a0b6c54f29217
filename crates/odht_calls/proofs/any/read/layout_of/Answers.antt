use Rattle.std.proofs.Common.{◌≡◌, ◌∙◌, sym, ap, refl, length}
use Rattle.odht.specs.Dynamic.{stated_format}
use Rattle.odht_header.specs.declared.error.Error.TheVariants.{TooShort}
use Rattle.odht_raw.proofs.lemmas.Openings.{opening_refusal-short}
use Rattle.odht_calls.specs.Statuses.{status_of, status_or_ok}
use Rattle.odht_calls.proofs.lemmas.Statuses.{not_done}
use Rattle.odht_calls.proofs.any.read.layout_of.Goals as goal

-- no lengths are stated where the bytes are too few for a header
pub returns-in-Err : goal.returns-in-Err
returns-in-Err c =
    let short : c.status_of.result ≡ status_of (TooShort (length c.args.bytes.now)) = cc (c.in-Err.ensures.err, c.status_of.ensures) in
    record {
      status = λ h. short ∙ sym (ap status_or_ok (opening_refusal-short (stated_format h c.args.bytes.now) c.args.bytes.now c.in-Err.ensures.short));
      stated = λ ok. absurd (not_done (TooShort (length c.args.bytes.now)) (sym short ∙ ok));
      refused = λ other. refl;
    }
