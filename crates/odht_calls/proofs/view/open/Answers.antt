use Rattle.std.proofs.Common.{◌≡◌, ap, sym, refl, None}
use Rattle.odht_base.specs.Format.{Format, format_of}
use Rattle.odht_header.specs.Refusals.{view_refusal}
use Rattle.odht_header.proofs.lemmas.FirstErrors.{Ok-checked}
use Rattle.odht_raw.proofs.lemmas.Openings.{view_refusal-accepted}
use Rattle.odht_calls.specs.Statuses.{status_or_ok}
use Rattle.odht_calls.proofs.view.open.Goals as goal

pub returns-in-Ok : goal.returns-in-Ok
returns-in-Ok g c =
    let F : Format = format_of (g.L.Lengths.key_len c.args.lengths) (g.L.Lengths.value_len c.args.lengths) g.H.HashFn.hash in
    let none : view_refusal F c.args.bytes.now ≡ None = Ok-checked _ c.in-Ok.ensures in
    record {
      status = ap status_or_ok (sym none);
      opened = λ ok. refl;
      accepted = λ ok. view_refusal-accepted F c.args.bytes.now none;
      refused = λ other. absurd (other refl);
    }
