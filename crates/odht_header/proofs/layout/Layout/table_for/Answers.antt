use Rattle.std.proofs.Common.{rules, ◌≡◌, ◌∙◌, ◌≤◌, sym, subst, true≢false, arith}
use Rattle.std.proofs.lemmas.Option.{same_Some}
use Rattle.odht_base.specs.Format.{Format, format_of}
use Rattle.odht_base.specs.Image.{image_len}
use Rattle.odht_header.proofs.layout.Layout.table_for.Goals as goal

pub returns-in_err-len-clause-none : goal.returns-in_err-len-clause-none
returns-in_err-len-clause-none c hash =
    let F : Format = format_of c.args.self.key_len c.args.self.value_len hash in
    let large = c.in_err-len.ensures.len hash in (
      λ none s e.
          let same : c.in_ok-slot_count.slot_count ≡ s = same_Some _ _ (c.in_ok-slot_count.ensures.value ∙ e) in
          subst (λ n. 18446744073709551616 ≤ image_len F n) same (omega (arith, large)),
      λ large. search rules,
    )

pub returns-clause-some : goal.returns-clause-some
returns-clause-some c hash =
    let long = c.in_ok-len.ensures.len hash in
    record { slots = sym c.in_ok-slot_count.ensures.value; least = c.in_ok-slot_count.ensures.least; long = long; fits = c.in_ok-len.ensures.fits }

pub returns-clause-none : goal.returns-clause-none
returns-clause-none c hash =
    let long = c.in_ok-len.ensures.len hash in (
      λ none s e. absurd (true≢false none),
      λ large. absurd (omega (arith, long, c.in_ok-len.ensures.fits, large c.in_ok-slot_count.slot_count (sym c.in_ok-slot_count.ensures.value))),
    )
