use Rattle.std.proofs.Common.{Some, refl, subst}
use Rattle.odht_calls.specs.Layouts.{IsFoundBy}
use Rattle.odht_calls.proofs.lemmas.Layouts.{of_long}
use Rattle.odht_calls.proofs.any.view.contains.Goals as goal

pub returns-in-Some : goal.returns-in-Some
returns-in-Some g c =
    let got = c.in-Some.ensures.found in
    of_long c.if-key-layout.false (record { on_valid = λ P image. subst (λ o. IsFoundBy o 0) (got.on_valid P image) refl; on_any = (Some c.in-Some.field-0.now, refl, got.on_any) })
