use Rattle.std.proofs.Common.{rules, ◌∙◌, ◌≤◌, Result, Err, sym, ap}
use Rattle.odht_raw.specs.Words.{checked, Error, Format, format_of, view_refusal}
use Rattle.odht_header.proofs.lemmas.FirstErrors.{Ok-checked, Err-checked}
use Rattle.odht_header.proofs.lemmas.Formats.{IsFormat-format_of}
use Rattle.odht_raw.proofs.lemmas.ImagesOpen.{image_is_accepted}
use Rattle.odht_raw.proofs.lemmas.Openings.{view_refusal-accepted}
use Rattle.odht.proofs.dynamic.DynTable.open.Goals as goal

pub open_unchecked-requires-clause-accepted : goal.open_unchecked-requires-clause-accepted
open_unchecked-requires-clause-accepted g c =
    let F : Format = format_of c.args.layout.key_len c.args.layout.value_len g.H.HashFn.hash in
    let B = g.D.ByteStore.bytes c.args.data in
    view_refusal-accepted F B (Ok-checked _ (sym c.in-Ok.is ∙ c.check_opening.ensures ∙ ap (λ b. checked (view_refusal F b)) c.bytes.ensures))

pub returns-in-Err-clause-valid : goal.returns-in-Err-clause-valid
returns-in-Err-clause-valid g c long P is =
    let F : Format = format_of c.args.layout.key_len c.args.layout.value_len g.H.HashFn.hash in
    let B = g.D.ByteStore.bytes c.args.data in
    let key : c.args.layout.key_len ≤ 255 = search rules in
    let value : c.args.layout.value_len ≤ 255 = search rules in
    let f = IsFormat-format_of _ _ _ _ key value long g.met.H.HashFn.fits in
    let refused : Result (Unit {0}) Error = Err c.in-Err.rejected in
    image_is_accepted F f P B is refused (sym (Err-checked _ c.in-Err.rejected (sym c.in-Err.is ∙ c.check_opening.ensures ∙ ap (λ b. checked (view_refusal F b)) c.bytes.ensures)))
