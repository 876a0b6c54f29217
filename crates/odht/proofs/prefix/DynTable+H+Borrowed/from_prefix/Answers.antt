use Rattle.std.proofs.Common.{rules, ◌≤◌, ◌∙◌, sym, ap}
use Rattle.odht_raw.specs.Words.{Format, format_of}
use Rattle.odht_header.proofs.lemmas.Formats.{IsFormat-format_of}
use Rattle.odht.specs.DynPrefixes.{dyn_front_refusal}
use Rattle.odht.specs.declared.dynamic.DynError.TheVariants.{Rejected}
use Rattle.odht.proofs.lemmas.DynPrefixes.{front_first, opened, valid_opens}
use Rattle.odht.proofs.prefix.DynTable+H+Borrowed.from_prefix.Goals as goal

pub open_front-requires : goal.open_front-requires
open_front-requires g c = c.in-Ok.ensures.ok g.H.HashFn.hash

pub returns-in-Ok-clause-valid : goal.returns-in-Ok-clause-valid
returns-in-Ok-clause-valid g c table rest long is joined =
    let F : Format = format_of c.args.layout.key_len c.args.layout.value_len g.H.HashFn.hash in
    let key : c.args.layout.key_len ≤ 255 = search rules in
    let value : c.args.layout.value_len ≤ 255 = search rules in
    let f = IsFormat-format_of _ _ _ _ key value long g.met.H.HashFn.fits in
    opened g.H.HashFn.MIN_LEN F f table rest long is c.open_front.result (c.open_front.ensures.err ∙ ap (dyn_front_refusal g.H.HashFn.MIN_LEN F) joined)

pub returns-in-Err-clause-err : goal.returns-in-Err-clause-err
returns-in-Err-clause-err g c =
    let F : Format = format_of c.args.layout.key_len c.args.layout.value_len g.H.HashFn.hash in
    sym (front_first g.H.HashFn.MIN_LEN F c.args.bytes.now c.in-Err.rejected c.in_ok-check_key_len.ensures.long (sym (c.in-Err.ensures.err g.H.HashFn.hash)))

pub returns-in-Err-clause-valid : goal.returns-in-Err-clause-valid
returns-in-Err-clause-valid g c table rest long is joined =
    let F : Format = format_of c.args.layout.key_len c.args.layout.value_len g.H.HashFn.hash in
    let key : c.args.layout.key_len ≤ 255 = search rules in
    let value : c.args.layout.value_len ≤ 255 = search rules in
    let f = IsFormat-format_of _ _ _ _ key value long g.met.H.HashFn.fits in
    absurd (valid_opens g.H.HashFn.MIN_LEN F f table rest long is (Rejected c.in-Err.rejected) (returns-in-Err-clause-err g c ∙ ap (dyn_front_refusal g.H.HashFn.MIN_LEN F) joined))
