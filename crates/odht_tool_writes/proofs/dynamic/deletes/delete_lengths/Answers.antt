use Rattle.std.proofs.Common.{rules, ◌≡◌, ◌∙◌, sym, ap, subst}
use Rattle.odht_base.specs.Format.{Format, format_of}
use Rattle.odht_base.specs.Valid.{IsImage}
use Rattle.odht_raw.specs.Frame.{IsAccepted}
use Rattle.odht_raw.proofs.lemmas.Accepted.{IsAccepted-IsValidBytes}
use Rattle.odht_tool_writes.specs.Deletes.{IsDeleted}
use Rattle.odht_tool_tables.specs.KeyTexts.{found_status}
use Rattle.odht_tool_writes.proofs.dynamic.deletes.delete_lengths.Goals as goal

pub open_unchecked-old-requires-clause-accepted : goal.open_unchecked-old-requires-clause-accepted
open_unchecked-old-requires-clause-accepted g c =
    let F : Format = format_of c.args.layout.key_len c.args.layout.value_len g.H.HashFn.hash in
    subst (IsAccepted F) (sym c.new.ensures) (IsAccepted-IsValidBytes F c.args.bytes.now c.requires.valid)

pub returns-clause-ok : goal.returns-clause-ok
returns-clause-ok g c P is =
    let h = g.H.HashFn.hash in
    let F : Format = format_of c.args.layout.key_len c.args.layout.value_len h in
    let keys = c.args.named.now.keys.now in
    let old = c.open_unchecked-old.result in
    let key : c.args.layout.key_len ≡ old.key_len = search rules in
    let value : c.args.layout.value_len ≡ old.value_len = search rules in
    let bytes : c.args.bytes.now ≡ old.store.0.now = search rules in
    let formats : F ≡ format_of old.key_len old.value_len h = λ i. format_of (key i) (value i) h in
    let is' : IsImage (format_of old.key_len old.value_len h) P old.store.0.now =
    subst (IsImage (format_of old.key_len old.value_len h) P) bytes (subst (λ (X : Format). IsImage X P c.args.bytes.now) formats is) in
    let left = c.in_ok-left.ensures.ok P is' in
    let deleted : IsDeleted F keys P c.in_ok-left.left.items = subst (λ (X : Format). IsDeleted X keys P c.in_ok-left.left.items) (sym formats) left in
    (deleted, c.of.ensures ∙ ap found_status (c.are_there-are_there.ensures P is'))
