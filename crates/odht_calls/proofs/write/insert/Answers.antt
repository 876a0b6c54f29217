use Rattle.std.proofs.Common.{rules, ◌≡◌, ◌∙◌, sym, ap, refl, true≢false, Err, None}
use Rattle.odht_base.specs.Format.{Format, format_of}
use Rattle.odht_header.specs.Refusals.{opening_refusal}
use Rattle.odht_header.specs.declared.error.Error.TheVariants.{Full}
use Rattle.odht_calls.specs.Statuses.{status_of, status_or_ok}
use Rattle.odht_calls.proofs.lemmas.Inserted.{accepted_insert, full_insert}
use Rattle.odht_calls.proofs.lemmas.Refused.{refused_insert, the_error}
use Rattle.odht_calls.proofs.write.insert.Goals as goal

pub returns-then-not-is_accepted-clause-answer : goal.returns-then-not-is_accepted-clause-answer
returns-then-not-is_accepted-clause-answer g c =
    let F : Format = format_of g.C.EncodedKey.ByteArray.LEN g.C.EncodedValue.ByteArray.LEN g.C.H.HashFn.hash in
    let found = the_error (opening_refusal F c.bytes.result.now) (λ none. true≢false (sym (c.is_accepted.ensures.1 none) ∙ c.if-not-is_accepted.true)) in
    refused_insert _ _ found.0 _ (found.1 ∙ ap (opening_refusal F) c.bytes.ensures) (c.refused.ensures ∙ ap (λ B. status_or_ok (opening_refusal F B)) (c.bytes-then-not-is_accepted.ensures ∙ sym c.bytes.ensures) ∙ found.2) _ _ _

pub returns-in-Ok-Some-clause-answer : goal.returns-in-Ok-Some-clause-answer
returns-in-Ok-Some-clause-answer g c =
    let F : Format = format_of g.C.EncodedKey.ByteArray.LEN g.C.EncodedValue.ByteArray.LEN g.C.H.HashFn.hash in
    let bytes = g.M.ByteStore.bytes in
    let accepted : None ≡ opening_refusal F (bytes c.args.store.now) = sym (c.is_accepted.ensures.0 c.if-not-is_accepted.false) ∙ ap (opening_refusal F) c.bytes.ensures in
    let reads : bytes c.from_raw_bytes_unchecked-table.result.now ≡ bytes c.args.store.now = ap (λ s. bytes s.now) c.from_raw_bytes_unchecked-table.ensures in
    accepted_insert _ _ _ _ _ _ _ _ _ _ accepted reads (ap bytes (search (rules, c.into_data-store.ensures.data, c.insert-answer.ensures.same_store, c.from_raw_bytes_unchecked-table.ensures)))
    c.in-Ok-Some.field-0 (rw c.in-Ok-Some.field-0-is (refl, refl)) (λ P is. (c.in-Ok-Some.ensures.on_valid P is).former) (λ P is. (c.in-Ok-Some.ensures.on_valid P is).inserted) c.in-Ok-Some.ensures.on_any.frame

pub returns-in-Ok-None-clause-answer : goal.returns-in-Ok-None-clause-answer
returns-in-Ok-None-clause-answer g c =
    let F : Format = format_of g.C.EncodedKey.ByteArray.LEN g.C.EncodedValue.ByteArray.LEN g.C.H.HashFn.hash in
    let bytes = g.M.ByteStore.bytes in
    let accepted : None ≡ opening_refusal F (bytes c.args.store.now) = sym (c.is_accepted.ensures.0 c.if-not-is_accepted.false) ∙ ap (opening_refusal F) c.bytes.ensures in
    let reads : bytes c.from_raw_bytes_unchecked-table.result.now ≡ bytes c.args.store.now = ap (λ s. bytes s.now) c.from_raw_bytes_unchecked-table.ensures in
    accepted_insert _ _ _ _ _ _ _ _ _ _ accepted reads (ap bytes (search (rules, c.into_data-store.ensures.data, c.insert-answer.ensures.same_store, c.from_raw_bytes_unchecked-table.ensures)))
    c.in-Ok-None.field-0 (rw c.in-Ok-None.field-0-is (refl, refl)) (λ P is. (c.in-Ok-None.ensures.on_valid P is).former) (λ P is. (c.in-Ok-None.ensures.on_valid P is).inserted) c.in-Ok-None.ensures.on_any.frame

pub returns-in-Err-clause-answer : goal.returns-in-Err-clause-answer
returns-in-Err-clause-answer g c =
    let F : Format = format_of g.C.EncodedKey.ByteArray.LEN g.C.EncodedValue.ByteArray.LEN g.C.H.HashFn.hash in
    let bytes = g.M.ByteStore.bytes in
    let accepted : None ≡ opening_refusal F (bytes c.args.store.now) = sym (c.is_accepted.ensures.0 c.if-not-is_accepted.false) ∙ ap (opening_refusal F) c.bytes.ensures in
    let reads : bytes c.from_raw_bytes_unchecked-table.result.now ≡ bytes c.args.store.now = ap (λ s. bytes s.now) c.from_raw_bytes_unchecked-table.ensures in
    let full : c.insert-answer.result ≡ Err Full = c.in-Err.is ∙ c.in-Err.ensures.on_any.only_full in
    let only : c.in-Err.refused ≡ Full = (let both = c.in-Err.ensures.on_any.only_full in cc) in
    full_insert _ _ _ _ _ _ _ _ _ _ accepted reads (ap bytes (search (rules, c.into_data-store.ensures.data, c.insert-answer.ensures.same_store, c.from_raw_bytes_unchecked-table.ensures)))
    c.insert-answer.result full (ap (λ s. bytes s.now) c.in-Err.ensures.refused) (c.status_of.ensures ∙ ap status_of only) refl
    (λ P is. (c.insert-answer.ensures.on_valid P is).full) c.insert-answer.ensures.on_any.frame
