use Rattle.std.proofs.Common.{◌∙◌, ◌+◌, ◌++◌, ◌<◌, ℕ, [], ◌∷◌, sym, ap, arith, length, append_assoc, length-append, true≢false}
use Rattle.odht_base.specs.Format.{format_of}
use Rattle.odht_base.specs.Decoded.{header_slots}
use Rattle.odht_raw.proofs.lemmas.Accepted.{accepted_opening}
use Rattle.odht_calls.proofs.lemmas.Arrays.{set-next_of}
use Rattle.odht_calls.proofs.lemmas.Refused.{refused_walk, the_error}
use Rattle.odht_calls.proofs.lemmas.Walked.{walked_all, walked_full, accepted_walk}
use Rattle.odht_calls.proofs.read.walk.Goals as goal

pub loop-slot-preserved : goal.loop-slot-preserved
loop-slot-preserved g c =
    let v = c.loop-slot.invariant in
    let item : ℕ × (g.row.C-Key.Denot × g.row.C-Value.Denot) = (c.in-Some.slot, (c.in-Some.key, c.in-Some.value)) in
    let room : c.loop-slot.written < length c.args.keys.now = omega (arith, v.within, c.if-written-keys.false, c.loop-slot.auto.keys) in
    record {
      walk = v.walk ∙ ap (λ r. c.loop-slot.yielded ++ r) c.in-Some.ensures.steps ∙ sym (append_assoc c.loop-slot.yielded (item ∷ []) c.next.new.self);
      written = ap (λ n. n + 1) v.written ∙ sym (length-append c.loop-slot.yielded (item ∷ []));
      within = omega (arith, room);
      keys = set-next_of (λ x. x.1.0) c.loop-slot.yielded c.args.keys.now c.loop-slot.keys item c.loop-slot.written v.written room v.keys;
      values = set-next_of (λ x. x.1.1) c.loop-slot.yielded c.args.values.now c.loop-slot.values item c.loop-slot.written v.written (omega (arith, room, c.requires)) v.values;
    }

pub returns-then-not-is_accepted : goal.returns-then-not-is_accepted
returns-then-not-is_accepted g c =
    let found = the_error _ (λ none. true≢false (sym (c.is_accepted.ensures.1 none) ∙ c.if-not-is_accepted.true)) in
    refused_walk _ _ found.0 _ found.1 (c.refused.ensures ∙ found.2) _ _ _ _ c.requires

pub returns-then-written-keys : goal.returns-then-written-keys
returns-then-written-keys g c =
    let v = c.loop-slot.invariant in
    accepted_walk _ _ _ _ _ _ _ _ _ _ _ _ _ c.requires (sym (c.is_accepted.ensures.0 c.if-not-is_accepted.false)) c.table-table.ensures c.iter_from-slot-items.ensures.slots.on_valid c.iter_from-slot-items.ensures.slots.on_any
    (λ P is slots. walked_full _ P _ _ _ _ _ _ _ _ _ is (sym c.into_iter-slot-iterator.ensures.into_iter_gives ∙ v.walk) v.written v.within v.keys v.values
    c.in-Some.slot (c.in-Some.key, c.in-Some.value) c.next.new.self c.in-Some.ensures.steps (omega (arith, c.if-written-keys.true, c.loop-slot.auto.keys)))

pub of-requires : goal.of-requires
of-requires g c =
    (accepted_opening (format_of g.C.EncodedKey.ByteArray.LEN g.C.EncodedValue.ByteArray.LEN g.C.H.HashFn.hash) c.args.bytes.now (c.is_accepted.ensures.0 c.if-not-is_accepted.false)).long

pub returns : goal.returns
returns g c =
    let v = c.loop-slot.invariant in
    accepted_walk _ _ _ _ _ _ _ _ _ _ _ _ _ c.requires (sym (c.is_accepted.ensures.0 c.if-not-is_accepted.false)) c.table-table.ensures c.iter_from-slot-items.ensures.slots.on_valid c.iter_from-slot-items.ensures.slots.on_any
    (λ P is slots. walked_all _ P _ _ _ _ _ _ _ _ _ is (sym c.into_iter-slot-iterator.ensures.into_iter_gives ∙ v.walk) v.written v.within v.keys v.values
    c.in-None.ensures.steps.0 c.slot_count.result (c.slot_count.ensures ∙ ap header_slots c.of.ensures ∙ sym slots))
