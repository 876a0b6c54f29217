use Rattle.std.proofs.Common.{◌≡◌, ◌∙◌, sym, ap, subst, length, List, Err, inr, refl, take, Some, IsOk, arith}
use Rattle.std.proofs.lemmas.Result.{IfOk-from_err, IfErr-at_err, err_from_is_err_and}
use Rattle.std.specs.Prelude.{OnOk}
use Rattle.odht_raw.specs.Words.{coding_of, factor_of}
use Rattle.odht_base.specs.Load.{slots_for}
use Rattle.odht.proofs.lemmas.NewRefusals.{not_both, passed_on, either, on_err}
use Rattle.std.proofs.lemmas.List.{take_all}
use Rattle.odht_base.specs.Insert.{insert_owned, run}
use Rattle.odht_base.specs.Table.{fresh}
use Rattle.odht.specs.Lists.{encoded_all, HasSizeOf}
use Rattle.odht.specs.Plain.{HasLastValuesIn, IsCollectedIn, IsPlainList}
use Rattle.odht.proofs.lemmas.PlainLists.{list_fits, list_few}
use Rattle.odht.proofs.hash_table_owned.HashTableOwned.from_iterator.Goals as goal

pub returns-clause-ok : goal.returns-clause-ok
returns-clause-ok g c =
    let K = coding_of g.C.EncodedKey.ByteArray.LEN g.C.EncodedKey.ByteArray.bytes g.C.EncodedKey.ByteArray.of_bytes g.C.EncodedValue.ByteArray.LEN g.C.EncodedValue.ByteArray.bytes g.C.EncodedValue.ByteArray.of_bytes g.C.H.HashFn.hash g.C.Config.encode_key g.C.Config.encode_value g.C.Config.decode_key g.C.Config.decode_value in
    let p = c.args.max_load_factor_percent in
    let ran = c.in_ok-items.ensures.ran in
    let after = ran.1.2 tt in
    let slice : c.as_slice.result.now ≡ ran.0 = c.as_slice.ensures.value ∙ ran.2.0 in
    let long : c.len.result ≡ length c.as_slice.result.now = c.len.ensures ∙ ran.2.1 ∙ ap length (sym slice) in
    let xs = c.as_slice.result.now in
    let made : fresh (length xs) p ≡ Some c.in_ok-table.table = subst (λ n. fresh n p ≡ Some c.in_ok-table.table) long c.in_ok-table.ensures.ok in
    let said = c.insert_all.ensures in
    let list : IsPlainList K c.in_ok-table.table c.insert_all.new.self xs c.insert_all.result =
    record { bound = said.bound; all = said.all; inserted = said.inserted; maps = said.maps; stays = said.stays; last_values = said.last_values; at_maximum = said.at_maximum; memory = said.memory } in
    let whole = list.all.0 (subst IsOk (sym c.in_ok-insert_all.was) refl) in
    let taken : take c.insert_all.result.0 xs ≡ xs = take_all c.insert_all.result.0 xs (omega (arith, whole)) in
    let all : IsCollectedIn K p xs c.insert_all.new.self = record {
      start = c.in_ok-table.table;
      new = made;
      inserted = subst (λ (ys : List (g.row.C-Key.Denot × g.row.C-Value.Denot)). run (insert_owned K.format) c.in_ok-table.table (encoded_all K ys) ≡ Some c.insert_all.new.self) taken list.inserted;
      never_grown = subst (λ r. OnOk r (HasSizeOf c.in_ok-table.table c.insert_all.new.self)) c.in_ok-insert_all.was (list_fits K _ _ xs _ list p made);
      few = list_few K _ _ xs _ list p made whole;
      last_values = subst (λ r. OnOk r (HasLastValuesIn K xs c.insert_all.new.self)) c.in_ok-insert_all.was (list.last_values (length xs) p made);
    } in
    (ran.0, (after.0, (ran.1.0, ran.1.1, after.1)), subst (λ (xs : List (g.row.C-Key.Denot × g.row.C-Value.Denot)). IsCollectedIn K p xs c.insert_all.new.self) slice all)

pub collect-requires-clause-can : goal.collect-requires-clause-can
collect-requires-clause-can g c = c.requires.can

pub collect-requires-clause-finite : goal.collect-requires-clause-finite
collect-requires-clause-finite g c = c.requires.ends

pub with_capacity-requires-clause-percent : goal.with_capacity-requires-clause-percent
with_capacity-requires-clause-percent g c κs within = c.requires.percent

pub returns-in_err-items-clause-ok : goal.returns-in_err-items-clause-ok
returns-in_err-items-clause-ok g c = IfOk-from_err c.from_residual.result _ c.from_residual.ensures.0

pub returns-in_err-table-clause-ok : goal.returns-in_err-table-clause-ok
returns-in_err-table-clause-ok g c =
    IfOk-from_err c.from_residual-in_err-table.result _ c.from_residual-in_err-table.ensures.0

pub returns-in_err-insert_all-clause-ok : goal.returns-in_err-insert_all-clause-ok
returns-in_err-insert_all-clause-ok g c =
    IfOk-from_err c.from_residual-in_err-insert_all.result _ c.from_residual-in_err-insert_all.ensures.0

pub returns-in_err-items-clause-capacity : goal.returns-in_err-items-clause-capacity
returns-in_err-items-clause-capacity g c e =
    let h = err_from_is_err_and c.from_residual.result c.from_residual.ensures.1 in
    absurd (not_both c.from_residual.result e (h.1 ∙ ap Err h.2))

pub returns-in_err-items-clause-capacity_or_memory : goal.returns-in_err-items-clause-capacity_or_memory
returns-in_err-items-clause-capacity_or_memory g c =
    let h = err_from_is_err_and c.from_residual.result c.from_residual.ensures.1 in
    on_err c.from_residual.result (inr (h.1 ∙ ap Err h.2))

pub returns-in_err-table-clause-capacity : goal.returns-in_err-table-clause-capacity
returns-in_err-table-clause-capacity g c e =
    let h = err_from_is_err_and c.from_residual-in_err-table.result c.from_residual-in_err-table.ensures.1 in
    let ran = c.in_ok-items.ensures.ran in
    let after = ran.1.2 tt in
    let large = c.in_err-table.ensures.err.capacity.0 (ap Err (sym h.2) ∙ sym h.1 ∙ e) in
    let long = c.len.ensures ∙ ran.2.1 in
    let f = factor_of c.args.max_load_factor_percent in
    (ran.0, (after.0, (ran.1.0, ran.1.1, after.1)), λ s fits. large s (ap (λ n. slots_for n f) long ∙ fits))

pub returns-in_err-table-clause-capacity_or_memory : goal.returns-in_err-table-clause-capacity_or_memory
returns-in_err-table-clause-capacity_or_memory g c =
    let r = c.from_residual-in_err-table.result in
    let h = err_from_is_err_and r c.from_residual-in_err-table.ensures.1 in
    either r (h.1 ∙ ap Err h.2) c.in_err-table.was c.with_capacity.ensures.err.memory

pub returns-in_err-insert_all-clause-capacity : goal.returns-in_err-insert_all-clause-capacity
returns-in_err-insert_all-clause-capacity g c e =
    let r = c.from_residual-in_err-insert_all.result in
    let h = err_from_is_err_and r c.from_residual-in_err-insert_all.ensures.1 in
    let was = c.in_err-insert_all.was in
    absurd (not_both r e (passed_on r c.insert_all.result.1 h.1 h.2 was (IfErr-at_err _ was c.insert_all.ensures.memory)))

pub returns-in_err-insert_all-clause-capacity_or_memory : goal.returns-in_err-insert_all-clause-capacity_or_memory
returns-in_err-insert_all-clause-capacity_or_memory g c =
    let r = c.from_residual-in_err-insert_all.result in
    let h = err_from_is_err_and r c.from_residual-in_err-insert_all.ensures.1 in
    let was = c.in_err-insert_all.was in
    on_err r (inr (passed_on r c.insert_all.result.1 h.1 h.2 was (IfErr-at_err _ was c.insert_all.ensures.memory)))
