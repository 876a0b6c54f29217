use Rattle.std.proofs.Common.{subst}
use Rattle.std.proofs.lemmas.Result.{IfOk-from_err, IfErr-at_err, err_from_is_err_and}
use Rattle.std.specs.Prelude.{OnOk}
use Rattle.odht_raw.specs.Words.{coding_of}
use Rattle.odht.specs.Plain.{HasLastValuesIn}
use Rattle.odht.proofs.lemmas.NewRefusals.{passed_on, fails-passed, fails-made, fails-later}
use Rattle.odht.proofs.laws.built_from_empty.Goals as goal

pub last_value-requires-after_bounds : goal.last_value-requires-after_bounds
last_value-requires-after_bounds g c κs within =
    let K = coding_of g.C.EncodedKey.ByteArray.LEN g.C.EncodedKey.ByteArray.bytes g.C.EncodedKey.ByteArray.of_bytes g.C.EncodedValue.ByteArray.LEN g.C.EncodedValue.ByteArray.bytes g.C.EncodedValue.ByteArray.of_bytes g.C.H.HashFn.hash g.C.Config.encode_key g.C.Config.encode_value g.C.Config.decode_key g.C.Config.decode_value in
    subst (λ r. OnOk r (HasLastValuesIn K c.args.items.now c.insert_all.new.self)) c.in_ok-insert_all.was
    (c.insert_all.ensures.last_values _ c.args.max_load_factor_percent c.in_ok-table.ensures.ok)

pub with_capacity-requires-clause-percent : goal.with_capacity-requires-clause-percent
with_capacity-requires-clause-percent g c κs within = c.requires.percent

pub returns-in_err-table-clause-ok : goal.returns-in_err-table-clause-ok
returns-in_err-table-clause-ok g c = IfOk-from_err c.from_residual.result _ c.from_residual.ensures.0

pub returns-in_err-table-clause-err : goal.returns-in_err-table-clause-err
returns-in_err-table-clause-err g c =
    let h = err_from_is_err_and c.from_residual.result c.from_residual.ensures.1 in
    fails-passed _ _ _ c.with_capacity.result c.with_capacity.ensures.err c.from_residual.result h.1 h.2 c.in_err-table.was

pub returns-in_err-insert_all-clause-ok : goal.returns-in_err-insert_all-clause-ok
returns-in_err-insert_all-clause-ok g c =
    IfOk-from_err c.from_residual-in_err-insert_all.result _ c.from_residual-in_err-insert_all.ensures.0

pub returns-in_err-insert_all-clause-err : goal.returns-in_err-insert_all-clause-err
returns-in_err-insert_all-clause-err g c =
    let r = c.from_residual-in_err-insert_all.result in
    let h = err_from_is_err_and r c.from_residual-in_err-insert_all.ensures.1 in
    let was = c.in_err-insert_all.was in
    let memory = passed_on r c.insert_all.result.1 h.1 h.2 was (IfErr-at_err _ was c.insert_all.ensures.memory) in
    fails-later _ _ _ c.with_capacity.result c.with_capacity.ensures.err r c.in_ok-table.was memory

pub returns-clause-err : goal.returns-clause-err
returns-clause-err g c = fails-made _ _ _ c.with_capacity.result c.with_capacity.ensures.err _ c.in_ok-table.was
