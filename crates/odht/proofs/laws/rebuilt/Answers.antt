use Rattle.std.proofs.Common.{◌≡◌, sym, subst, refl, take, List, Some, IsOk, arith}
use Rattle.std.proofs.lemmas.List.{take_all}
use Rattle.std.proofs.lemmas.Result.{IfErr-at_err, err_from_is_err_and}
use Rattle.odht_base.specs.Insert.{insert_owned, run}
use Rattle.odht_raw.specs.Words.{coding_of}
use Rattle.odht.specs.Lists.{encoded_all}
use Rattle.odht.proofs.lemmas.NewRefusals.{passed_on, fails-later}
use Rattle.odht.proofs.lemmas.Rebuilding.{rebuilt-is}
use Rattle.odht.proofs.laws.rebuilt.Goals as goal

pub returns-clause-inserted : goal.returns-clause-inserted
returns-clause-inserted g c =
    let K = coding_of g.C.EncodedKey.ByteArray.LEN g.C.EncodedKey.ByteArray.bytes g.C.EncodedKey.ByteArray.of_bytes g.C.EncodedValue.ByteArray.LEN g.C.EncodedValue.ByteArray.bytes g.C.EncodedValue.ByteArray.of_bytes g.C.H.HashFn.hash g.C.Config.encode_key g.C.Config.encode_value g.C.Config.decode_key g.C.Config.decode_value in
    let items = c.args.items.now in
    let all = c.insert_all.ensures.all.0 (subst IsOk (sym c.in_ok-insert_all.was) refl) in
    let taken : take c.insert_all.result.0 items ≡ items = take_all c.insert_all.result.0 items (omega (arith, all)) in
    (c.in_ok-rebuilt.rebuilt, c.in_ok-rebuilt.ensures.ok, subst (λ (xs : List (g.row.C-Key.Denot × g.row.C-Value.Denot)). run (insert_owned K.format) c.in_ok-rebuilt.rebuilt (encoded_all K xs) ≡ Some c.insert_all.new.self) taken c.insert_all.ensures.inserted)

pub returns-clause-ok : goal.returns-clause-ok
returns-clause-ok g c P is =
    let K = coding_of g.C.EncodedKey.ByteArray.LEN g.C.EncodedKey.ByteArray.bytes g.C.EncodedKey.ByteArray.of_bytes g.C.EncodedValue.ByteArray.LEN g.C.EncodedValue.ByteArray.bytes g.C.EncodedValue.ByteArray.of_bytes g.C.H.HashFn.hash g.C.Config.encode_key g.C.Config.encode_value g.C.Config.decode_key g.C.Config.decode_value in
    let items = c.args.items.now in
    let all = c.insert_all.ensures.all.0 (subst IsOk (sym c.in_ok-insert_all.was) refl) in
    let taken : take c.insert_all.result.0 items ≡ items = take_all c.insert_all.result.0 items (omega (arith, all)) in
    rebuilt-is K items c.args.max_item_count c.args.max_load_factor_percent c.in_ok-rebuilt.rebuilt c.in_ok-rebuilt.ensures.ok c.insert_all.new.self (subst (λ (xs : List (g.row.C-Key.Denot × g.row.C-Value.Denot)). run (insert_owned K.format) c.in_ok-rebuilt.rebuilt (encoded_all K xs) ≡ Some c.insert_all.new.self) taken c.insert_all.ensures.inserted) P is

pub returns-in_err-insert_all-clause-err : goal.returns-in_err-insert_all-clause-err
returns-in_err-insert_all-clause-err g c =
    let r = c.from_residual-in_err-insert_all.result in
    let h = err_from_is_err_and r c.from_residual-in_err-insert_all.ensures.1 in
    let was = c.in_err-insert_all.was in
    let memory = passed_on r c.insert_all.result.1 h.1 h.2 was (IfErr-at_err _ was c.insert_all.ensures.memory) in
    fails-later _ _ _ c.with_capacity.result c.with_capacity.ensures.err r c.in_ok-rebuilt.was memory
