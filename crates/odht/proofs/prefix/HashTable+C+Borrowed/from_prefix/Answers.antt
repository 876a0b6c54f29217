use Rattle.std.proofs.Common.{rules, ◌≡◌, ◌∙◌, sym, ap, Err, Some, None, take}
use Rattle.std.specs.Result.{result_err}
use Rattle.odht_raw.specs.Words.{Format, format_of, view_refusal}
use Rattle.odht_header.proofs.lemmas.Formats.{IsFormat-format_of}
use Rattle.odht_raw.specs.Prefixes.{IsFront, front_refusal}
use Rattle.odht_raw.proofs.lemmas.Prefixes.{front_refusal-prefix, front_refusal-view, valid_front}
use Rattle.odht.proofs.prefix.HashTable+C+Borrowed.from_prefix.Goals as goal

pub returns-in_err-len-clause-err : goal.returns-in_err-len-clause-err
returns-in_err-len-clause-err g c =
    let F : Format = format_of g.C.EncodedKey.ByteArray.LEN g.C.EncodedValue.ByteArray.LEN g.C.H.HashFn.hash in
    let x = c.in_err-len.field-0.0 in
    let refusal : c.from_residual.result ≡ Err x = search rules in
    ap result_err refusal ∙ sym (front_refusal-prefix F c.args.bytes.now x (sym c.table_len.ensures.err ∙ ap result_err c.in_err-len.was))

pub returns-in_err-table-clause-err : goal.returns-in_err-table-clause-err
returns-in_err-table-clause-err g c =
    let F : Format = format_of g.C.EncodedKey.ByteArray.LEN g.C.EncodedValue.ByteArray.LEN g.C.H.HashFn.hash in
    let B = c.args.bytes.now in
    let n = c.in_ok-len.len in
    let x = c.in_err-table.field-0.0 in
    let is : IsFront F B n = c.in_ok-len.ensures.ok in
    let refusal : c.from_residual-in_err-table.result ≡ Err x = search rules in
    let view : view_refusal F (take n B) ≡ Some x =
    ap (view_refusal F) (sym (c.new.ensures ∙ c.split_at.ensures.front)) ∙ sym c.from_raw_bytes.ensures.err ∙ ap result_err c.in_err-table.was in
    ap result_err refusal ∙ sym (front_refusal-view F B n is ∙ view)

pub returns-clause-err : goal.returns-clause-err
returns-clause-err g c =
    let F : Format = format_of g.C.EncodedKey.ByteArray.LEN g.C.EncodedValue.ByteArray.LEN g.C.H.HashFn.hash in
    let B = c.args.bytes.now in
    let n = c.in_ok-len.len in
    let is : IsFront F B n = c.in_ok-len.ensures.ok in
    let view : view_refusal F (take n B) ≡ None =
    ap (view_refusal F) (sym (c.new.ensures ∙ c.split_at.ensures.front)) ∙ sym c.from_raw_bytes.ensures.err ∙ ap result_err c.in_ok-table.was in
    sym (front_refusal-view F B n is ∙ view)

pub returns-in_err-len-clause-valid : goal.returns-in_err-len-clause-valid
returns-in_err-len-clause-valid g c table rest is joined =
    let F : Format = format_of g.C.EncodedKey.ByteArray.LEN g.C.EncodedValue.ByteArray.LEN g.C.H.HashFn.hash in
    let f = IsFormat-format_of _ _ _ _ g.met.C.Config.key_fits g.met.C.Config.value_fits g.met.C.Config.key_hashes g.met.C.H.HashFn.fits in
    valid_front F f table rest is c.from_residual.result (returns-in_err-len-clause-err g c ∙ ap (front_refusal F) joined)

pub returns-in_err-table-clause-valid : goal.returns-in_err-table-clause-valid
returns-in_err-table-clause-valid g c table rest is joined =
    let F : Format = format_of g.C.EncodedKey.ByteArray.LEN g.C.EncodedValue.ByteArray.LEN g.C.H.HashFn.hash in
    let f = IsFormat-format_of _ _ _ _ g.met.C.Config.key_fits g.met.C.Config.value_fits g.met.C.Config.key_hashes g.met.C.H.HashFn.fits in
    valid_front F f table rest is c.from_residual-in_err-table.result (returns-in_err-table-clause-err g c ∙ ap (front_refusal F) joined)
