use Rattle.std.proofs.Common.{rules, ◌≡◌, ◌∙◌, sym, ap, subst, Some}
use Rattle.std.proofs.lemmas.Result.{IfOk-from_err, err_from_is_err_and}
use Rattle.odht_raw.specs.Words.{Format, format_of, IsFormat, IsImage}
use Rattle.odht_raw.specs.Frame.{IsAccepted}
use Rattle.odht_raw.proofs.lemmas.Accepted.{IsAccepted-IsValidBytes}
use Rattle.odht.proofs.lemmas.NewRefusals.{fails-passed, fails-made}
use Rattle.odht_header.proofs.lemmas.Formats.{IsFormat-format_of}
use Rattle.odht.proofs.lemmas.Plain.{the_table, decoded_image}
use Rattle.odht.proofs.hash_table_owned.HashTableOwned.with_capacity.Given.{Over}
use Rattle.odht.proofs.hash_table_owned.HashTableOwned.with_capacity.Goals as goal

abbrev format : Over → Format
format g = format_of g.C.EncodedKey.ByteArray.LEN g.C.EncodedValue.ByteArray.LEN g.C.H.HashFn.hash

fits : (g : Over) → IsFormat (format g)
fits g = IsFormat-format_of _ _ _ _ g.met.C.Config.key_fits g.met.C.Config.value_fits g.met.C.Config.key_hashes g.met.C.H.HashFn.fits

pub returns-in_err-bytes-clause-ok : goal.returns-in_err-bytes-clause-ok
returns-in_err-bytes-clause-ok g c = IfOk-from_err c.from_residual.result _ c.from_residual.ensures.0

pub returns-in_err-bytes-clause-err : goal.returns-in_err-bytes-clause-err
returns-in_err-bytes-clause-err g c =
    let h = err_from_is_err_and c.from_residual.result c.from_residual.ensures.1 in
    let fails = c.new_bytes.ensures.err in
    fails-passed _ _ _ c.new_bytes.result (record { capacity = fails.capacity; memory = fails.memory }) c.from_residual.result h.1 h.2 c.in_err-bytes.was

pub from_raw_bytes_unchecked-table-requires-after_bounds :
    goal.from_raw_bytes_unchecked-table-requires-after_bounds
from_raw_bytes_unchecked-table-requires-after_bounds g c κs within =
    let made = c.in_ok-bytes.ensures.ok in
    let same : c.new.result ≡ c.in_ok-bytes.bytes.items = search rules in
    subst (IsAccepted (format g)) (sym same) (IsAccepted-IsValidBytes (format g) c.in_ok-bytes.bytes.items (made.table, made.image))

pub invariant_of-result : goal.invariant_of-result
invariant_of-result g c =
    let made = c.in_ok-bytes.ensures.ok in
    let same : c.from_raw_bytes_unchecked-table.result ≡ c.in_ok-bytes.bytes.items = search rules in
    decoded_image (format g) _ (fits g) (made.table, subst (IsImage (format g) made.table) (sym same) made.image)

pub returns-clause-ok : goal.returns-clause-ok
returns-clause-ok g c =
    let made = c.in_ok-bytes.ensures.ok in
    let same : c.from_raw_bytes_unchecked-table.result ≡ c.in_ok-bytes.bytes.items = search rules in
    made.new ∙ ap Some (sym (the_table (format g) made.table _ (fits g) (subst (IsImage (format g) made.table) (sym same) made.image)))

pub returns-clause-err : goal.returns-clause-err
returns-clause-err g c =
    let fails = c.new_bytes.ensures.err in
    fails-made _ _ _ c.new_bytes.result (record { capacity = fails.capacity; memory = fails.memory }) _ c.in_ok-bytes.was
