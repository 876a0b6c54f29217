use Rattle.std.proofs.Common.{rules, ◌≡◌, ◌∙◌, Some, subst, sym}
use Rattle.odht_raw.specs.Words.{Format, format_of, IsValidBytes}
use Rattle.odht_header.proofs.lemmas.Formats.{IsFormat-format_of}
use Rattle.odht_raw.specs.Frame.{IsAccepted}
use Rattle.odht_raw.proofs.lemmas.Accepted.{IsAccepted-IsValidBytes}
use Rattle.odht.proofs.lemmas.Plain.{decoded_image}
use Rattle.odht.proofs.hash_table_owned.HashTableOwned.reserve.Goals as goal

pub from_raw_bytes_unchecked-requires-after_bounds : goal.from_raw_bytes_unchecked-requires-after_bounds
from_raw_bytes_unchecked-requires-after_bounds g c κs within =
    let F : Format = format_of g.C.EncodedKey.ByteArray.LEN g.C.EncodedValue.ByteArray.LEN g.C.H.HashFn.hash in
    let some : c.in-Ok-Some.field-0 ≡ Some c.in-Ok-Some.moved = search rules in
    let made = rw (some) at c.in-Ok-Some.ensures.made in
    subst (IsAccepted F) (sym c.new.ensures) (IsAccepted-IsValidBytes F c.in-Ok-Some.moved.items made.0)

pub invariant_of-self : goal.invariant_of-self
invariant_of-self g c =
    let F : Format = format_of g.C.EncodedKey.ByteArray.LEN g.C.EncodedValue.ByteArray.LEN g.C.H.HashFn.hash in
    let fits = IsFormat-format_of _ _ _ _ g.met.C.Config.key_fits g.met.C.Config.value_fits g.met.C.Config.key_hashes g.met.C.H.HashFn.fits in
    let some : c.in-Ok-Some.field-0 ≡ Some c.in-Ok-Some.moved = search rules in
    let made = rw (some) at c.in-Ok-Some.ensures.made in
    decoded_image F _ fits (subst (IsValidBytes F) (sym (c.from_raw_bytes_unchecked.ensures ∙ c.new.ensures)) made.0)
