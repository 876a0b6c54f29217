use Rattle.std.proofs.Common.{◌≡◌, ◌*◌, ◌∙◌, sym, ap, subst, arith, length, replicate, take_at}
use Rattle.odht_raw.specs.Words.{bytes_at, empty, entry_len, Format, format_of, image, image_len, with_count}
use Rattle.odht_raw.specs.Frame.{IsAccepted}
use Rattle.odht_raw.proofs.lemmas.NewTables.{bytes_at-zeros, IsAccepted-new}
use Rattle.odht_raw.proofs.memory_layout.new_tables.allocate.Given.{Over}
use Rattle.odht_raw.proofs.memory_layout.new_tables.allocate.Goals as goal
use Rattle.odht_raw.proofs.memory_layout.new_tables.allocate.Goals.{After-new}

pub write_empty-requires-clause-zeros : goal.write_empty-requires-clause-zeros
write_empty-requires-clause-zeros g c =
    let F : Format = format_of g.C.EncodedKey.ByteArray.LEN g.C.EncodedValue.ByteArray.LEN g.C.H.HashFn.hash in
    let n = c.args.slot_count * entry_len F in
    let long : c.in-Some.len ≡ image_len F c.args.slot_count = c.in-Some.ensures.len in
    let zeros : c.as_mut_slice.result.now ≡ replicate c.in-Some.len 0 = c.as_mut_slice.ensures.value ∙ c.in_ok-bytes.ensures.items_if_clones_equal (λ y e. e) in
    ap (λ B. bytes_at B 32 n) zeros ∙ bytes_at-zeros c.in-Some.len 32 n (omega (arith, long))

-- the bytes are those that were written
all : (g : Over) (c : After-new g)
    → c.new.result ≡ with_count (image (format_of g.C.EncodedKey.ByteArray.LEN g.C.EncodedValue.ByteArray.LEN g.C.H.HashFn.hash) (empty c.args.slot_count c.args.max_load_factor.0)) c.args.item_count
all g c =
    let long : length c.write_empty.new.bytes ≡ c.in_ok-bytes.bytes.len = omega (arith, c.write_empty.auto.bytes, c.as_mut_slice.ensures.len) in
    c.new.ensures ∙ take_at c.write_empty.new.bytes _ c.in_ok-bytes.bytes.len long ∙ c.write_empty.ensures g.C.H.HashFn.hash

pub from_raw_bytes_unchecked-requires-after_bounds :
    goal.from_raw_bytes_unchecked-requires-after_bounds
from_raw_bytes_unchecked-requires-after_bounds g c κs within =
    let F : Format = format_of g.C.EncodedKey.ByteArray.LEN g.C.EncodedValue.ByteArray.LEN g.C.H.HashFn.hash in
    subst (IsAccepted F) (sym (all g c)) (IsAccepted-new F c.args.slot_count c.args.item_count c.args.max_load_factor.0 c.requires.slots)

pub returns-clause-ok : goal.returns-clause-ok
returns-clause-ok g c = c.from_raw_bytes_unchecked.ensures ∙ all g (goal.at.returns-clause-ok g c).After-new
