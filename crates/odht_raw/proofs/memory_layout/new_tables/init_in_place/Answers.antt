use Rattle.std.proofs.Common.{◌∙◌, sym, ap, subst, length}
use Rattle.odht_base.specs.Format.{Format, format_of}
use Rattle.odht_raw.specs.Frame.{IsAccepted}
use Rattle.odht_raw.proofs.lemmas.Borrows.{borrowed-bytes}
use Rattle.odht_raw.proofs.lemmas.NewTables.{IsAccepted-new}
use Rattle.odht_raw.proofs.memory_layout.new_tables.init_in_place.Goals as goal

pub from_raw_bytes_unchecked-requires-after_bounds :
    goal.from_raw_bytes_unchecked-requires-after_bounds
from_raw_bytes_unchecked-requires-after_bounds g c κs within =
    let F : Format = format_of g.C.EncodedKey.ByteArray.LEN g.C.EncodedValue.ByteArray.LEN g.C.H.HashFn.hash in
    let same = borrowed-bytes g.M.ByteStore.bytes g.M.ByteStoreMut.holding g.M.ByteStoreMut.after_borrow g.met.M.ByteStoreMut.held g.met.M.ByteStoreMut.after_borrow_fits c.args.data c.init_parts.new.bytes
    (c.init_parts.auto.bytes ∙ ap length c.bytes_mut.ensures.value) in
    subst (IsAccepted F) (sym (same ∙ c.init_parts.ensures g.C.H.HashFn.hash)) (IsAccepted-new F c.args.slot_count c.args.item_count c.args.max_load_factor.0 c.requires.slots)
