use Rattle.std.proofs.Common.{rules, ◌≡◌, ◌∙◌, ◌+◌, ◌*◌, ◌≤◌, sym, ap, subst, arith, length, replicate, take_at}
use Rattle.std.proofs.lemmas.List.{length-replicate}
use Rattle.std.specs.Prelude.{IfOk}
use Rattle.odht_base.specs.Decoded.{decoded_table, header_factor, header_slots}
use Rattle.odht_base.specs.Format.{Format, IsFormat, format_of}
use Rattle.odht_base.specs.Image.{image, image_len}
use Rattle.odht_base.specs.Load.{IsSlotCount}
use Rattle.odht_base.specs.Table.{empty, slot_count}
use Rattle.odht_base.specs.Valid.{IsImage}
use Rattle.odht_base.proofs.lemmas.Fits.{IsSized-IsPlaced}
use Rattle.odht_base.proofs.lemmas.Image.{length-image}
use Rattle.odht_raw.proofs.lemmas.NewTables.{with_count-new}
use Rattle.odht.specs.Dynamic.{dyn_format}
use Rattle.odht.specs.DynOwned.{IsDynWith}
use Rattle.odht_header.proofs.lemmas.Formats.{IsFormat-format_of}
use Rattle.odht.proofs.lemmas.Plain.{the_table}
use Rattle.odht.proofs.lemmas.Moves.{cleared_image, slots_of_image}
use Rattle.odht_tool_writes.specs.Deletes.{cleared}
use Rattle.odht_tool_writes.proofs.NewTables.{on_value}
use Rattle.odht_tool_writes.proofs.dynamic.deletes.cleared.Goals as goal

pub init_parts-requires-clause-slots : goal.init_parts-requires-clause-slots
init_parts-requires-clause-slots g c =
    let F = dyn_format c.args.old.now g.H.HashFn.hash in
    let P = c.requires.0 in
    let slots : c.slot_count.result ≡ slot_count P =
    c.slot_count.ensures ∙ ap header_slots (c.of-header.ensures ∙ c.raw_bytes-bytes.ensures.bytes) ∙ slots_of_image F P c.args.old.now.store.0.now c.requires.1 in
    subst IsSlotCount (sym slots) c.requires.1.valid.placed.slots

pub init_parts-requires-clause-len : goal.init_parts-requires-clause-len
init_parts-requires-clause-len g c =
    let F = dyn_format c.args.old.now g.H.HashFn.hash in
    let P = c.requires.0 in
    let is = c.requires.1 in
    let B = c.raw_bytes-bytes.result.now in
    let zeros : c.as_mut_slice.result.now ≡ replicate (length B) 0 = c.as_mut_slice.ensures.value ∙ c.in-Ok.ensures.items_if_clones_equal (λ y e. e) in
    let slots : slot_count P ≡ c.slot_count.result =
    sym (c.slot_count.ensures ∙ ap header_slots (c.of-header.ensures ∙ c.raw_bytes-bytes.ensures.bytes) ∙ slots_of_image F P c.args.old.now.store.0.now is) in
    let key = sym c.layout-layout.ensures.key in
    let value = sym c.layout-layout.ensures.value in
    let long : length B ≡ image_len F (slot_count P) =
    ap length (c.raw_bytes-bytes.ensures.bytes ∙ is.bytes) ∙ length-image F P (IsSized-IsPlaced F P is.valid.placed) in
    ap length zeros ∙ length-replicate (length B) 0 ∙ long ∙ (λ i. 32 + slots i * (key i + value i) + slots i + 16)

pub returns-clause-ok : goal.returns-clause-ok
returns-clause-ok g c P is =
    let h = g.H.HashFn.hash in
    let B = c.args.old.now.store.0.now in
    let F = dyn_format c.args.old.now h in
    let layout = c.layout-layout.result in
    let key = c.layout-layout.ensures.key in
    let value = c.layout-layout.ensures.value in
    let formats : format_of layout.key_len layout.value_len h ≡ F = λ i. format_of (key i) (value i) h in
    let header = c.of-header.ensures ∙ c.raw_bytes-bytes.ensures.bytes in
    let s = c.slot_count.result in
    let load = c.max_load_factor.result.0 in
    let slots : s ≡ header_slots B = c.slot_count.ensures ∙ ap header_slots header in
    let factor : load ≡ header_factor B = c.max_load_factor.ensures ∙ ap header_factor header in
    let count : IsSlotCount s = subst IsSlotCount (sym (slots ∙ slots_of_image F P B is)) is.valid.placed.slots in
    let out = c.init_parts.new.bytes in
    let long : length out ≡ c.in-Ok.empty.len = omega (arith, c.init_parts.auto.bytes, c.as_mut_slice.ensures.len) in
    let written : c.as_slice.result.now ≡ image F (empty (header_slots B) (header_factor B)) =
    c.as_slice.ensures.value ∙ take_at out _ c.in-Ok.empty.len long ∙ c.init_parts.ensures h ∙ with_count-new (format_of layout.key_len layout.value_len h) s 0 load count
    ∙ (λ i. image (formats i) (empty (slots i) (factor i))) in
    let image : IsImage F (cleared P) c.as_slice.result.now = cleared_image F P B is c.as_slice.result.now written in
    let G : Format = format_of layout.key_len layout.value_len h in
    let key_short : layout.key_len ≤ 255 = omega arith in
    let value_short : layout.value_len ≤ 255 = omega arith in
    let f : IsFormat G = IsFormat-format_of _ _ _ _ key_short value_short c.layout-layout.ensures.hashes g.met.H.HashFn.fits in
    let out_bytes = c.as_slice.result.now in
    let here : decoded_table G out_bytes ≡ cleared P = the_table G (cleared P) out_bytes f (subst (λ (X : Format). IsImage X (cleared P) out_bytes) (sym formats) image) in
    let copied : IfOk c.map_err.result (IsDynWith layout.key_len layout.value_len (λ Q. IsImage G Q out_bytes)) = search rules in
    on_value c.map_err.result _ _ (λ t made. record {
      key_len = made.key_len ∙ key;
      value_len = made.value_len ∙ value;
      store = sym (the_table G t.store out_bytes f made.store) ∙ here;
    }) copied
