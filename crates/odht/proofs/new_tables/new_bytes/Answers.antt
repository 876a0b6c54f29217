use Rattle.std.proofs.Common.{◌≡◌, ◌*◌, ◌∙◌, ap, refl, arith, length, replicate, take_at}
use Rattle.std.proofs.lemmas.List.{length-replicate}
use Rattle.std.specs.Prelude.{option_map}
use Rattle.odht_raw.specs.Words.{bytes_at, empty, entry_len, factor_of, Format, format_of, image, with_count}
use Rattle.odht_base.proofs.lemmas.FreeSlots.{empty-IsValid}
use Rattle.odht_header.specs.Layouts.{IsLayout}
use Rattle.odht_raw.specs.DynParts.{bytes_coding}
use Rattle.odht_raw.proofs.lemmas.NewTables.{bytes_at-zeros, with_count-new}
use Rattle.odht.proofs.lemmas.DynOwned.{fails_large, fails_memory, fails_never}
use Rattle.odht.proofs.new_tables.new_bytes.Given.{Over}
use Rattle.odht.proofs.new_tables.new_bytes.Goals.{In-Some, In-Ok}
use Rattle.odht.proofs.new_tables.new_bytes.Goals as goal

-- how large the table is
layout : (g : Over) (c : In-Some g) → IsLayout (format_of (g.L.Lengths.key_len c.args.lengths) (g.L.Lengths.value_len c.args.lengths) g.H.HashFn.hash) c.args.max_item_count (factor_of c.args.max_load_factor_percent) c.in-Some.slot_count c.in-Some.len
layout g c = rw (c.of_lengths-layout.ensures.key, c.of_lengths-layout.ensures.value, c.from_percent-factor.ensures) at c.in-Some.ensures.some g.H.HashFn.hash

pub returns-in_default-clause-err : goal.returns-in_default-clause-err
returns-in_default-clause-err g c =
    let F : Format = format_of (g.L.Lengths.key_len c.args.lengths) (g.L.Lengths.value_len c.args.lengths) g.H.HashFn.hash in
    let none = rw (c.of_lengths-layout.ensures.key, c.of_lengths-layout.ensures.value, c.from_percent-factor.ensures) at c.in_default.ensures.none g.H.HashFn.hash in
    fails_large (bytes_coding F) _ _ (none.0 refl)

pub returns-in_default-vec-clause-err : goal.returns-in_default-vec-clause-err
returns-in_default-vec-clause-err g c =
    let F : Format = format_of (g.L.Lengths.key_len c.args.lengths) (g.L.Lengths.value_len c.args.lengths) g.H.HashFn.hash in
    fails_memory (bytes_coding F) _ _ _ _ (layout g (goal.at.returns-in_default-vec-clause-err g c).In-Some)

-- the bytes are zeros
zeros : (g : Over) (c : goal.After-as_mut_slice g) → c.as_mut_slice.result.now ≡ replicate c.in-Some.len 0
zeros g c = c.as_mut_slice.ensures.value ∙ c.in-Ok.ensures.items_if_clones_equal (λ y e. e)

pub write_empty-requires-clause-slots : goal.write_empty-requires-clause-slots
write_empty-requires-clause-slots g c = (layout g (goal.at.write_empty-requires-clause-slots g c).In-Some).least.is_count

pub write_empty-requires-clause-len : goal.write_empty-requires-clause-len
write_empty-requires-clause-len g c = ap length (zeros g c) ∙ length-replicate c.in-Some.len 0 ∙ (layout g (goal.at.write_empty-requires-clause-len g c).In-Some).long

pub write_empty-requires-clause-zeros : goal.write_empty-requires-clause-zeros
write_empty-requires-clause-zeros g c =
    let F : Format = format_of (g.L.Lengths.key_len c.args.lengths) (g.L.Lengths.value_len c.args.lengths) g.H.HashFn.hash in
    let n = c.in-Some.slot_count * entry_len F in
    let long = (layout g (goal.at.write_empty-requires-clause-zeros g c).In-Some).long in
    ap (λ B. bytes_at B 32 n) (zeros g c) ∙ bytes_at-zeros c.in-Some.len 32 n (omega (arith, long))

pub returns-clause-ok : goal.returns-clause-ok
returns-clause-ok g c =
    let F : Format = format_of (g.L.Lengths.key_len c.args.lengths) (g.L.Lengths.value_len c.args.lengths) g.H.HashFn.hash in
    let s = c.in-Some.slot_count in
    let f = factor_of c.args.max_load_factor_percent in
    let at = layout g (goal.at.returns-clause-ok g c).In-Some in
    let count = at.least.is_count in
    let out = c.write_empty.new.bytes in
    let long : length out ≡ c.in-Ok.bytes.len = omega (arith, c.write_empty.auto.bytes, c.as_mut_slice.ensures.len) in
    record {
      table = empty s f;
      new = ap (option_map (λ t. empty t f)) at.slots;
      image = record {
        valid = empty-IsValid s f F count (omega (arith, c.requires.percent.0)) (omega (arith, c.requires.percent.1));
        bytes = take_at out _ c.in-Ok.bytes.len long ∙ c.write_empty.ensures F.hash ∙ ap (λ t. with_count (image F (empty s t)) 0) c.from_percent-factor.ensures ∙ with_count-new F s 0 f count;
      };
    }

pub returns-clause-err : goal.returns-clause-err
returns-clause-err g c =
    let F : Format = format_of (g.L.Lengths.key_len c.args.lengths) (g.L.Lengths.value_len c.args.lengths) g.H.HashFn.hash in
    fails_never (bytes_coding F) _ _ _ _ (layout g (goal.at.returns-clause-err g c).In-Some) _
