use Rattle.std.proofs.Common.{◌≡◌, ◌∙◌, ◌++◌, sym, ap, arith, length, take, List, [], ◌∷◌, ℕ, refl, w16, w64}
use Rattle.std.specs.Int.{to_le_bytes}
use Rattle.std.proofs.lemmas.List.{take_all}
use Rattle.odht_base.specs.Bytes.{overwritten_at}
use Rattle.odht_base.specs.Format.{format_of}
use Rattle.odht_header.proofs.lemmas.HeaderWrites.{field-step, fields-header_bytes}
use Rattle.odht_header.proofs.layout.Layout.write_header.Goals as goal

pub returns : goal.returns
returns c hash =
    let F = format_of c.args.self.key_len c.args.self.value_len hash in
    let B0 = c.args.header.now in
    let B1 = c.write_slice.new.all in
    let B2 = c.write_slice-2.new.all in
    let B3 = c.write_slice-3.new.all in
    let B4 = c.write_slice-4.new.all in
    let B5 = c.write_slice-5.new.all in
    let B6 = c.write_slice-6.new.all in
    let B7 = c.write_slice-7.new.all in
    let n0 : length B0 ≡ 32 = c.requires in
    let n1 : length B1 ≡ 32 = omega arith in
    let n2 : length B2 ≡ 32 = omega arith in
    let n3 : length B3 ≡ 32 = omega arith in
    let n4 : length B4 ≡ 32 = omega arith in
    let n5 : length B5 ≡ 32 = omega arith in
    let n6 : length B6 ≡ 32 = omega arith in
    let n7 : length B7 ≡ 32 = omega arith in
    let tag : List ℕ = 79 ∷ 68 ∷ 72 ∷ 84 ∷ [] in
    let lengths : List ℕ = 1 ∷ F.key_len ∷ F.value_len ∷ 32 ∷ [] in
    let sizes : List ℕ = 79 ∷ 68 ∷ 72 ∷ 84 ∷ 1 ∷ F.key_len ∷ F.value_len ∷ 32 ∷ [] in
    let items = to_le_bytes w64 c.args.item_count in
    let slots = to_le_bytes w64 c.args.slot_count in
    let version : List ℕ = 0 ∷ 0 ∷ 0 ∷ 2 ∷ [] in
    let factor = to_le_bytes w16 c.args.max_load_factor.0 in
    let w2 : B2 ≡ overwritten_at B1 4 lengths = c.write_slice-2.ensures in
    let w3 : B3 ≡ overwritten_at B2 8 items = c.write_slice-3.ensures ∙ ap (overwritten_at B2 8) c.to_le_bytes.ensures in
    let w4 : B4 ≡ overwritten_at B3 16 slots = c.write_slice-4.ensures ∙ ap (overwritten_at B3 16) c.to_le_bytes-2.ensures in
    let w6 : B6 ≡ overwritten_at B5 28 factor = c.write_slice-6.ensures ∙ ap (overwritten_at B5 28) c.to_le_bytes-3.ensures in
    let f1 : take 4 B1 ≡ tag = field-step B0 B1 [] tag 0 4 refl (omega (arith, n0)) refl c.write_slice.ensures in
    let f2 : take 8 B2 ≡ sizes = field-step B1 B2 tag lengths 4 8 f1 (omega (arith, n1)) refl w2 in
    let f3 : take 16 B3 ≡ sizes ++ items = field-step B2 B3 sizes items 8 16 f2 (omega (arith, n2)) refl w3 in
    let f4 : take 24 B4 ≡ (sizes ++ items) ++ slots = field-step B3 B4 (sizes ++ items) slots 16 24 f3 (omega (arith, n3)) refl w4 in
    let f5 : take 28 B5 ≡ ((sizes ++ items) ++ slots) ++ version = field-step B4 B5 ((sizes ++ items) ++ slots) version 24 28 f4 (omega (arith, n4)) refl c.write_slice-5.ensures in
    let f6 : take 30 B6 ≡ (((sizes ++ items) ++ slots) ++ version) ++ factor = field-step B5 B6 (((sizes ++ items) ++ slots) ++ version) factor 28 30 f5 (omega (arith, n5)) refl w6 in
    let f7 = field-step B6 B7 ((((sizes ++ items) ++ slots) ++ version) ++ factor) (0 ∷ 0 ∷ []) 30 32 f6 (omega (arith, n6)) refl c.write_slice-7.ensures in
    sym (take_all 32 B7 (omega (arith, n7))) ∙ f7 ∙ fields-header_bytes F c.args.slot_count c.args.item_count c.args.max_load_factor.0
