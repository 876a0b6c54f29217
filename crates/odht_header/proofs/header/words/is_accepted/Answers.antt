use Rattle.std.proofs.Common.{◌≡◌, ◌∙◌, ◌<◌, ◌≤◌, length, sym, ap, arith, eqb-true, eq-eqb, true, true≢false}
use Rattle.std.proofs.lemmas.List.Elements.{All-from_get_or}
use Rattle.odht_base.specs.Numbers.{num}
use Rattle.odht_base.specs.Format.{Format, format_of}
use Rattle.odht_base.specs.Image.{image_len}
use Rattle.odht_base.specs.Decoded.{header_slots}
use Rattle.odht_base.specs.Load.{is_power_of_two, IsSlotCount}
use Rattle.odht_header.proofs.lemmas.HeaderFits.{IsOpening-opening_refusal, opening_refusal-IsOpening, front-IsHeader, IsHeader-front, version_of, fewest_bytes, fewest_slots, unfit}
use Rattle.odht_header.proofs.lemmas.PowersOfTwo.{same_test}
use Rattle.odht_header.proofs.header.words.is_accepted.Goals as goal

pub returns-then-bytes-len_of_slots : goal.returns-then-bytes-len_of_slots
returns-then-bytes-len_of_slots g c =
    let F : Format = format_of g.C.EncodedKey.ByteArray.LEN g.C.EncodedValue.ByteArray.LEN g.C.H.HashFn.hash in
    unfit _ (λ none.
    let h = (IsOpening-opening_refusal F c.args.bytes.now none).header in
    let fewest = fewest_bytes F (header_slots c.args.bytes.now) h.slots.least in
    omega (arith, fewest, h.length_is, c.len_of_slots.ensures, c.if-bytes-len_of_slots.true))

pub returns-then-not-has_front : goal.returns-then-not-has_front
returns-then-not-has_front g c =
    let F : Format = format_of g.C.EncodedKey.ByteArray.LEN g.C.EncodedValue.ByteArray.LEN g.C.H.HashFn.hash in
    unfit _ (λ none.
    let h = IsOpening-opening_refusal F c.args.bytes.now none in
    true≢false (sym (c.has_front.ensures.1 (front-IsHeader F (length c.args.bytes.now) c.args.bytes.now (omega (arith, h.long)) h.header)) ∙ c.if-not-has_front.true))

pub returns-then-read_u32-from_le_bytes : goal.returns-then-read_u32-from_le_bytes
returns-then-read_u32-from_le_bytes g c =
    let F : Format = format_of g.C.EncodedKey.ByteArray.LEN g.C.EncodedValue.ByteArray.LEN g.C.H.HashFn.hash in
    unfit _ (λ none.
    let h = IsOpening-opening_refusal F c.args.bytes.now none in
    c.if-read_u32-from_le_bytes.true (c.read_u32.ensures ∙ ap num h.header.version_is ∙ sym c.from_le_bytes.ensures))

pub returns-then-not-is_power_of_two : goal.returns-then-not-is_power_of_two
returns-then-not-is_power_of_two g c =
    let F : Format = format_of g.C.EncodedKey.ByteArray.LEN g.C.EncodedValue.ByteArray.LEN g.C.H.HashFn.hash in
    unfit _ (λ none.
    let h = IsOpening-opening_refusal F c.args.bytes.now none in
    let s = c.slot_count-slot_count in
    let slots = s.ensures ∙ ap header_slots c.of.ensures in
    true≢false (sym (same_test s.result s.type_inv ∙ ap is_power_of_two slots ∙ h.header.slots.power) ∙ sym c.is_power_of_two.ensures ∙ c.if-not-is_power_of_two.true))

pub returns : goal.returns
returns g c =
    let F : Format = format_of g.C.EncodedKey.ByteArray.LEN g.C.EncodedValue.ByteArray.LEN g.C.H.HashFn.hash in
    let B = c.args.bytes.now in
    let s = c.slot_count-slot_count in
    let is : s.result ≡ header_slots B = s.ensures ∙ ap header_slots c.of.ensures in
    let long : c.len_of_slots-2.result ≡ image_len F (header_slots B) = c.len_of_slots-2.ensures ∙ ap (image_len F) is in
    let least : image_len F 16 ≤ length B = omega (arith, c.len_of_slots.ensures, c.if-bytes-len_of_slots.false) in
    let version = version_of B (omega (arith, least)) (All-from_get_or (λ x. x < 256) _ 0 (λ i l. (c.type_inv.bytes i).fits)) (sym c.read_u32.ensures ∙ c.if-read_u32-from_le_bytes.false ∙ c.from_le_bytes.ensures) in
    let power : is_power_of_two (header_slots B) ≡ true = ap is_power_of_two (sym is) ∙ sym (same_test s.result s.type_inv) ∙ sym c.is_power_of_two.ensures ∙ c.if-not-is_power_of_two.false in (
      λ t.
          let fits : length B ≡ image_len F (header_slots B) = eqb-true _ _ t ∙ long in
          let slots : IsSlotCount (header_slots B) = record { power = power; least = fewest_slots F (header_slots B) (omega (arith, fits, least)) } in
          opening_refusal-IsOpening F B (record {
            long = omega (arith, least);
            header = IsHeader-front F (length B) B (c.has_front.ensures.0 c.if-not-has_front.false) version slots fits;
          }),
      λ none. eq-eqb _ _ ((IsOpening-opening_refusal F B none).header.length_is ∙ sym long),
    )
