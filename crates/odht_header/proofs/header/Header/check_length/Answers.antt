use Rattle.std.proofs.Common.{◌≡◌, ◌∙◌, ℕ, List, Err, ap, sym}
use Rattle.std.proofs.lemmas.Bool.{eq-eqb, ne_eqb}
use Rattle.odht_base.specs.Format.{Format, format_of}
use Rattle.odht_base.specs.Image.{image_len}
use Rattle.odht_base.specs.Decoded.{header_slots}
use Rattle.odht_header.specs.declared.error.Error.TheVariants.{WrongLength}
use Rattle.odht_header.proofs.header.Header.check_length.Goals as goal

-- the computed length is that of the header's slots
expected_is : (F : Format) (B : List ℕ) (s n : ℕ) → n ≡ image_len F s → s ≡ header_slots B → n ≡ image_len F (header_slots B)
expected_is F B s n long is = long ∙ ap (image_len F) is

pub returns-then-found-expected : goal.returns-then-found-expected
returns-then-found-expected c hash =
    let F : Format = format_of c.args.layout.key_len c.args.layout.value_len hash in
    let B = c.args.self.now in
    let is = expected_is F B _ _ (c.len_of_slots-expected.ensures hash) c.slot_count-slot_count.ensures in
    rw (eq-eqb c.args.found (image_len F (header_slots B)) (c.if-found-expected.true ∙ is))

pub returns-else-found-expected : goal.returns-else-found-expected
returns-else-found-expected c hash =
    let F : Format = format_of c.args.layout.key_len c.args.layout.value_len hash in
    let B = c.args.self.now in
    let is = expected_is F B _ _ (c.len_of_slots-expected.ensures hash) c.slot_count-slot_count.ensures in
    rw (ne_eqb c.args.found (image_len F (header_slots B)) (λ e. c.if-found-expected.false (e ∙ sym is)))
    (λ i. Err (WrongLength (c.slot_count-slot_count.ensures i) c.args.found (is i)))
