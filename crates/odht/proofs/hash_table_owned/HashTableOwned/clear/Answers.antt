use Rattle.std.proofs.Common.{◌∙◌, ap}
use Rattle.odht_raw.specs.Words.{empty, Format, format_of, header_factor, header_slots, image, IsFormat, slot_count}
use Rattle.odht_header.proofs.lemmas.Formats.{IsFormat-format_of}
use Rattle.odht.proofs.lemmas.Moves.{cleared_image}
use Rattle.odht.proofs.lemmas.Plain.{the_table, decoded_image}
use Rattle.odht.proofs.hash_table_owned.HashTableOwned.clear.Given.{Over}
use Rattle.odht.proofs.hash_table_owned.HashTableOwned.clear.Goals as goal

abbrev format : Over → Format
format g = format_of g.C.EncodedKey.ByteArray.LEN g.C.EncodedValue.ByteArray.LEN g.C.H.HashFn.hash

fits : (g : Over) → IsFormat (format g)
fits g = IsFormat-format_of _ _ _ _ g.met.C.Config.key_fits g.met.C.Config.value_fits g.met.C.Config.key_hashes g.met.C.H.HashFn.fits

pub invariant_of-self : goal.invariant_of-self
invariant_of-self g c =
    let F = format g in
    decoded_image F _ (fits g) (_, cleared_image F _ c.self.inside.table c.self.invariant c.clear.new.self (c.clear.ensures.bytes ∙ ap (λ s. image F (empty (header_slots s.table) (header_factor s.table))) c.self-inside.view_is))

pub returns : goal.returns
returns g c =
    let F = format g in
    the_table F _ _ (fits g) (cleared_image F _ c.self.inside.table c.self.invariant c.clear.new.self (c.clear.ensures.bytes ∙ ap (λ s. image F (empty (header_slots s.table) (header_factor s.table))) c.self-inside.view_is))
    ∙ ap (λ P. empty (slot_count P) P.factor) c.self.view_is
