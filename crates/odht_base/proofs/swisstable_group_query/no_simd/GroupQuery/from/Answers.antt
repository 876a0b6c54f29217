use Rattle.std.proofs.Common.{◌∙◌, ◌*◌, ◌/◌, map, refl, sym, ap, subst, arith, w64}
use Rattle.std.specs.Prelude.{slice_get}
use Rattle.odht_base.specs.Groups.{IsWordReport}
use Rattle.odht_base.proofs.lemmas.Words.{from_le_bytes-num}
use Rattle.odht_base.proofs.lemmas.WordBits.{word_matches, word_free}
use Rattle.odht_base.proofs.swisstable_group_query.no_simd.GroupQuery.from.Goals as goal

pub returns-clause-matches : goal.returns-clause-matches
returns-clause-matches c =
    subst (λ xs. IsWordReport c.args.group.now c.args.h2 (map (λ j. j / 8) xs)) (sym c.of_bits.ensures)
    (word_matches c.args.group.now c.args.h2 c.from_le_bytes-group.result (c.args.h2 * 72340172838076673) c.told-group c.fits-group c.requires
    (c.from_le_bytes-group.ensures ∙ from_le_bytes-num w64 c.args.group.now c.told-group (omega arith)) refl)

pub returns-clause-free : goal.returns-clause-free
returns-clause-free c =
    ap (λ xs. slice_get (map (λ j. j / 8) xs) 0) c.of_bits-2.ensures
    ∙ word_free c.args.group.now c.from_le_bytes-group.result c.told-group c.fits-group (c.from_le_bytes-group.ensures ∙ from_le_bytes-num w64 c.args.group.now c.told-group (omega arith))
