use Rattle.std.proofs.Common.{◌++◌, ◌∙◌, ◌≡◌, ℕ, List, All, Some, sym, ap, subst, arith}
use Rattle.std.specs.List.{filter_map}
use Rattle.odht_raw.specs.Words.{count, empty, Format, format_of, header_bytes, header_count, header_factor, parts, place_all, walk}
use Rattle.odht_base.specs.Map.{KeysApart}
use Rattle.odht_base.proofs.lemmas.DistinctKeys.{walk-KeysApart}
use Rattle.odht_header.proofs.lemmas.Formats.{IsFormat-format_of}
use Rattle.odht_raw.specs.Checks.{cells_of}
use Rattle.odht_raw.specs.DynParts.{DynParts, HasLengthsOf, parts_format}
use Rattle.odht_raw.proofs.lemmas.Accepted.{accepted_opening}
use Rattle.odht_raw.proofs.lemmas.Walks.{decoded_pairs-image}
use Rattle.odht.proofs.lemmas.GrownBytes.{headed_accepted, headed_count, headed_factor}
use Rattle.odht.proofs.lemmas.Moves.{moved-fits, moved-image}
use Rattle.odht.proofs.lemmas.ViewInserts.{count_header, factor_header}
use Rattle.odht.proofs.growth.move_parts.Given.{Over}
use Rattle.odht.proofs.growth.move_parts.Goals.{After-write_walked}
use Rattle.odht.proofs.growth.move_parts.Goals as goal

abbrev format : (g : Over) → After-write_walked g → Format
format g c = format_of (g.L.Lengths.key_len c.args.lengths) (g.L.Lengths.value_len c.args.lengths) g.H.HashFn.hash

pub of-header-requires : goal.of-header-requires
of-header-requires g c = (accepted_opening (format_of (g.L.Lengths.key_len c.args.lengths) (g.L.Lengths.value_len c.args.lengths) g.H.HashFn.hash) c.args.bytes.now c.requires.accepted).long

pub write_walked-requires-clause-lengths : goal.write_walked-requires-clause-lengths
write_walked-requires-clause-lengths g c = subst (λ (S : DynParts). All (HasLengthsOf S.key_len S.value_len) c.iter-walk.result) c.parts_in.ensures.parts c.iter-walk.ensures.lengths

pub returns-clause-moved : goal.returns-clause-moved
returns-clause-moved g c =
    let F = format g (goal.at.returns-clause-moved g c).After-write_walked in
    let s : ℕ = c.args.slot_count in
    let n : ℕ = c.item_count-items.result in
    let f : ℕ = c.max_load_factor-factor.result.0 in
    let T : List ℕ = c.write_walked.new.bytes in
    let header = c.of-header.ensures in
    let fit = c.requires.pair in
    let form = IsFormat-format_of _ _ _ _ fit.key fit.value fit.hashes g.met.H.HashFn.fits in
    let cells = c.iter-walk.ensures.items ∙ ap (λ (S : DynParts). filter_map (λ x. x) (cells_of (parts_format S g.H.HashFn.hash) S.parts)) c.parts_in.ensures.parts in
    record {
      accepted = headed_accepted F T s n f c.write_walked.ensures.header c.requires.slots (omega (arith, c.write_walked.auto.bytes, c.requires.room.len));
      on_valid = λ P is room. (
          let items = c.item_count-items.ensures ∙ ap header_count header ∙ count_header F P _ is in
          let factor = c.max_load_factor-factor.ensures ∙ ap header_factor header ∙ factor_header F P _ is in
          let pairs : c.iter-walk.result ≡ walk P = cells ∙ decoded_pairs-image F P _ form is in
          let q = moved-fits F P is.valid s c.requires.slots room in
          let placed : place_all F (empty s f) c.iter-walk.result ≡ Some q.0 = (λ i. place_all F (empty s (factor i)) (pairs i)) ∙ q.1 in
          let apart : KeysApart c.iter-walk.result = subst KeysApart (sym pairs) (walk-KeysApart F P is.valid.placed) in
          let bytes : T ≡ header_bytes F s (count P) P.factor ++ parts F q.0.cells =
          c.write_walked.ensures.placed q.0 apart placed ∙ (λ i. header_bytes F s (items i) (factor i) ++ parts F q.0.cells) in
          moved-image F P is.valid s c.requires.slots room q.0 q.1 T bytes);
    }

-- the new header has the item count and the load factor of the old one
pub returns-clause-count : goal.returns-clause-count
returns-clause-count g c =
    let F = format g (goal.at.returns-clause-count g c).After-write_walked in
    let items = c.item_count-items in
    headed_count F c.write_walked.new.bytes c.args.slot_count items.result c.max_load_factor-factor.result.0 c.write_walked.ensures.header items.type_inv
    ∙ items.ensures ∙ ap header_count c.of-header.ensures

pub returns-clause-factor : goal.returns-clause-factor
returns-clause-factor g c =
    let F = format g (goal.at.returns-clause-factor g c).After-write_walked in
    let factor = c.max_load_factor-factor in
    headed_factor F c.write_walked.new.bytes c.args.slot_count c.item_count-items.result factor.result.0 c.write_walked.ensures.header factor.type_inv.1.1.0.1
    ∙ factor.ensures ∙ ap header_factor c.of-header.ensures
