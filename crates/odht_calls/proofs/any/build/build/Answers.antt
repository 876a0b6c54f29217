use Rattle.std.proofs.Common.{rules, ◌≡◌, ◌∙◌, refl, sym, subst, length, arith, ℕ, List, All, Some}
use Rattle.std.proofs.lemmas.Bool.{false≢true}
use Rattle.std.proofs.lemmas.Slice.Zip.{length-zip}
use Rattle.std.specs.List.{zip}
use Rattle.odht_base.specs.Format.{format_of}
use Rattle.odht_base.specs.Load.{IsPercent}
use Rattle.odht_base.specs.Table.{fresh}
use Rattle.odht_base.specs.Valid.{IsPairOf}
use Rattle.odht_header.specs.Coding.{Coding}
use Rattle.odht_raw.specs.DynParts.{bytes_coding}
use Rattle.odht.specs.Lists.{encoded_all}
use Rattle.odht_calls.specs.Pieces.{pieces, ArePieces}
use Rattle.odht_calls.proofs.lemmas.AnyLists.{pieces_bytes, pairs_bytes}
use Rattle.odht_calls.proofs.lemmas.HandedOut.{bad_build, no_length_build, no_room_build, fits_build, done_build}
use Rattle.odht_calls.proofs.lemmas.Layouts.{of_long}
use Rattle.odht_calls.proofs.lemmas.NewBuilds.{all_inserted}
use Rattle.odht_calls.proofs.lemmas.Pieces.{length-pieces}
use Rattle.odht_calls.proofs.any.build.build.Given.{Over}
use Rattle.odht_calls.proofs.any.build.build.Goals.{After-are_pieces}
use Rattle.odht_calls.proofs.any.build.build.Goals as goal

module _ (g : Over) (c : After-are_pieces g) where
  abbrev K : Coding (List ℕ) (List ℕ)
  K = bytes_coding (format_of c.args.layout.key_len c.args.layout.value_len g.H.HashFn.hash)

  abbrev keys : List (List ℕ)
  keys = pieces c.args.layout.key_len c.args.count c.args.keys.now

  abbrev values : List (List ℕ)
  values = pieces c.args.layout.value_len c.args.count c.args.values.now

  many : length keys ≡ c.args.count
  many = length-pieces c.args.layout.key_len c.args.count c.args.keys.now

  equal : length values ≡ length keys
  equal = length-pieces c.args.layout.value_len c.args.count c.args.values.now ∙ sym many

  bytes : ArePieces c.args.layout.key_len c.args.layout.value_len c.args.count c.args.keys.now c.args.values.now → All (IsPairOf K.format) (encoded_all K (zip keys values))
  bytes arrays =
      pairs_bytes K.format keys values (pieces_bytes c.args.layout.key_len c.args.count c.args.keys.now (omega (arith, arrays.keys)) (λ i. omega (arith, c.type_inv.keys i)))
      (pieces_bytes c.args.layout.value_len c.args.count c.args.values.now (omega (arith, arrays.values)) (λ i. omega (arith, c.type_inv.values i)))

pub returns-in_default : goal.returns-in_default
returns-in_default g c =
    let at = (goal.at.returns-in_default g c).After-are_pieces in
    of_long (c.are_pieces.ensures.0 c.if-not-are_pieces.false)
    (bad_build (K g at) _ _ c.args.max_load_factor_percent (equal g at) c.args.out.now c.args.len.now (λ ok. false≢true (c.in_default.ensures.some.1 ok)))

pub returns-in_default-bytes_needed : goal.returns-in_default-bytes_needed
returns-in_default-bytes_needed g c =
    let at = (goal.at.returns-in_default-bytes_needed g c).After-are_pieces in
    of_long (c.are_pieces.ensures.0 c.if-not-are_pieces.false)
    (no_length_build (K g at) (keys g at) (values g at) c.args.max_load_factor_percent (equal g at) c.args.out.now c.args.len.now (c.in-Some.ensures.some.0 refl) _ _
    (c.value-percent.ensures.value ∙ c.in-Some.ensures.value) (sym (many g at)) c.in_default-bytes_needed.ensures)

pub returns-then-out-needed : goal.returns-then-out-needed
returns-then-out-needed g c =
    let at = (goal.at.returns-then-out-needed g c).After-are_pieces in
    let arrays = c.are_pieces.ensures.0 c.if-not-are_pieces.false in
    of_long arrays
    (no_room_build (K g at) (keys g at) (values g at) c.args.max_load_factor_percent (equal g at) c.args.out.now c.args.len.now (c.in-Some.ensures.some.0 refl) _ _
    (c.value-percent.ensures.value ∙ c.in-Some.ensures.value) (sym (many g at)) _ c.in-Some-bytes_needed.ensures c.if-out-needed.true (bytes g at arrays))

pub returns : goal.returns
returns g c =
    let at = (goal.at.returns g c).After-are_pieces in
    let arrays = c.are_pieces.ensures.0 c.if-not-are_pieces.false in
    let p = c.args.max_load_factor_percent in
    let within : IsPercent p = c.in-Some.ensures.some.0 refl in
    let same : c.value-percent.result ≡ p = c.value-percent.ensures.value ∙ c.in-Some.ensures.value in
    let fits = fits_build (K g at) (keys g at) (values g at) p (equal g at) c.args.out.now c.args.len.now within _ _ same (sym (many g at)) _ c.in-Some-bytes_needed.ensures c.if-out-needed.false (omega (arith, c.if-out-needed.false)) in
    let made = (c.init.ensures.made (subst IsPercent (sym same) within) fits).1 in
    let T = c.insert_all.new.bytes in
    let long : length (zip (keys g at) (values g at)) ≡ c.args.count = omega (arith, length-zip (keys g at) (values g at), many g at, equal g at) in
    let new : fresh (length (zip (keys g at) (values g at))) p ≡ Some made.0 = (λ i. fresh (long i) (sym same i)) ∙ made.1 in
    let size : length T ≡ c.in-Some-bytes_needed.needed = search rules in
    let is = all_inserted (K g at) (keys g at) (values g at) p made.0 (equal g at) new _ made.2 _ _ _ _ (c.insert_all.ensures.answers.answers arrays) in
    of_long arrays
    (done_build (K g at) _ _ p (equal g at) c.args.out.now c.args.len.now within T c.in-Some-bytes_needed.needed size c.if-out-needed.false is)
