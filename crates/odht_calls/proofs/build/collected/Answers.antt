use Rattle.std.proofs.Common.{rules, ◌≡◌, ◌∙◌, Some, sym, refl, subst, length, arith}
use Rattle.std.proofs.lemmas.Bool.{false≢true}
use Rattle.std.proofs.lemmas.Slice.Zip.{length-zip}
use Rattle.std.specs.List.{zip}
use Rattle.odht_base.specs.Load.{IsPercent}
use Rattle.odht_base.specs.Table.{Table, fresh}
use Rattle.odht_base.specs.Valid.{IsImage}
use Rattle.odht_header.specs.Coding.{Coding, coding_of}
use Rattle.odht_header.proofs.lemmas.Formats.{IsFormat-format_of}
use Rattle.odht_calls.proofs.lemmas.HandedOut.{bad_build, no_length_build, no_room_build, fits_build, done_build}
use Rattle.odht_calls.proofs.lemmas.Inserted.{pairs_listed}
use Rattle.odht_calls.proofs.lemmas.NewBuilds.{all_inserted}
use Rattle.odht_calls.proofs.lemmas.Opened.{IsAccepted-IsImage}
use Rattle.odht_calls.proofs.build.collected.Given.{Over}
use Rattle.odht_calls.proofs.build.collected.Goals.{After-init}
use Rattle.odht_calls.proofs.build.collected.Goals as goal

-- the coding of the configuration
abbrev coding : (g : Over) → Coding g.row.C-Key.Denot g.row.C-Value.Denot
coding g =
    let key = g.C.EncodedKey.ByteArray in
    let value = g.C.EncodedValue.ByteArray in
    coding_of key.LEN key.bytes key.of_bytes value.LEN value.bytes value.of_bytes g.C.H.HashFn.hash
    g.C.Config.encode_key g.C.Config.encode_value g.C.Config.decode_key g.C.Config.decode_value

pub returns-in_default : goal.returns-in_default
returns-in_default g c =
    bad_build (coding g) c.args.keys.now c.args.values.now c.args.max_load_factor_percent c.requires c.args.out.now c.args.len.now (λ ok. false≢true (c.in_default.ensures.some.1 ok))

pub returns-in_default-bytes_needed : goal.returns-in_default-bytes_needed
returns-in_default-bytes_needed g c =
    no_length_build (coding g) c.args.keys.now c.args.values.now c.args.max_load_factor_percent c.requires c.args.out.now c.args.len.now
    (c.in-Some.ensures.some.0 refl) _ _ (c.value-percent.ensures.value ∙ c.in-Some.ensures.value) refl c.in_default-bytes_needed.ensures

pub returns-then-out-needed : goal.returns-then-out-needed
returns-then-out-needed g c =
    no_room_build (coding g) c.args.keys.now c.args.values.now c.args.max_load_factor_percent c.requires c.args.out.now c.args.len.now
    (c.in-Some.ensures.some.0 refl) _ _ (c.value-percent.ensures.value ∙ c.in-Some.ensures.value) refl _ c.in-Some-bytes_needed.ensures c.if-out-needed.true c.hold_pairs.ensures

-- the new table
made : (g : Over) (c : After-init g) → (P : Table) × (fresh (length c.args.keys.now) c.value-percent.result ≡ Some P) × IsImage (coding g).format P c.init.new.bytes
made g c =
    let p = c.args.max_load_factor_percent in
    let within : IsPercent p = c.in-Some.ensures.some.0 refl in
    let same : c.value-percent.result ≡ p = c.value-percent.ensures.value ∙ c.in-Some.ensures.value in
    let fits = fits_build (coding g) c.args.keys.now c.args.values.now p c.requires c.args.out.now c.args.len.now within _ _ same refl _ c.in-Some-bytes_needed.ensures c.if-out-needed.false (omega (arith, c.if-out-needed.false)) in
    (c.init.ensures.made (subst IsPercent (sym same) within) fits).1

pub insert_items-requires-clause-accepted : goal.insert_items-requires-clause-accepted
insert_items-requires-clause-accepted g c =
    let made = made g (goal.at.insert_items-requires-clause-accepted g c).After-init in
    IsAccepted-IsImage (coding g).format made.0 c.init.new.bytes made.2

pub returns : goal.returns
returns g c =
    let K = coding g in
    let p = c.args.max_load_factor_percent in
    let keys = c.args.keys.now in
    let values = c.args.values.now in
    let within : IsPercent p = c.in-Some.ensures.some.0 refl in
    let same : c.value-percent.result ≡ p = c.value-percent.ensures.value ∙ c.in-Some.ensures.value in
    let made = made g (goal.at.returns g c).After-init in
    let T = c.insert_items.new.bytes in
    let long : length (zip keys values) ≡ length keys = omega (arith, length-zip keys values, c.requires) in
    let new : fresh (length (zip keys values)) p ≡ Some made.0 = (λ i. fresh (long i) (sym same i)) ∙ made.1 in
    let size : length T ≡ c.in-Some-bytes_needed.needed = search rules in
    let inserts = pairs_listed K (IsFormat-format_of _ _ _ _ g.met.C.Config.key_fits g.met.C.Config.value_fits g.met.C.Config.key_hashes g.met.C.H.HashFn.fits) c.init.new.bytes T keys values c.requires
    (sym (IsAccepted-IsImage K.format made.0 c.init.new.bytes made.2)) c.new-pairs.result c.new-pairs.ensures 0 c.insert_items.result c.insert_items.new.accepted c.insert_items.ensures in
    let is = all_inserted K keys values p made.0 c.requires new _ made.2 _ _ _ _ inserts in
    done_build K keys values p c.requires c.args.out.now c.args.len.now within T c.in-Some-bytes_needed.needed size c.if-out-needed.false is
