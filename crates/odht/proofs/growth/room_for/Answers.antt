use Rattle.std.proofs.Common.{◌≡◌, ◌∙◌, List, ℕ, Result, Ok, Err, Some, sym, subst, arith}
use Rattle.odht_raw.specs.Words.{Coding, decoded_table, Error, Format, format_of, IsFormat, IsImage, Table}
use Rattle.odht_header.specs.declared.error.Error.TheVariants.{Capacity}
use Rattle.odht_header.proofs.lemmas.Formats.{IsFormat-format_of}
use Rattle.odht_raw.specs.DynParts.{bytes_coding}
use Rattle.odht_raw.proofs.lemmas.Accepted.{IsAccepted-IsValidBytes, accepted_opening}
use Rattle.odht.specs.Plain.{IsPlainReserve}
use Rattle.odht.specs.Reserves.{IsMoveFor}
use Rattle.odht.proofs.lemmas.Moves.{reserve-stays, reserve-moves, reserve-no_memory, reserve-large, reserved-room}
use Rattle.odht.proofs.lemmas.Plain.{decoded_image, the_table}
use Rattle.odht.proofs.lemmas.ViewInserts.{factor_header}
use Rattle.odht.proofs.growth.room_for.Given.{Over}
use Rattle.odht.proofs.growth.room_for.Goals.{After-sizes_for_more, After-moved_bytes}
use Rattle.odht.proofs.growth.room_for.Goals as goal

module _ (g : Over) (c : After-sizes_for_more g) where
  abbrev F : Format
  F = format_of (g.L.Lengths.key_len c.args.lengths) (g.L.Lengths.value_len c.args.lengths) g.H.HashFn.hash

  abbrev coding : Coding (List ℕ) (List ℕ)
  coding = bytes_coding F

  -- the table of the bytes
  abbrev P : Table
  P = decoded_table F c.args.bytes.now

  fits : IsFormat F
  fits = let pair = c.requires.pair in IsFormat-format_of _ _ _ _ pair.key pair.value pair.hashes g.met.H.HashFn.fits

  is : IsImage F P c.args.bytes.now
  is = decoded_image F c.args.bytes.now fits c.requires.valid

  -- the sizes are those of the table for more
  sizes : IsMoveFor F P c.args.additional c.sizes_for_more.result
  sizes = (rw (c.of_lengths.ensures.key, c.of_lengths.ensures.value) at c.sizes_for_more.ensures.sizes) P (record { valid = is.valid; bytes = c.of-header.ensures ∙ is.bytes })

pub of-header-requires : goal.of-header-requires
of-header-requires g c =
    let F = format_of (g.L.Lengths.key_len c.args.lengths) (g.L.Lengths.value_len c.args.lengths) g.H.HashFn.hash in
    (accepted_opening F c.args.bytes.now (IsAccepted-IsValidBytes F c.args.bytes.now c.requires.valid)).long

pub sizes_for_more-requires : goal.sizes_for_more-requires
sizes_for_more-requires g c =
    let F = format_of (g.L.Lengths.key_len c.args.lengths) (g.L.Lengths.value_len c.args.lengths) g.H.HashFn.hash in
    let valid = c.requires.valid.1.valid in
    let factor = factor_header F c.requires.valid.0 c.of-header.result (record { valid = valid; bytes = c.of-header.ensures ∙ c.requires.valid.1.bytes }) in
    omega (arith, factor, valid.factor_low)

pub moved_bytes-requires-clause-accepted : goal.moved_bytes-requires-clause-accepted
moved_bytes-requires-clause-accepted g c = IsAccepted-IsValidBytes _ c.args.bytes.now c.requires.valid

-- a result has one error
err_same : {T : Type 0} (r : Result T Error) (x y : Error) → r ≡ Err x → r ≡ Err y → x ≡ y
err_same r x y a b = cc

pub returns-in-Err-clause-failed : goal.returns-in-Err-clause-failed
returns-in-Err-clause-failed g c =
    let at = (goal.at.returns-in-Err-clause-failed g c).After-sizes_for_more in
    let n = c.args.additional in
    let large = err_same c.sizes_for_more.result c.in-Err.too_large Capacity c.in-Err.is (c.in-Err.is ∙ c.in-Err.ensures.err) in
    let none = subst (IsMoveFor (F g at) (P g at) n) c.in-Err.is (sizes g at) in
    let known = reserve-large (coding g at) (P g at) n none.0 none.1 in
    subst (λ e. IsPlainReserve (coding g at) (P g at) n (Err e) (P g at)) (sym large) known

pub returns-in_default-clause-made : goal.returns-in_default-clause-made
returns-in_default-clause-made g c =
    let at = (goal.at.returns-in_default-clause-made g c).After-sizes_for_more in
    let here = IsMoveFor (F g at) (P g at) c.args.additional in
    let enough = subst (λ o. here (Ok o)) c.in_default.is (subst here c.in-Ok.is (sizes g at)) in
    reserve-stays (coding g at) (P g at) c.args.additional enough

-- the room is lacking, and these are the slots and the length of the table for more
found : (g : Over) (c : After-moved_bytes g) (at : After-sizes_for_more g) → IsMoveFor (F g at) (P g at) c.args.additional c.sizes_for_more.result
    → IsMoveFor (F g at) (P g at) c.args.additional (Ok (Some (c.in-Some.slot_count, c.in-Some.len)))
found g c at for =
    let here = IsMoveFor (F g at) (P g at) c.args.additional in
    subst (λ o. here (Ok o)) c.in-Some.is (subst here c.in-Ok.is for)

pub returns-in-Some-moved_bytes-clause-made : goal.returns-in-Some-moved_bytes-clause-made
returns-in-Some-moved_bytes-clause-made g c =
    let steps = goal.at.returns-in-Some-moved_bytes-clause-made g c in
    let at = steps.After-sizes_for_more in
    let to = found g steps.After-moved_bytes at (sizes g at) in
    let T = c.in-Some-moved_bytes.moved.items in
    let moves = c.in-Some-moved_bytes.ensures.moved.on_valid (P g at) (is g at) in
    let q = moves (reserved-room (P g at) _ _ to.1.slots) in
    let left = reserve-moves (coding g at) (P g at) c.args.additional to.0 _ _ to.1 (is g at).valid q.0 q.1 in
    ((q.0, q.2), subst (IsPlainReserve (coding g at) (P g at) c.args.additional (Ok tt)) (sym (the_table (F g at) q.0 T (fits g at) q.2)) left)

pub returns-in-None-clause-failed : goal.returns-in-None-clause-failed
returns-in-None-clause-failed g c =
    let steps = goal.at.returns-in-None-clause-failed g c in
    let at = steps.After-sizes_for_more in
    let to = found g steps.After-moved_bytes at (sizes g at) in
    reserve-no_memory (coding g at) (P g at) c.args.additional to.0 _ _ to.1
