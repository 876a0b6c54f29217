use Rattle.std.proofs.Common.{◌≡◌, ◌≢◌, ◌∙◌, ◌+◌, ◌<◌, ◌++◌, [], length, take, sym, ap, subst, arith, length-take-le}
use Rattle.std.specs.Prelude.{IfSome}
use Rattle.std.specs.Io.BufRead.{FillKeeps, take_through}
use Rattle.std.proofs.KnownBytes.{Consumes-nil}
use Rattle.std.proofs.BufReadLemmas.{Consumes_shown, Consumes_through}
use Rattle.std.proofs.lemmas.List.Elements.{All-nil}
use Rattle.odht_tool_core.proofs.FirstPlaces.{through_place}
use Rattle.odht_tool_core.proofs.lines.take_buffered.Goals as goal

pub returns-clause-line : goal.returns-clause-line
returns-clause-line g c = λ _.
    let shown = c.in-Ok.available.now in
    let place = c.place_of-place.result in
    let old = g.R.Read.remaining c.args.reader.now in
    let new = g.R.Read.remaining c.consume.new.self in
    let part = take (place + 1) shown in
    let before : place < length shown = omega (arith, c.place_of-place.ensures.within, c.if-place-available.false) in
    let long : length part ≡ place + 1 = length-take-le (place + 1) shown (omega arith) in
    let rested = c.fill_buf.follows.lender-at-none in
    let filled = subst (FillKeeps _ (g.R.Read.remaining rested) (g.R.BufRead.consumable_len rested)) c.in-Ok.is c.fill_buf.follows.holds-at-none in
    let moved = Consumes_shown _ _ _ _ shown (place + 1) (omega arith) c.in-Ok.ensures.front c.in-Ok.ensures.end filled.0 filled.1 c.consume.ensures.bytes in
    let ends = through_place shown place c.place_of-place.ensures.place before in
    let through = Consumes_through 10 old old new [] part (Consumes-nil old) (All-nil (λ x. x ≢ 10)) moved.0 ends.0 ends.1 (λ none. absurd (omega (arith, long))) in
    let items : c.extend_from_slice.new.self.items ≡ part = c.in_ok-extend_from_slice.ensures.items ∙ ap (λ xs. xs ++ part) c.requires in (
      subst (λ read. IfSome old (λ bytes. read ≡ take_through 10 bytes)) (sym items) through.0,
      through.1,
      omega (arith, ap length items, long),
    )
