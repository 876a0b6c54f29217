use Rattle.std.proofs.Common.{◌≡◌, ◌/◌, ◌<◌, ◌∙◌, length, arith, sym, ap₂, fold}
use Rattle.odht_base.specs.Xxh64.{rest, add_eight, add_four, add_byte, remainder}
use Rattle.odht_base.proofs.lemmas.Stripes.{consumed, consumed-8, consumed-4, consumed-none}
use Rattle.odht_base.proofs.hash.xxh64.add_remainder.Goals as goal
use Rattle.odht_base.proofs.hash.xxh64.add_remainder.Goals.{in-Some-split_first_chunk, in_default-split_first_chunk}

pub loop-piece-preserved : goal.loop-piece-preserved
loop-piece-preserved c =
    let cases = c.in-Some.ensures.cases in
    let one = consumed-8 add_eight _ _ _ _ _ _ (omega (arith, cases.2)) cases.0 cases.1 c.from_le_bytes.ensures c.add_word-state.ensures in
    record { state = c.loop-piece.invariant.state ∙ one.0; left = c.loop-piece.invariant.left ∙ one.1 }

pub returns : goal.returns
unfolding remainder
returns c =
    let short : length c.loop-piece.left.now < 8 = c.in_default.ensures.cases in
    let eights = consumed-none add_eight 8 c.loop-piece.state c.loop-piece.left.now (omega (arith, short)) in
    let state = c.loop-piece.invariant.state ∙ eights.0 in
    let left = c.loop-piece.invariant.left ∙ eights.1 in
    let fours : (consumed add_four 4 c.loop-piece.state c.loop-piece.left.now ≡ c.match-split_first_chunk-2.state) × (rest 4 c.loop-piece.left.now ≡ c.match-split_first_chunk-2.left.now)
    = elim c.match-split_first_chunk-2.branch [
      | in-Some-split_first_chunk w ↦
          let cases = w.in-Some-split_first_chunk.ensures.cases in
          rw (w.left-is, w.state-is) (consumed-4 add_four _ _ _ _ _ _ (omega (arith, cases.2)) short cases.0 cases.1 w.from_le_bytes-in-Some-split_first_chunk.ensures w.add_half-state.ensures)
      | in_default-split_first_chunk w ↦
          let none : length c.loop-piece.left.now / 4 ≡ 0 = omega (arith, w.in_default-split_first_chunk.ensures.cases) in
          rw (w.left-is, w.state-is) (consumed-none add_four 4 c.loop-piece.state c.loop-piece.left.now none)
    ] in
    c.add_bytes.ensures ∙ sym (ap₂ (λ s r. fold add_byte (consumed add_four 4 s r) (rest 4 r)) state left ∙ ap₂ (fold add_byte) fours.0 fours.1)
