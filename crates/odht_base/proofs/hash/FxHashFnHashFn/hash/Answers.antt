use Rattle.std.proofs.Common.{◌≡◌, ◌%◌, ◌^◌, ◌<◌, length, arith, refl, ◌≤◌, sym, ap, ◌∙◌}
use Rattle.std.proofs.lemmas.Nat.{and_mask}
use Rattle.odht_base.specs.Hashes.{fx}
use Rattle.odht_base.proofs.lemmas.Pieces.{ended, ended-8, ended-4, ended-2, ended-last, ended-none}
use Rattle.odht_base.proofs.hash.FxHashFnHashFn.hash.Goals as goal
use Rattle.odht_base.proofs.hash.FxHashFnHashFn.hash.Goals.{in-Some-split_first_chunk, in_default-split_first_chunk, in-Some-split_first_chunk-2, in_default-split_first_chunk-2, in_default-rest, in-len1-up}

pub loop-piece-preserved : goal.loop-piece-preserved
loop-piece-preserved c =
    c.loop-piece.invariant
    ∙ ended-8 _ _ _ _ _ _ (omega (arith, c.in-Some.ensures.cases.2)) c.in-Some.ensures.cases.0 c.in-Some.ensures.cases.1 c.from_le_bytes.ensures c.add_to_hash-state.ensures

pub returns : goal.returns
unfolding fx
returns c =
    let short : length c.loop-piece.rest.now < 8 = c.in_default.ensures.cases in
    let four : (ended c.loop-piece.state c.loop-piece.rest.now ≡ ended c.match-split_first_chunk-2.state c.match-split_first_chunk-2.rest.now) × (length c.match-split_first_chunk-2.rest.now < 4)
    = elim c.match-split_first_chunk-2.branch [
      | in-Some-split_first_chunk w ↦
          let h : 4 ≤ length c.loop-piece.rest.now = omega (arith, w.in-Some-split_first_chunk.ensures.cases.2) in
          rw (w.rest-is, w.state-is) (
            ended-4 _ _ _ _ _ _ h short w.in-Some-split_first_chunk.ensures.cases.0 w.in-Some-split_first_chunk.ensures.cases.1 w.from_le_bytes-in-Some-split_first_chunk.ensures w.add_to_hash-state-in-Some-split_first_chunk.ensures,
            omega (arith, w.in-Some-split_first_chunk.ensures.cases.2, short),
          )
      | in_default-split_first_chunk w ↦ rw (w.rest-is, w.state-is) (refl, w.in_default-split_first_chunk.ensures.cases)
    ] in
    let two : (ended c.match-split_first_chunk-2.state c.match-split_first_chunk-2.rest.now ≡ ended c.match-split_first_chunk-3.state c.match-split_first_chunk-3.rest.now) × (length c.match-split_first_chunk-3.rest.now < 2)
    = elim c.match-split_first_chunk-3.branch [
      | in-Some-split_first_chunk-2 w ↦
          let h : 2 ≤ length c.match-split_first_chunk-2.rest.now = omega (arith, w.in-Some-split_first_chunk-2.ensures.cases.2) in
          rw (w.rest-is, w.state-is) (
            ended-2 _ _ _ _ _ _ h four.1 w.in-Some-split_first_chunk-2.ensures.cases.0 w.in-Some-split_first_chunk-2.ensures.cases.1 w.from_le_bytes-in-Some-split_first_chunk-2.ensures w.add_to_hash-state-in-Some-split_first_chunk-2.ensures,
            omega (arith, w.in-Some-split_first_chunk-2.ensures.cases.2, four.1),
          )
      | in_default-split_first_chunk-2 w ↦ rw (w.rest-is, w.state-is) (refl, w.in_default-split_first_chunk-2.ensures.cases)
    ] in
    let one : ended c.match-split_first_chunk-3.state c.match-split_first_chunk-3.rest.now ≡ c.if-rest-lt1.state
    = elim c.if-rest-lt1.branch [ in_default-rest w ↦ ended-none _ _ _ w.in_default-rest.len_below w.state-is | in-len1-up w ↦ ended-last _ _ _ w.in-len1-up.len_at_least two.1 (w.state-is ∙ w.add_to_hash-state-in-len1-up.ensures) ] in
    and_mask c.if-rest-lt1.state 32 ∙ ap (λ x. x % 2 ^ 32) (sym (c.loop-piece.invariant ∙ four.0 ∙ two.0 ∙ one))
