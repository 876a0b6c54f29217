use Rattle.std.proofs.Common.{◌+◌, ◌≤◌, length, arith}
use Rattle.std.proofs.lemmas.Bool.Decides.{Decides-eqb}
use Rattle.std.proofs.lemmas.Slice.Eq.{slice_eq-Decides}
use Rattle.odht_base.proofs.lemmas.Words.{next_decides, rest_decides}
use Rattle.odht_base.proofs.bytes.arrays.is_same_bytes.Goals as goal

pub words-preserved : goal.words-preserved
words-preserved c = record {
  same = (next_decides c.args.left.now c.args.right.now c.words.at 8 _ c.words.invariant.same c.is_same_word.ensures).0 c.if-not-is_same_word.false;
  within = omega (arith, c.words-test.true, c.words.invariant.within);
}

pub returns-then-len-at-lt4 : goal.returns-then-len-at-lt4
returns-then-len-at-lt4 c =
    let rest = slice_eq-Decides Decides-eqb _ _ _ c.eq-then-len-at-lt4.ensures in
    rest_decides c.args.left.now c.args.right.now c.words.at _ c.requires c.words.invariant.within c.words.invariant.same rest

pub returns-then-is_same_half : goal.returns-then-is_same_half
returns-then-is_same_half c =
    let more = next_decides c.args.left.now c.args.right.now c.words.at 4 _ c.words.invariant.same c.is_same_half.ensures in
    let within : c.words.at + 4 ≤ length c.args.right.now = omega (arith, c.if-len-at-lt4.false) in
    let rest = slice_eq-Decides Decides-eqb _ _ _ c.eq-then-is_same_half.ensures in
    rest_decides c.args.left.now c.args.right.now (c.words.at + 4) _ c.requires within (more.0 c.if-is_same_half.true) rest
