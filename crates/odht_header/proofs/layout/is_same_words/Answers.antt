use Rattle.std.proofs.Common.{◌≡◌, ◌∙◌, ◌+◌, ◌-◌, ◌≤◌, ◌↔◌, ℕ, List, Bool, IsTrue, length, refl, sym, ap, subst, arith}
use Rattle.odht_base.specs.Bytes.{bytes_at}
use Rattle.odht_base.proofs.lemmas.ByteRanges.{bytes_at-bytes_at}
use Rattle.odht_base.proofs.lemmas.Words.{next_decides, whole_decides}
use Rattle.odht_header.proofs.layout.is_same_words.Goals as goal

-- where the first bytes are equal, comparing the last word, which may overlap them, compares the lists
last_decides : (xs ys : List ℕ) (n at : ℕ) (r : Bool) → length xs ≡ length ys → n + 8 ≡ length ys → n ≤ at → bytes_at xs 0 at ≡ bytes_at ys 0 at
    → (IsTrue r ↔ (bytes_at xs n 8 ≡ bytes_at ys n 8)) → IsTrue r ↔ (xs ≡ ys)
last_decides xs ys n at r e whole before same w =
    let front = sym (cut xs) ∙ ap (λ b. bytes_at b 0 n) same ∙ cut ys in
    whole_decides xs ys (length ys) r e refl (subst (λ k. IsTrue r ↔ (bytes_at xs 0 k ≡ bytes_at ys 0 k)) whole (next_decides xs ys n 8 r front w))
  where
    cut : (b : List ℕ) → bytes_at (bytes_at b 0 at) 0 n ≡ bytes_at b 0 n
    cut b = bytes_at-bytes_at b 0 at 0 n 0 (omega (arith, before)) refl

pub words-preserved : goal.words-preserved
words-preserved c = record {
  same = (next_decides c.args.left.now c.args.right.now c.words.at 8 _ c.words.invariant.same c.is_same_word.ensures).0 c.if-not-is_same_word.false;
  within = omega (arith, c.words-test.true);
}

pub returns : goal.returns
returns c = last_decides c.args.left.now c.args.right.now (length c.args.right.now - 8) c.words.at _ c.requires (omega (arith, c.if-len-lt8.false)) (omega (arith, c.words-test.false)) c.words.invariant.same c.is_same_word-2.ensures
