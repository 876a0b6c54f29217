use Rattle.std.proofs.Common.{◌≡◌, ◌∙◌, ◌==◌, ◌+◌, ◌-◌, ◌≤◌, length, sym, ap, arith, inl, inr, eqb-true, true≢false}
use Rattle.std.proofs.lemmas.Bool.{cases_lt}
use Rattle.odht_base.specs.Bytes.{bytes_at}
use Rattle.odht_base.specs.Numbers.{num}
use Rattle.odht_base.proofs.lemmas.Words.{zero_word, word_zero, zeros_are}
use Rattle.odht_base.proofs.bytes.arrays.is_zeros.Goals as goal

pub words-preserved : goal.words-preserved
words-preserved c = (
  omega (arith, c.words-test.true),
  λ k l. elim (cases_lt k c.words.at) [
    | inl before ↦ c.words.invariant.1 k before
    | inr here ↦ zero_word c.args.bytes.now c.words.at k (omega (arith, c.words-test.true)) (sym c.read_u64.ensures ∙ omega (arith, c.if-read_u64-ne0.false)) here l
  ],
)

pub returns-then-read_u64-ne0 : goal.returns-then-read_u64-ne0
returns-then-read_u64-ne0 c = (
  λ t. absurd (true≢false (sym t)),
  λ zeros. absurd (c.if-read_u64-ne0.true (c.read_u64.ensures ∙ word_zero c.args.bytes.now (length c.args.bytes.now) c.words.at zeros (omega (arith, c.words-test.true)))),
)

pub returns : goal.returns
returns c =
    let inside : length c.args.bytes.now - 8 + 8 ≤ length c.args.bytes.now = omega (arith, c.if-len-lt8.false) in (
      λ t. (
          let zero : num (bytes_at c.args.bytes.now (length c.args.bytes.now - 8) 8) ≡ 0 = sym c.read_u64-2.ensures ∙ eqb-true c.read_u64-2.result 0 t in
          zeros_are c.args.bytes.now (λ k l. elim (cases_lt k c.words.at) [
            | inl before ↦ c.words.invariant.1 k before
            | inr here ↦ zero_word c.args.bytes.now (length c.args.bytes.now - 8) k inside zero (omega (arith, here, c.words-test.false)) (omega (arith, l, c.if-len-lt8.false))
          ])),
      λ zeros. ap (λ n. n == 0) (c.read_u64-2.ensures ∙ word_zero c.args.bytes.now (length c.args.bytes.now) (length c.args.bytes.now - 8) zeros inside),
    )
