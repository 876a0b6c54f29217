use Rattle.std.proofs.Common.{rules, ◌≡◌, ◌∙◌, ◌+◌, ℕ, List, Option, ◌∷◌, [], ◌++◌, length, map, take, sym, ap, subst, length-append, arith}
use Rattle.std.proofs.Math.Seq.{take-length}
use Rattle.std.specs.List.{AllZip}
use Rattle.std.specs.Prelude.{All, string_bytes}
use Rattle.std.proofs.lemmas.List.Elements.{All-append, All-cons, All-nil}
use Rattle.odht.specs.Files.{file_coding}
use Rattle.odht_header.specs.Coding.{Coding}
use Rattle.odht_tool_core.specs.DynTexts.{IsDynamicOf}
use Rattle.odht_tool_core.proofs.KeyWords.{words_more}
use Rattle.odht_tool_reads.specs.Gets.{IsWordAnswer}
use Rattle.odht_tool_reads.specs.Positions.{IsShortSearch}
use Rattle.odht_tool_reads.proofs.positions.lookups.answers_at.Goals as goal

-- the search for the key of an answer is short
abbrev IsShort : Coding (List ℕ) (List ℕ) → List ℕ → Option (List ℕ) × Option (List ℕ) → Type 0
IsShort coding B a = IsShortSearch coding B a.0

pub loop-word-init : goal.loop-word-init
loop-word-init g c =
    let R = IsWordAnswer (file_coding c.args.table.now g.H.HashFn.hash) (IsDynamicOf c.args.form) in
    let none : c.in_ok-answers.answers.items ≡ [] = search rules in
    let short = IsShort (file_coding c.args.table.now g.H.HashFn.hash) in
    (ap length none, λ B over. subst (AllZip (R B) []) (sym none) tt, λ B over. subst (All (short B)) (sym none) (All-nil (short B)))

pub loop-word-preserved : goal.loop-word-preserved
loop-word-preserved g c =
    let R = IsWordAnswer (file_coding c.args.table.now g.H.HashFn.hash) (IsDynamicOf c.args.form) in
    let short = IsShort (file_coding c.args.table.now g.H.HashFn.hash) in
    let words = c.args.words.now in
    let word = c.as_bytes.ensures.value ∙ c.as_str.ensures.value in
    let more : c.push.new.self.items ≡ c.loop-word.answers.items ++ (c.in-Some.answer ∷ []) = search rules in (
      ap length more ∙ length-append c.loop-word.answers.items (c.in-Some.answer ∷ []) ∙ ap (λ n. n + 1) c.loop-word.invariant.0,
      λ B over.
          subst (AllZip (R B) (map string_bytes (take (c.loop-word.word-index + 1) words))) (sym more)
          (words_more (R B) string_bytes words c.loop-word.word-index c.word-item.result c.loop-word.answers.items c.loop-word-test.true c.word-item.is (c.loop-word.invariant.1 B over) c.in-Some.answer
          (subst (λ w. R B w c.in-Some.answer) word (c.in-Some.ensures.given B over))),
      λ B over.
          subst (All (short B)) (sym more)
          (All-append (short B) c.loop-word.answers.items (c.in-Some.answer ∷ []) (c.loop-word.invariant.2 B over)
          (All-cons (short B) c.in-Some.answer [] (c.in-Some.ensures.short B over) (All-nil (short B)))),
    )

pub returns-clause-given : goal.returns-clause-given
returns-clause-given g c B over =
    let words = c.args.words.now in
    let all : c.loop-word.word-index ≡ length words = omega (arith, c.loop-word-test.false, c.loop-word.auto.word-index-end) in
    subst (λ ws. AllZip (IsWordAnswer (file_coding c.args.table.now g.H.HashFn.hash) (IsDynamicOf c.args.form) B) (map string_bytes ws) c.loop-word.answers.items) (ap (λ n. take n words) all ∙ take-length words) (c.loop-word.invariant.1 B over)
