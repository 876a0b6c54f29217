-- Words and their answers.
use Rattle.std.proofs.Common.{◌≡◌, ◌∙◌, ℕ, zero, suc, ◌<◌, List, [], ◌∷◌, ◌++◌, Option, None, Result, Ok, Err, length, map, take, get_or, sym, ap, arith}
use Rattle.std.specs.Prelude.{IfErr, IfOk, OnOk}
use Rattle.std.specs.Io.KnownBytes.{Appends}
use Rattle.std.specs.List.{AllZip}
use Rattle.std.proofs.lemmas.List.{append_assoc, append-nil}
use Rattle.odht_header.specs.Coding.{Coding}
use Rattle.odht_header.specs.Refusals.{view_refusal}
use Rattle.odht_tool_core.specs.declared.failure.Failure.{Failure}
use Rattle.odht_tool_core.specs.declared.failure.Failure.TheVariants.{Output}
use Rattle.odht_tool_core.specs.declared.status.Status.{Status}
use Rattle.odht_tool_reads.specs.GetWords.{IsWordsFailure}
use Rattle.odht_tool_reads.specs.Gets.{AreWordsGot, IsWordAnswer, word_line, word_lines, words_status}

-- the lines of one word more
pub word_lines_more : {X K V : Type 0} (g : X → List ℕ) (l : K × Option V → List ℕ) (m : List ℕ → List ℕ) (xs : List X) (answers : List (Option K × Option V)) (at : ℕ) (x : X) (a : Option K × Option V)
    → at < length xs → at < length answers → x ≡ get_or xs at x → a ≡ get_or answers at a
    → word_lines l m (map g (take (suc at) xs)) (take (suc at) answers) ≡ word_lines l m (map g (take at xs)) (take at answers) ++ word_line l m (g x) a
word_lines_more g l m [] answers at x a i j p q = absurd (omega (arith, i))
word_lines_more g l m (y ∷ xs) [] at x a i j p q = absurd (omega (arith, j))
word_lines_more g l m (y ∷ xs) (b ∷ answers) zero x a i j p q =
    append-nil (word_line l m (g y) b) ∙ ap (λ z. word_line l m (g z) b) (sym p) ∙ ap (λ z. word_line l m (g x) z) (sym q)
word_lines_more g l m (y ∷ xs) (b ∷ answers) (suc at) x a i j p q =
    ap (λ t. word_line l m (g y) b ++ t) (word_lines_more g l m xs answers at x a (omega (arith, i)) (omega (arith, j)) p q)
    ∙ sym (append_assoc (word_line l m (g y) b) (word_lines l m (map g (take at xs)) (take at answers)) (word_line l m (g x) a))

-- what is written of the answers to words is what is got
pub words_got : {K V : Type 0} (c : Coding K V) (l : K × Option V → List ℕ) (m : List ℕ → List ℕ) (R : List ℕ → K → Type 0) (B : List ℕ) (ws : List (List ℕ)) (old new : Option (List ℕ))
    (answers : List (Option K × Option V)) (r : Result Status Failure)
    → view_refusal c.format B ≡ None → AllZip (IsWordAnswer c R B) ws answers
    → IfOk r (λ s. s ≡ words_status answers) → OnOk r (Appends old new (word_lines l m ws answers)) → IfErr r (IsWordsFailure (length ws))
    → AreWordsGot c l m R B ws old new r
words_got c l m R B ws old new answers (Ok s) opened each status written failed =
    (opened, record { answers = answers; each = each; written = written; status = status })
words_got c l m R B ws old new answers (Err (Output error)) opened each status written failed = (opened, failed)
words_got c l m R B ws old new answers (Err _) opened each status written failed = absurd failed
