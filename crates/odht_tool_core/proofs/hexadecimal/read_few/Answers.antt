use Rattle.std.proofs.Common.{◌≡◌, inl, inr, ◌∙◌, ◌*◌, ◌++◌, ◌+◌, ◌-◌, ℕ, List, length, take, replicate, true, false, IsTrue, sym, ap, subst, refl, arith}
use Rattle.std.proofs.Math.Seq.{take-append_seam}
use Rattle.std.proofs.lemmas.Bool.{cases_lt}
use Rattle.std.proofs.lemmas.List.{get_or_append_left, get_or-append_right, get_or-replicate, length-append, length-replicate}
use Rattle.std.specs.Char.{is_ascii_hexdigit}
use Rattle.std.specs.List.{AllPass}
use Rattle.odht_tool_core.specs.Texts.{WritesBytes}
use Rattle.odht_tool_core.proofs.Words.{front_writes}
use Rattle.odht_tool_core.proofs.hexadecimal.read_few.Goals as goal

-- zeros behind digits are digits too
all_digits : (word : List ℕ) (m : ℕ) → AllPass is_ascii_hexdigit word → AllPass is_ascii_hexdigit (word ++ replicate m 48)
all_digits word m all k d inside =
    let zeros = replicate m 48 in
    let after : length (word ++ zeros) ≡ length word + m = length-append word zeros ∙ ap (λ n. length word + n) (length-replicate {A = ℕ} m 48) in
    elim (cases_lt k (length word)) [
      | inl low ↦ subst (λ c. is_ascii_hexdigit c ≡ true) (sym (get_or_append_left word zeros d k low)) (all k d low)
      | inr high ↦ subst (λ c. is_ascii_hexdigit c ≡ true) (sym (get_or-append_right word zeros (length word) k d refl high ∙ get_or-replicate m (k - length word) 48 d (omega (arith, after, inside, high)))) refl
    ]

-- digits before others are digits
front_digits : (word rest : List ℕ) → AllPass is_ascii_hexdigit (word ++ rest) → AllPass is_ascii_hexdigit word
front_digits word rest all k d inside =
    subst (λ c. is_ascii_hexdigit c ≡ true) (get_or_append_left word rest d k inside) (all k d (omega (arith, length-append word rest, inside)))

-- nothing is both
never : {X : Type 0} → IsTrue false → X
never h = cc

pub returns-in-Some-clause-value : goal.returns-in-Some-clause-value
returns-in-Some-clause-value c =
    let word = c.args.word.now in
    let n = length c.args.bytes.now in
    let digits = c.with_zeros.result in
    let zeros = replicate (64 - length word) 48 in
    let front : take (2 * n) digits ≡ word = ap (λ ds. take (2 * n) ds) c.with_zeros.ensures ∙ ap (λ m. take m (word ++ zeros)) (sym c.requires.digits) ∙ take-append_seam word zeros in
    let written = front_writes digits c.in-Some.all n c.in-Some.ensures.value in
    λ _. subst (λ w. WritesBytes w c.copy_from_slice.new.self) front (subst (WritesBytes (take (2 * n) digits)) (sym c.copy_from_slice.ensures.after) written)

pub returns-in-Some-clause-word : goal.returns-in-Some-clause-word
returns-in-Some-clause-word c =
    let word = c.args.word.now in
    let all = subst (AllPass is_ascii_hexdigit) c.with_zeros.ensures (c.in-Some.ensures.some.0 refl).1 in
    (λ _. front_digits word (replicate (64 - length word) 48) all, λ _. refl)

pub returns-in-None-clause-word : goal.returns-in-None-clause-word
returns-in-None-clause-word c =
    let word = c.args.word.now in
    let digits = c.with_zeros.result in
    let zeros : List ℕ = replicate (64 - length word) 48 in
    let after : length digits ≡ length word + (64 - length word) =
    ap length c.with_zeros.ensures ∙ length-append word zeros ∙ ap (λ n. length word + n) (length-replicate {A = ℕ} (64 - length word) 48) in
    let whole : length digits ≡ 64 = omega (arith, after, c.requires.few, c.requires.digits) in (
      λ h. never h,
      λ all. c.in-None.ensures.some.1 (whole, subst (AllPass is_ascii_hexdigit) (sym c.with_zeros.ensures) (all_digits word (64 - length word) all)),
    )
