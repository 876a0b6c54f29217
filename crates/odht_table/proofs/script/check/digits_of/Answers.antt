use Rattle.std.proofs.Common.{◌≡◌, ◌∙◌, drop, length, ◌%◌, sym, ap, subst}
use Rattle.std.specs.Char.{is_ascii_hexdigit}
use Rattle.std.specs.List.{AllPass}
use Rattle.odht_table.proofs.HexTexts.{digits_even, digits_pass}
use Rattle.odht_table.proofs.script.check.digits_of.Goals as goal
use Rattle.odht_table.proofs.script.check.digits_of.Goals.{else-digits-eq0-via-then-digits-eq0+else-are_digits, else-digits-eq0-via-else-digits-eq0}

-- what follows the word of a line that checks bytes is an even number of digits
pub returns-else-digits-eq0-clause-misses_none : goal.returns-else-digits-eq0-clause-misses_none
returns-else-digits-eq0-clause-misses_none c bytes h =
    let same : h.digits ≡ c.in_ok-digits.digits.now = sym (c.in_ok-digits.ensures.cases.1 ∙ ap (drop 6) h.whole) in
    let even = subst (λ ds. length ds % 2 ≡ 0) same (digits_even h.digits bytes h.hex) in
    let pass = subst (AllPass is_ascii_hexdigit) same (digits_pass h.digits bytes h.hex.text h.hex.bytes_fit) in
    elim c.else-digits-eq0.branch [
      | else-digits-eq0-via-then-digits-eq0+else-are_digits w ↦ sym w.if-are_digits.false ∙ w.are_digits.ensures.1 pass
      | else-digits-eq0-via-else-digits-eq0 w ↦ absurd (w.if-digits-eq0.false even)
    ]
