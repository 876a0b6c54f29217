use Rattle.std.proofs.Common.{inl, inr, refl, subst, sym}
use Rattle.std.proofs.lemmas.Bool.{false≢true}
use Rattle.std.specs.Prelude.{codes}
use Rattle.odht_table.specs.Answers.{check_text}
use Rattle.odht_table.specs.Commands.{IsCheckText}
use Rattle.odht_table.specs.Scripts.IsOtherAnswered.{malformed, checked}
use Rattle.odht_table.proofs.Puts.{my_coding}
use Rattle.odht_table.proofs.HexTexts.{digits_check}
use Rattle.odht_table.proofs.script.check.answer_check.Goals as goal

-- a line that checks bytes has digits
pub returns-in_default : goal.returns-in_default
returns-in_default g c =
    (codes "malformed", malformed (λ bytes h. absurd (false≢true (c.in_default.ensures.misses_none bytes h))), c.writeln.ensures.bytes)

-- the bytes that were read are the line's
pub returns-in-Ok : goal.returns-in-Ok
returns-in-Ok g c =
    let line : IsCheckText c.args.line.now c.in-Ok.bytes.items = record { digits = c.in-Some.digits.now; whole = c.in-Some.ensures.line; hex = c.in-Ok.ensures } in (
      check_text my_coding.format c.as_slice.result.now,
      checked c.as_slice.result.now _ (subst (IsCheckText c.args.line.now) (sym c.as_slice.ensures.value) line) (inl refl),
      c.write_checked.ensures,
    )

-- the digits are those of some bytes
pub returns-in-Err : goal.returns-in-Err
returns-in-Err g c =
    let written = digits_check c.args.line.now c.in-Some.digits.now c.in-Some.ensures.line c.in-Some.ensures.even c.in-Some.ensures.hex in
    (codes "memory", checked written.0 (codes "memory") written.1 (inr refl), c.writeln-in-Err.ensures.bytes)
