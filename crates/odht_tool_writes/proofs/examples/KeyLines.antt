-- Worked examples: which keys the lines of an input are for `delete -`.
use Rattle.std.proofs.Common.{◌≡◌, ◌∙◌, inl, inr, ℕ, refl, ap, arith, length, length-append, List, [], ◌∷◌, Some, None}
use Rattle.std.specs.Fmt.{digits}
use Rattle.std.specs.Prelude.{codes, string_bytes}
use Rattle.odht_tool_writes.specs.DeleteLines.{are_lines_keys, is_line_fault}
use Rattle.odht_tool_core.specs.declared.any.AnyShape.TheVariants.{Ready}
use Rattle.odht_tool_core.specs.declared.failure.Failure.TheVariants.{Misread, Refused}
use Rattle.odht_tool_core.specs.declared.forms.Form.TheVariants.{Own}
use Rattle.odht_tool_core.specs.declared.generated.shapes.Shape.TheVariants.{DirectU32ToU32}
use Rattle.odht_tool_tables.proofs.examples.KeyTexts.{five, second_text, six}

-- the bytes of the keys; an empty last line is left out
pub keys : are_lines_keys Own (Some (codes "5\n6\n\n")) (codes "5" ∷ codes "6" ∷ []) (Ready DirectU32ToU32) ((5 ∷ 0 ∷ 0 ∷ 0 ∷ []) ∷ (6 ∷ 0 ∷ 0 ∷ 0 ∷ []) ∷ [])
keys = (((five.0, (refl, five.1)), ((six.0, (refl, six.1)), tt)), inr (refl, λ k r. omega (arith, r.0.0.0)))

-- no line is left out else
pub not_all : (ks : List (List ℕ)) → are_lines_keys Own (Some (codes "5\n6")) (codes "5" ∷ []) (Ready DirectU32ToU32) ks → ⊥
not_all ks h = elim h.1 [
  | inl e ↦ cc
  | inr e ↦ let e = e.0 in cc
]

-- the second line is no key
pub second : (message : _) → string_bytes message ≡ second_text → is_line_fault Own (Some (codes "5\nx\n6")) (Ready DirectU32ToU32) (Misread message)
unfolding digits
second message misread = record { before = codes "5" ∷ []; line = codes "x"; after = codes "6" ∷ []; place = refl; keys = (5 ∷ 0 ∷ 0 ∷ 0 ∷ []) ∷ []; earlier = ((five.0, (refl, five.1)), tt); fault = λ k r. omega (arith, r.0.0.1.0); more = λ e q. cc; misread = misread }

-- of no lines none is misread, and no rule is one of lines
pub none : (message : _) → is_line_fault Own (Some []) (Ready DirectU32ToU32) (Misread message) → ⊥
none message h = omega (arith, ap length h.place ∙ length-append h.before (h.line ∷ h.after))

pub no_rule : (error : _) → is_line_fault Own None (Ready DirectU32ToU32) (Refused error) → ⊥
no_rule error h = h
