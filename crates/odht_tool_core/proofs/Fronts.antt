-- The table that begins with some bytes opens with their errors.
use Rattle.std.proofs.Common.{◌≡◌, ◌∙◌, inl, inr, ℕ, ◌-◌, ◌≤◌, not, List, [], ◌∷◌, ◌++◌, Option, Some, None, length, length-drop, take, drop, nat_lt, sym, ap, arith, ne_eqb, refl}
use Rattle.std.specs.Option.{option_or}
use Rattle.std.proofs.Math.Seq.{take-length}
use Rattle.std.proofs.lemmas.Bool.{cases_lt, lt-ltb, le-ltb, ltb-false}
use Rattle.std.proofs.lemmas.List.{get_or-take}
use Rattle.odht_base.specs.Decoded.{header_slots}
use Rattle.odht_base.specs.Format.{Format, format_of}
use Rattle.odht_header.specs.Refusals.{◌gives◌, differs, first_of, field_refusals, tag_refusal, header_refusal, front_header_refusal, opening_refusal, prefix_refusal}
use Rattle.odht_header.specs.declared.error.Error.{Error}
use Rattle.odht_header.specs.declared.error.Error.TheVariants.{TooShort, WrongLength}
use Rattle.odht_header.proofs.lemmas.FirstErrors.{option_or-None, gives-None}
use Rattle.odht_raw.proofs.lemmas.Prefixes.{front_is, prefix_refusal-header}
use Rattle.odht_tool_core.specs.Fronts.{stated_len, front_refusal}
use Rattle.odht_tool_core.specs.InfoNumbers.{format_by, info_refusal}
use Rattle.odht_tool_core.specs.ReadyShapes.{hash_of}
use Rattle.odht_tool_core.specs.declared.shapes.Hash.TheVariants.{Fx}

-- too few bytes are a wrong length
short_long : (l n : ℕ) (e y : Error) → (nat_lt l n gives e) ≡ Some y → (differs l n gives e) ≡ Some y
short_long l n e y h = elim (cases_lt l n) [
  | inl low ↦ ap (λ c. not c gives e) (ne_eqb l n (λ s. omega (arith, low, s))) ∙ sym (ap (λ c. c gives e) (lt-ltb l n low)) ∙ h
  | inr high ↦ absurd (let none = ap (λ c. c gives e) (le-ltb l n high) in cc (none, h))
]

-- one of two last errors in the place of the other
last_error : (rs : List (Option Error)) (s l : Option Error) (x : Error) → ((y : Error) → s ≡ Some y → l ≡ Some y) → first_of (rs ++ (s ∷ [])) ≡ Some x → first_of (rs ++ (l ∷ [])) ≡ Some x
last_error [] (Some z) l x j e = ap (λ k. option_or k None) (j z refl) ∙ e
last_error [] None l x j e = cc
last_error (Some z ∷ rs) s l x j e = e
last_error (None ∷ rs) s l x j e = last_error rs s l x j e

-- behind an error that comes first, or none
behind : (a p q : Option Error) (x : Error) → (p ≡ Some x → q ≡ Some x) → option_or a p ≡ Some x → option_or a q ≡ Some x
behind (Some z) p q x j e = e
behind None p q x j e = j e

-- an error of the front is that of opening all bytes
pub same_error : (B : List ℕ) (x : Error) → front_refusal B ≡ Some x → info_refusal B ≡ Some x
unfolding prefix_refusal front_header_refusal opening_refusal header_refusal
same_error B x =
    behind (nat_lt (length B) 32 gives TooShort (length B)) _ _ x
    (last_error (field_refusals (format_by B Fx) B) _ _ x (short_long (length B) (stated_len B) (WrongLength (header_slots B) (length B) (stated_len B))))

-- where the front has no error it begins with the tag
pub front_tag : (B : List ℕ) → front_refusal B ≡ None → tag_refusal B ≡ None
unfolding prefix_refusal front_header_refusal
front_tag B e = (option_or-None _ _ (option_or-None _ _ e).1).0

-- has enough bytes for a header
enough : (B : List ℕ) → front_refusal B ≡ None → 32 ≤ length B
unfolding prefix_refusal
enough B e = ltb-false (length B) 32 (gives-None (nat_lt (length B) 32) (TooShort (length B)) (option_or-None _ _ e).0)

-- and it opens
pub front_opens : (B : List ℕ) → front_refusal B ≡ None → info_refusal (take (stated_len B) B) ≡ None
front_opens B e =
    let n = stated_len B in
    let long : 32 ≤ n = omega arith in
    let key = get_or-take n B 5 0 (omega (arith, long)) in
    let value = get_or-take n B 6 0 (omega (arith, long)) in
    let front = front_is (format_by B Fx) B (sym (prefix_refusal-header (format_by B Fx) B (enough B e)) ∙ e) in
    ap (λ (F : Format). opening_refusal F (take n B)) (λ i. format_of (key i) (value i) (hash_of Fx)) ∙ front.accepted

-- a slice up to the end is the rest
pub rest_is : (B : List ℕ) (at : ℕ) → take (length B - at) (drop at B) ≡ drop at B
rest_is B at = ap (λ n. take n (drop at B)) (sym (length-drop at B)) ∙ take-length (drop at B)
