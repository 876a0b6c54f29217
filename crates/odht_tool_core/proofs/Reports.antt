-- Reports that are written field by field.
use Rattle.std.proofs.Common.{◌≡◌, ◌∙◌, ℕ, ◌+◌, ◌<◌, ◌≤◌, List, [], ◌∷◌, ◌++◌, Option, Result, length, get_or, map, take, take_all, append-nil, sym, ap, refl, subst}
use Rattle.std.specs.Io.KnownBytes.{Appends}
use Rattle.std.specs.Prelude.{OnOk}
use Rattle.std.proofs.KnownBytes.{Appends-trans}
use Rattle.std.proofs.lemmas.List.{append_assoc, map-append, map_more}
use Rattle.std.proofs.lemmas.List.Concat.{flat_map-append}
use Rattle.odht_tool_core.specs.Json.{json_field, json_object, more_fields}
use Rattle.odht_tool_core.specs.Reports.{member, told}
use Rattle.odht_tool_core.specs.declared.report.Field.{Field}
use Rattle.odht_tool_core.proofs.InfoLines.{then_appends}

-- the names and values of some fields
abbrev pub members : List Field → List (List ℕ × List ℕ)
members fs = map member (map told fs)

members_more : (fs : List Field) (i : ℕ) (d : Field) → i < length fs → members (take (i + 1) fs) ≡ members (take i fs) ++ (member (told (get_or fs i d)) ∷ [])
members_more fs i d low = ap (map member) (map_more told fs i d low) ∙ map-append member (map told (take i fs)) (told (get_or fs i d) ∷ [])

-- an object that is begun: its fields so far
abbrev pub begun : List (List ℕ × List ℕ) → List ℕ
begun [] = []
begun (x ∷ xs) = 123 ∷ (json_field x ++ more_fields xs)

-- what stands before the next field
abbrev pub mark_after : List (List ℕ × List ℕ) → ℕ
mark_after [] = 123
mark_after (x ∷ xs) = 44

-- one field more
begun_more : (xs : List (List ℕ × List ℕ)) (x : List ℕ × List ℕ) → begun (xs ++ (x ∷ [])) ≡ begun xs ++ (mark_after xs ∷ json_field x)
begun_more [] x = ap (λ t. 123 ∷ t) (append-nil (json_field x))
begun_more (y ∷ xs) x =
    let more = flat_map-append (λ z. 44 ∷ json_field z) xs (x ∷ []) ∙ ap (λ t. more_fields xs ++ t) (append-nil (44 ∷ json_field x)) in
    ap (λ t. 123 ∷ (json_field y ++ t)) more ∙ ap (λ t. 123 ∷ t) (sym (append_assoc (json_field y) (more_fields xs) (44 ∷ json_field x)))

mark_more : (xs : List (List ℕ × List ℕ)) (x : List ℕ × List ℕ) → 44 ≡ mark_after (xs ++ (x ∷ []))
mark_more [] x = refl
mark_more (y ∷ xs) x = refl

pub member_written : (a b c : Option (List ℕ)) (m : ℕ) (fs : List Field) (i : ℕ) (d : Field) → i < length fs
    → Appends a b (begun (members (take i fs))) × (m ≡ mark_after (members (take i fs)))
    → Appends b c (m ∷ json_field (member (told (get_or fs i d))))
    → Appends a c (begun (members (take (i + 1) fs))) × (44 ≡ mark_after (members (take (i + 1) fs)))
member_written a b c m fs i d low so_far one =
    let xs = members (take i fs) in
    let x = member (told (get_or fs i d)) in
    let marked = subst (λ k. Appends b c (k ∷ json_field x)) so_far.1 one in
    let all = subst (Appends a c) (sym (begun_more xs x)) (Appends-trans a b c (begun xs) (mark_after xs ∷ json_field x) so_far.0 marked) in
    subst (λ ys. Appends a c (begun ys) × (44 ≡ mark_after ys)) (sym (members_more fs i d low)) (all, mark_more xs x)

-- ---- the end of the object
begun_end : (xs : List (List ℕ × List ℕ)) (m : ℕ) → (m ≡ 123 → ⊥) → m ≡ mark_after xs → begun xs ++ (125 ∷ []) ≡ json_object xs
begun_end [] m some h = absurd (some h)
begun_end (x ∷ xs) m some h = ap (λ t. 123 ∷ t) (append_assoc (json_field x) (more_fields xs) (125 ∷ []))

none_begun : (xs : List (List ℕ × List ℕ)) → 123 ≡ mark_after xs → begun xs ++ (123 ∷ 125 ∷ []) ≡ json_object xs
none_begun [] h = refl
none_begun (x ∷ xs) h = cc

module _ {X E : Type 0} (r : Result X E) (a b c : Option (List ℕ)) (m : ℕ) (fs : List Field) (i : ℕ) (all : length fs ≤ i) (so_far : Appends a b (begun (members (take i fs))) × (m ≡ mark_after (members (take i fs)))) where
  ended : (e : List ℕ) → begun (members (take i fs)) ++ e ≡ json_object (members (take i fs)) → OnOk r (Appends b c e) → OnOk r (Appends a c (json_object (members fs)))
  ended e is last =
      subst (λ t. OnOk r (Appends a c t)) (is ∙ ap (λ gs. json_object (members gs)) (take_all i fs all)) (then_appends r a b c (begun (members (take i fs))) e so_far.0 last)

  pub object_ended : (m ≡ 123 → ⊥) → OnOk r (Appends b c (125 ∷ [])) → OnOk r (Appends a c (json_object (members fs)))
  object_ended some last = ended (125 ∷ []) (begun_end (members (take i fs)) m some so_far.1) last

  pub empty_ended : m ≡ 123 → OnOk r (Appends b c (123 ∷ 125 ∷ [])) → OnOk r (Appends a c (json_object (members fs)))
  empty_ended none last = ended (123 ∷ 125 ∷ []) (none_begun (members (take i fs)) (sym none ∙ so_far.1)) last
