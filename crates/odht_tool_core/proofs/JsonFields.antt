-- Fields of objects of JSON that are written one after the other.
use Rattle.std.proofs.Common.{◌≡◌, ◌∙◌, ℕ, List, [], ◌∷◌, ◌++◌, sym, ap}
use Rattle.std.proofs.lemmas.List.{append_assoc}
use Rattle.odht_tool_core.specs.Json.{json_field, json_object, more_fields}

-- an object and its line
end_of_line : (x : List ℕ × List ℕ) (xs : List (List ℕ × List ℕ)) → (123 ∷ json_field x) ++ (more_fields xs ++ (125 ∷ 10 ∷ [])) ≡ json_object (x ∷ xs) ++ (10 ∷ [])
end_of_line x xs =
    let f = json_field x in
    let m = more_fields xs in
    ap (λ t. 123 ∷ (f ++ t)) (sym (append_assoc m (125 ∷ []) (10 ∷ []))) ∙ ap (λ t. 123 ∷ t) (sym (append_assoc f (m ++ (125 ∷ [])) (10 ∷ [])))

-- the one field of a text
pub text_parts : (x : List ℕ × List ℕ) → 123 ∷ (json_field x ++ (125 ∷ 10 ∷ [])) ≡ json_object (x ∷ []) ++ (10 ∷ [])
text_parts x = end_of_line x []

-- the two fields of a pair
pub pair_parts : (k v : List ℕ × List ℕ) → 123 ∷ (json_field k ++ (44 ∷ (json_field v ++ (125 ∷ 10 ∷ [])))) ≡ json_object (k ∷ v ∷ []) ++ (10 ∷ [])
pair_parts k v = ap (λ t. 123 ∷ (json_field k ++ t)) (sym (append_assoc (44 ∷ json_field v) [] (125 ∷ 10 ∷ []))) ∙ end_of_line k (v ∷ [])

-- three numbers and the pair of a slot
push : (a x r z : List ℕ) → x ++ r ≡ z → (a ++ x) ++ r ≡ a ++ z
push a x r z h = append_assoc a x r ∙ ap (λ t. a ++ t) h

five_left : (a b d r : List ℕ) → (123 ∷ (a ++ (44 ∷ (b ++ (44 ∷ (d ++ (44 ∷ []))))))) ++ r ≡ 123 ∷ (a ++ (44 ∷ (b ++ (44 ∷ (d ++ (44 ∷ r))))))
five_left a b d r =
    let last = append_assoc d (44 ∷ []) r in
    let next = push b (44 ∷ (d ++ (44 ∷ []))) r (44 ∷ (d ++ (44 ∷ r))) (ap (λ t. 44 ∷ t) last) in
    ap (λ t. 123 ∷ t) (push a (44 ∷ (b ++ (44 ∷ (d ++ (44 ∷ []))))) r (44 ∷ (b ++ (44 ∷ (d ++ (44 ∷ r))))) (ap (λ t. 44 ∷ t) next))

four_right : (b d k v e : List ℕ) → ((44 ∷ b) ++ ((44 ∷ d) ++ ((44 ∷ k) ++ ((44 ∷ v) ++ [])))) ++ e ≡ 44 ∷ (b ++ (44 ∷ (d ++ (44 ∷ (k ++ (44 ∷ (v ++ e)))))))
four_right b d k v e =
    let one = ap (λ t. 44 ∷ t) (append_assoc v [] e) in
    let two = ap (λ t. 44 ∷ t) (push k (44 ∷ (v ++ [])) e (44 ∷ (v ++ e)) one) in
    let three = ap (λ t. 44 ∷ t) (push d (44 ∷ (k ++ (44 ∷ (v ++ [])))) e (44 ∷ (k ++ (44 ∷ (v ++ e)))) two) in
    ap (λ t. 44 ∷ t) (push b (44 ∷ (d ++ (44 ∷ (k ++ (44 ∷ (v ++ [])))))) e (44 ∷ (d ++ (44 ∷ (k ++ (44 ∷ (v ++ e)))))) three)

pub slot_parts : (a b d k v : List ℕ × List ℕ)
    → (123 ∷ (json_field a ++ (44 ∷ (json_field b ++ (44 ∷ (json_field d ++ (44 ∷ []))))))) ++ (json_field k ++ (44 ∷ (json_field v ++ (125 ∷ 10 ∷ []))))
    ≡ json_object (a ∷ b ∷ d ∷ k ∷ v ∷ []) ++ (10 ∷ [])
slot_parts a b d k v =
    let end : List ℕ = 125 ∷ 10 ∷ [] in
    let pair = json_field k ++ (44 ∷ (json_field v ++ end)) in
    let right = four_right (json_field b) (json_field d) (json_field k) (json_field v) end in
    five_left (json_field a) (json_field b) (json_field d) pair ∙ sym (ap (λ t. 123 ∷ (json_field a ++ t)) right) ∙ end_of_line a (b ∷ d ∷ k ∷ v ∷ [])
