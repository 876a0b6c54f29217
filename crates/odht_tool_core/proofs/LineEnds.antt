-- Where the first line of some bytes ends, and what follows it.
use Rattle.std.proofs.Common.{◌≡◌, ◌∙◌, ◌⊎◌, inl, inr, ℕ, ◌+◌, ◌-◌, ◌<◌, ◌==◌, Bool, true, false, List, [], ◌∷◌, ◌++◌, Option, Some, None, IfSome, length, take, get_or, sym, ap, refl, arith, eqb-true, ne_eqb, lt-ltb, eq-eqb, ◌&&◌, length-append, if◌then◌else◌}
use Rattle.std.specs.Io.BufRead.{take_through, drop_through, ends_with_byte, strip_last, DropsThrough}
use Rattle.std.specs.List.{All, slice_split, onto_first}
use Rattle.std.specs.Str.Lines.{lines, lines_of_parts, strip_carriage_return}
use Rattle.std.proofs.lemmas.Grind.{common_steps}
use Rattle.std.proofs.lemmas.List.{take-append-le, take_all}
use Rattle.std.proofs.lemmas.List.Elements.{All-nil, All-cons}
use Rattle.std.proofs.lemmas.List.Splits.{length-slice_split}
use Rattle.odht_tool_core.specs.InputLines.{without_end, IsNextLine}

abbrev is_feed : ℕ → Bool
is_feed b = b == 10

-- the bytes have a line feed, behind `body`
record HasFeed (bs : List ℕ) : Type 0 where
  body : List ℕ
  through : take_through 10 bs ≡ body ++ (10 ∷ [])
  parts : slice_split is_feed bs ≡ body ∷ slice_split is_feed (drop_through 10 bs)

-- or they have none
record HasNoFeed (bs : List ℕ) : Type 0 where
  through : take_through 10 bs ≡ bs
  rest : drop_through 10 bs ≡ []
  parts : slice_split is_feed bs ≡ bs ∷ []
  none : All (λ b. is_feed b ≡ false) bs

first_feed : (bs : List ℕ) → HasFeed bs ⊎ HasNoFeed bs
first_feed [] = inr (record { through = refl; rest = refl; parts = refl; none = All-nil (λ b. is_feed b ≡ false) })
first_feed (x ∷ bs) = go (x == 10) refl (first_feed bs)
  where
    go : (t : Bool) → (x == 10) ≡ t → HasFeed bs ⊎ HasNoFeed bs → HasFeed (x ∷ bs) ⊎ HasNoFeed (x ∷ bs)
    go true e h =
        inl (record { body = []; through = rw e (ap (λ y. y ∷ []) (eqb-true x 10 e)); parts = rw e refl })
    go false e (inl h) =
        inl (record { body = x ∷ h.body; through = rw e (ap (λ ys. x ∷ ys) h.through); parts = rw e (ap (onto_first x) h.parts) })
    go false e (inr h) = inr (record {
      through = rw e (ap (λ ys. x ∷ ys) h.through);
      rest = rw e h.rest;
      parts = rw e (ap (onto_first x) h.parts);
      none = All-cons (λ b. is_feed b ≡ false) x bs e h.none;
    })

-- a part before another is a line
parts_of_line : (part : List ℕ) (parts : List (List ℕ)) → 0 < length parts → lines_of_parts (part ∷ parts) ≡ strip_carriage_return part ∷ lines_of_parts parts
parts_of_line part [] l = absurd (omega (arith, l))
parts_of_line part (next ∷ more) l = refl

-- a byte at the end
ends_at : (body : List ℕ) (b : ℕ) → ends_with_byte b (body ++ (b ∷ [])) ≡ true
ends_at body b =
    let long : length (body ++ (b ∷ [])) ≡ length body + 1 = length-append body (b ∷ []) in
    let last : length (body ++ (b ∷ [])) - 1 ≡ length body = omega (arith, long) in
    let here : get_or (body ++ (b ∷ [])) (length (body ++ (b ∷ [])) - 1) 0 ≡ b = ap (λ n. get_or (body ++ (b ∷ [])) n 0) last ∙ grind (arith, common_steps) in
    rw (lt-ltb 0 (length (body ++ (b ∷ []))) (omega (arith, long))) (eq-eqb _ b here)

-- and it dropped
dropped_at : (body : List ℕ) (b : ℕ) → strip_last b (body ++ (b ∷ [])) ≡ body
dropped_at body b =
    let long : length (body ++ (b ∷ [])) ≡ length body + 1 = length-append body (b ∷ []) in
    let last : length (body ++ (b ∷ [])) - 1 ≡ length body = omega (arith, long) in
    ap (λ t. if t then take (length (body ++ (b ∷ [])) - 1) (body ++ (b ∷ [])) else body ++ (b ∷ [])) (ends_at body b)
    ∙ ap (λ n. take n (body ++ (b ∷ []))) last ∙ take-append-le (length body) body (b ∷ []) (omega arith) ∙ take_all (length body) body (omega arith)

-- a carriage return is dropped alike
carriage : (body : List ℕ) → strip_last 13 body ≡ strip_carriage_return body
carriage [] = refl
carriage (x ∷ xs) =
    let n = length (x ∷ xs) in
    ap (λ t. if t && (get_or (x ∷ xs) (n - 1) 0 == 13) then take (n - 1) (x ∷ xs) else x ∷ xs) (lt-ltb 0 n (omega arith))

-- where no byte is a line feed, none is the last
no_end : (bs : List ℕ) → All (λ b. is_feed b ≡ false) bs → ends_with_byte 10 bs ≡ false
no_end [] h = refl
no_end (x ∷ bs) h =
    let n = length (x ∷ bs) in
    ap (λ t. t && (get_or (x ∷ bs) (n - 1) 0 == 10)) (lt-ltb 0 n (omega arith)) ∙ h (n - 1) 0 (omega arith)

-- the first line is what is read through the first line feed, without its end, and the others follow it
pub first_line : (bs : List ℕ) → 0 < length bs → lines bs ≡ without_end (take_through 10 bs) ∷ lines (drop_through 10 bs)
first_line bs l = elim (first_feed bs) [
  | inl h ↦ fed h
  | inr h ↦ bare h
]
  where
    fed : HasFeed bs → lines bs ≡ without_end (take_through 10 bs) ∷ lines (drop_through 10 bs)
    fed h =
        let rest = slice_split is_feed (drop_through 10 bs) in
        let some : 0 < length rest = omega (arith, length-slice_split is_feed (drop_through 10 bs)) in
        let end : without_end (take_through 10 bs) ≡ strip_carriage_return h.body =
        ap without_end h.through ∙ ap (λ b. if b then strip_last 13 (strip_last 10 (h.body ++ (10 ∷ []))) else h.body ++ (10 ∷ [])) (ends_at h.body 10)
        ∙ ap (strip_last 13) (dropped_at h.body 10) ∙ carriage h.body in
        ap lines_of_parts h.parts ∙ parts_of_line h.body rest some ∙ ap (λ l. l ∷ lines (drop_through 10 bs)) (sym end)

    bare : HasNoFeed bs → lines bs ≡ without_end (take_through 10 bs) ∷ lines (drop_through 10 bs)
    bare h =
        let whole : lines bs ≡ bs ∷ [] = ap lines_of_parts h.parts ∙ ap (λ b. if b then [] else bs ∷ []) (ne_eqb (length bs) 0 (omega (arith, l))) in
        let same : without_end bs ≡ bs = ap (λ b. if b then strip_last 13 (strip_last 10 bs) else bs) (no_end bs h.none) in
        whole ∙ ap (λ xs. xs ∷ []) (sym same ∙ ap without_end (sym h.through)) ∙ ap (λ r. without_end (take_through 10 bs) ∷ lines r) (sym h.rest)

-- what is read through the first line feed is the next line
pub next_line : (old new : Option (List ℕ)) (front read line : List ℕ) → front ≡ [] → IfSome old (λ xs. read ≡ front ++ take_through 10 xs) → DropsThrough old new 10
    → 0 < length read → line ≡ without_end read → IsNextLine old new line
next_line None new front read line e b d l is = tt
next_line (Some []) new front read line e b d l is = absurd (omega (arith, l, ap length (b ∙ ap (λ f. f ++ []) e)))
next_line (Some (x ∷ xs)) new front read line e b d l is =
    let whole : read ≡ take_through 10 (x ∷ xs) = b ∙ ap (λ f. f ++ take_through 10 (x ∷ xs)) e in
    (drop_through 10 (x ∷ xs), d, first_line (x ∷ xs) (omega arith) ∙ ap (λ w. w ∷ lines (drop_through 10 (x ∷ xs))) (sym (is ∙ ap without_end whole)))
