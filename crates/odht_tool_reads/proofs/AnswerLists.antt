-- Answers of lists in two parts.
use Rattle.std.proofs.Common.{◌≡◌, ◌∙◌, ℕ, zero, suc, ◌+◌, Bool, true, false, List, [], ◌∷◌, ◌++◌, Option, Some, None, length, map, is_some, ◌&&◌, slice_get, sym, ap, refl, arith, length-append, subst}
use Rattle.std.specs.Io.KnownBytes.{Appends, Keeps}
use Rattle.std.specs.List.{AllZip, list_all}
use Rattle.std.proofs.KnownBytes.{Appends-trans}
use Rattle.std.proofs.Math.Bool.{and_comm, and-false}
use Rattle.std.proofs.lemmas.List.{append_assoc, map-append}
use Rattle.std.proofs.lemmas.List.Folds.{list_all-append}
use Rattle.odht.specs.Lookups.{HaveStored}
use Rattle.odht_header.specs.Coding.{Coding, HasStored, value_for}
use Rattle.odht_tool_reads.specs.Gets.{AreAnswers}
use Rattle.odht_tool_core.specs.Texts.{answers_by}

-- the words of the first keys
pub record IsFront {K : Type 0} (R : List ℕ → K → Type 0) (ws : List (List ℕ)) (ks : List K) : Type 0 where
  pub before : List (List ℕ)
  pub after : List (List ℕ)
  pub place : ws ≡ before ++ after
  pub texts : AllZip R before ks

pub front_of : {K : Type 0} (R : List ℕ → K → Type 0) (ws : List (List ℕ)) (ks ls : List K) → AllZip R ws (ks ++ ls) → IsFront R ws ks
front_of R ws [] ls h = record { before = []; after = ws; place = refl; texts = tt }
front_of R [] (k ∷ ks) ls h = absurd h
front_of R (w ∷ ws) (k ∷ ks) ls h =
    let r = front_of R ws ks ls h.1 in
    record { before = w ∷ r.before; after = r.after; place = ap (λ xs. w ∷ xs) r.place; texts = (h.0, r.texts) }

-- what was appended is there after what kept it
pub appended_kept : (a b d : Option (List ℕ)) (xs : List ℕ) → Appends a b xs → Keeps b d → Appends a d xs
appended_kept None b d xs p q = tt
appended_kept (Some x) None d xs p q = absurd p
appended_kept (Some x) (Some y) None xs p q = absurd q
appended_kept (Some x) (Some y) (Some z) xs p q = q ∙ p

-- the lines of answers in two parts
pub answers_append : {K V : Type 0} (l : K × Option V → List ℕ) (ks ls : List K) (vs ws : List (Option V)) → length vs ≡ length ks
    → answers_by l (ks ++ ls) (vs ++ ws) ≡ answers_by l ks vs ++ answers_by l ls ws
answers_append l [] ls [] ws e = refl
answers_append l [] ls (v ∷ vs) ws e = absurd (omega (arith, e))
answers_append l (k ∷ ks) ls [] ws e = absurd (omega (arith, e))
answers_append l (k ∷ ks) ls (v ∷ vs) ws e =
    ap (λ t. l (k, v) ++ t) (answers_append l ks ls vs ws (omega (arith, e)))
    ∙ sym (append_assoc (l (k, v)) (answers_by l ks vs) (answers_by l ls ws))

-- what is stored with the keys of each part is so with those of both
stored_append : {K V : Type 0} (c : Coding K V) (B : List ℕ) (ks ls : List K) (vs ws : List (Option V)) → length vs ≡ length ks → HaveStored c B ks vs → HaveStored c B ls ws
    → (i : ℕ) (l : K) (w : V) → slice_get (ks ++ ls) i ≡ Some l → slice_get (vs ++ ws) i ≡ Some (Some w) → HasStored c B l w
stored_append c B [] ls [] ws e h j i l w p q = j i l w p q
stored_append c B [] ls (v ∷ vs) ws e h j i l w p q = absurd (omega (arith, e))
stored_append c B (k ∷ ks) ls [] ws e h j i l w p q = absurd (omega (arith, e))
stored_append c B (k ∷ ks) ls (v ∷ vs) ws e h j zero l w p q = h 0 l w p q
stored_append c B (k ∷ ks) ls (v ∷ vs) ws e h j (suc i) l w p q = stored_append c B ks ls vs ws (omega (arith, e)) (λ n. h (suc n)) j i l w p q

-- the answers to the keys of both parts
pub are_answers_append : {K V : Type 0} (c : Coding K V) (B : List ℕ) (ks ls : List K) (vs ws : List (Option V)) → AreAnswers c B ks vs → AreAnswers c B ls ws → AreAnswers c B (ks ++ ls) (vs ++ ws)
are_answers_append c B ks ls vs ws h j = record {
  each = length-append vs ws ∙ ap (λ n. n + length ws) h.each ∙ ap (λ n. length ks + n) j.each ∙ sym (length-append ks ls);
  on_valid = λ P is. ap (λ xs. xs ++ ws) (h.on_valid P is) ∙ ap (λ xs. map (value_for c P) ks ++ xs) (j.on_valid P is) ∙ sym (map-append (value_for c P) ks ls);
  on_any = stored_append c B ks ls vs ws h.each h.on_any j.on_any;
}

-- and their lines, written one part after the other
pub written_append : {K V : Type 0} (l : K × Option V → List ℕ) (ks ls : List K) (vs ws : List (Option V)) (a b d : Option (List ℕ)) → length vs ≡ length ks
    → Appends a b (answers_by l ks vs) → Appends b d (answers_by l ls ws) → Appends a d (answers_by l (ks ++ ls) (vs ++ ws))
written_append l ks ls vs ws a b d e p q = subst (Appends a d) (sym (answers_append l ks ls vs ws e)) (Appends-trans a b d (answers_by l ks vs) (answers_by l ls ws) p q)

-- whether all of both are found, and those in front of them
pub found_append : {V : Type 0} (b : Bool) (vs ws : List (Option V)) (was is all : Bool) → was ≡ (b && list_all is_some vs) → is ≡ list_all is_some ws → all ≡ (is && was) → all ≡ (b && list_all is_some (vs ++ ws))
found_append false vs ws was is all p q e = e ∙ ap (λ b. is && b) p ∙ and-false is
found_append true vs ws was is all p q e =
    e ∙ ap (λ b. b && was) q ∙ ap (λ b. list_all is_some ws && b) p ∙ and_comm (list_all is_some ws) (list_all is_some vs) ∙ sym (list_all-append is_some vs ws)
