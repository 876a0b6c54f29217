-- What is displayed in parts, as it stands in strings of JSON.
use Rattle.std.proofs.Common.{◌≡◌, ◌∙◌, ℕ, List, [], ◌∷◌, Option, Some, None, Result, Ok, Err, IfSome, IsOk, OnOk, refl, sym, subst}
use Rattle.std.specs.Fmt.{WritesInCalls}
use Rattle.std.specs.Io.KnownBytes.{Appends}
use Rattle.std.specs.List.{FoldsTo, concat, flat_map}
use Rattle.std.proofs.KnownBytes.{Appends-nil, Appends-trans}
use Rattle.std.proofs.lemmas.List.Concat.{flat_map-append}
use Rattle.odht_tool_core.specs.Json.{json_byte}

-- what follows where a call went well, which does so only where another did
pub on_both : {X E F : Type 0} (r : Result X E) (w : Result (Unit {0}) F) (N P Q : Type 0) → OnOk r (N × IsOk w) → OnOk w P → (P → Q) → OnOk r Q
on_both (Ok x) (Ok u) N P Q h k f = f k
on_both (Ok x) (Err e) N P Q h k f = cc (h.1)
on_both (Err e) w N P Q h k f = tt

-- what follows for each text follows where there is one
pub of_text : (o : Option (List ℕ)) (P Q : List ℕ → Type 0) → ((bs : List ℕ) → P bs → Q bs) → IfSome o P → IfSome o Q
of_text None P Q f h = tt
of_text (Some bs) P Q f h = f bs h

module _ {W N : Type 0} (name : W → N) (contents : W → Option (List ℕ)) where
  abbrev Took : W → List ℕ → W → Type 0
  Took w bs v = (name v ≡ name w) × Appends (contents w) (contents v) (flat_map json_byte bs)

  took_all : (w : W) (xs : List (List ℕ)) (v : W) → FoldsTo Took w xs v → Took w (concat xs) v
  took_all w [] v p = subst (Took w []) p (refl, Appends-nil (contents w))
  took_all w (x ∷ xs) v p =
      let rest = took_all p.0 xs v p.2 in
      (rest.0 ∙ p.1.0, subst (Appends (contents w) (contents v)) (sym (flat_map-append json_byte x (concat xs))) (Appends-trans _ _ _ (flat_map json_byte x) (flat_map json_byte (concat xs)) p.1.1 rest.1))

  -- calls that each keep the writer's name and append what stands for what they are given do so together
  pub took_whole : (w : W) (bs : List ℕ) (v : W) → WritesInCalls (λ s xs t. (name t ≡ name s) × Appends (contents s) (contents t) (flat_map json_byte xs)) w bs v
      → (name v ≡ name w) × Appends (contents w) (contents v) (flat_map json_byte bs)
  took_whole w bs v p = subst (λ l. Took w l v) p.whole (took_all w p.parts v p.calls)
