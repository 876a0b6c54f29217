-- Words and their keys, one word after the other.
use Rattle.std.proofs.Common.{◌≡◌, ◌∙◌, ℕ, suc, ◌+◌, ◌<◌, List, [], ◌∷◌, ◌++◌, length, map, take, drop, get_or, sym, ap, subst, take-append-drop, drop-cons}
use Rattle.std.specs.List.{AllZip}
use Rattle.std.proofs.lemmas.Grind.{take_at_read}
use Rattle.std.proofs.lemmas.List.{map-append}
use Rattle.odht_tool_core.specs.Keys.{IsTextOfNone, IsFirstFault, TellsWord, TellsFault}
use Rattle.odht_tool_core.specs.declared.failure.Failure.{Failure}
use Rattle.odht_tool_core.specs.declared.failure.Failure.TheVariants.{Memory, Misread}
use Rattle.odht_tool_core.specs.declared.misread.Wanted.{Wanted}

-- one text more, of one key more
pub AllZip-one_more : {X Y : Type 0} (R : X → Y → Type 0) (xs : List X) (ys : List Y) (x : X) (y : Y) → AllZip R xs ys → R x y → AllZip R (xs ++ (x ∷ [])) (ys ++ (y ∷ []))
AllZip-one_more R [] [] x y h r = (r, tt)
AllZip-one_more R [] (b ∷ ys) x y h r = absurd h
AllZip-one_more R (a ∷ xs) [] x y h r = absurd h
AllZip-one_more R (a ∷ xs) (b ∷ ys) x y h r = (h.0, AllZip-one_more R xs ys x y h.1 r)

module _ {X K : Type 0} (R : List ℕ → K → Type 0) (f : X → List ℕ) (xs : List X) (i : ℕ) (x : X) (ks : List K) (l : i < length xs) (is : x ≡ get_or xs i x) (h : AllZip R (map f (take i xs)) ks) where
  -- one word more is a text of one key more
  pub words_more : (k : K) → R (f x) k → AllZip R (map f (take (i + 1) xs)) (ks ++ (k ∷ []))
  words_more k r =
      let more : map f (take (i + 1) xs) ≡ map f (take i xs) ++ (f x ∷ []) =
      ap (map f) (take_at_read xs i x l).1 ∙ map-append f (take i xs) (get_or xs i x ∷ []) ∙ ap (λ y. map f (take i xs) ++ (f y ∷ [])) (sym is) in
      subst (λ ws. AllZip R ws (ks ++ (k ∷ []))) (sym more) (AllZip-one_more R (map f (take i xs)) ks (f x) k h r)

  -- or it is the first that is a text of no key
  pub first_fault : IsTextOfNone R (f x) → IsFirstFault R (map f xs) (f x)
  first_fault none = record {
    before = map f (take i xs);
    after = map f (drop (suc i) xs);
    place = ap (map f) (sym (take-append-drop i xs) ∙ ap (λ ys. take i xs ++ ys) (drop-cons xs i x l))
        ∙ map-append f (take i xs) (get_or xs i x ∷ drop (suc i) xs) ∙ ap (λ y. map f (take i xs) ++ (f y ∷ map f (drop (suc i) xs))) (sym is);
    keys = ks;
    earlier = h;
    fault = none;
  }

-- a failure that tells it
pub tells_fault : {K : Type 0} (R : List ℕ → K → Type 0) (p : Wanted) (ws : List (List ℕ)) (word : List ℕ) (failure : Failure) → IsFirstFault R ws word → TellsWord p word failure → TellsFault R p ws failure
tells_fault R p ws word (Misread message) first h = (word, first, h)
tells_fault R p ws word Memory first h = tt
tells_fault R p ws word _ first h = absurd h
