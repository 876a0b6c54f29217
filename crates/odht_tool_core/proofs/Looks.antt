-- What all keys or values of a table look like, slot by slot.
use Rattle.std.proofs.Common.{◌≡◌, ◌↔◌, ◌∙◌, ℕ, IsTrue, List, ◌+◌, ◌&&◌, ◌||◌, Bool, true, false, not, [], ◌∷◌, map, ap, sym, refl, append-nil, slice_index, count_by, cond, arith}
use Rattle.std.specs.List.{AllPass, list_all}
use Rattle.std.proofs.lemmas.List.Sums.{AllPass-from_list_all, list_all-from_AllPass, sum_by-append, sum_by-cons}
use Rattle.std.proofs.lemmas.List.{map-append}
use Rattle.std.proofs.lemmas.List.Folds.{list_all-append}
use Rattle.odht_base.specs.Decoded.{counts_as_free}
use Rattle.odht_tool_core.specs.Evidence.{looks, part_at, parts_to}
use Rattle.odht_tool_core.specs.InfoNumbers.{DynParts, occupied}
use Rattle.odht_tool_core.specs.declared.evidence.Look.{Look}
use Rattle.odht_tool_core.specs.declared.evidence.Side.{Side}
use Rattle.odht_tool_core.specs.declared.shapes.Hash.TheVariants.{Fx}
use Rattle.odht_tool_core.proofs.DynSlots.{occupied_more}

-- true changes nothing
pub and_true : (b : Bool) → (b && true) ≡ b
and_true true = refl
and_true false = refl

-- what is so exactly where all pass
pub all_pass : {X : Type 0} (p : X → Bool) (xs : List X) (b : Bool) → (IsTrue b ↔ AllPass p xs) → b ≡ list_all p xs
all_pass p xs b both = go b (list_all p xs) both (λ e. AllPass-from_list_all p xs e) (λ all. list_all-from_AllPass p xs all)
  where
    go : {S : Type 0} (a b : Bool) → (IsTrue a ↔ S) → (b ≡ true → S) → (S → b ≡ true) → a ≡ b
    go true b both f g = sym (g (both.0 refl))
    go false true both f g = both.1 (f refl)
    go false false both f g = refl

module _ (side : Side) (T : DynParts) (look : Look) (n : ℕ) where
  -- one slot more
  pub all_more : list_all (looks look) (parts_to side T (n + 1)) ≡ (list_all (looks look) (parts_to side T n) && (counts_as_free (slice_index T.control n) || looks look (part_at side T n)))
  all_more = go (counts_as_free (slice_index T.control n)) refl
    where
      go : (free : Bool) → counts_as_free (slice_index T.control n) ≡ free
          → list_all (looks look) (parts_to side T (n + 1)) ≡ (list_all (looks look) (parts_to side T n) && (free || looks look (part_at side T n)))
      go true e =
          ap (λ is. list_all (looks look) (map (part_at side T) is)) (occupied_more T Fx n false (ap not e) ∙ append-nil (occupied T n))
          ∙ sym (and_true (list_all (looks look) (parts_to side T n)))
      go false e =
          ap (λ is. list_all (looks look) (map (part_at side T) is)) (occupied_more T Fx n true (ap not e))
          ∙ ap (list_all (looks look)) (map-append (part_at side T) (occupied T n) (n ∷ []))
          ∙ list_all-append (looks look) (parts_to side T n) (part_at side T n ∷ [])
          ∙ ap (λ b. list_all (looks look) (parts_to side T n) && b) (and_true (looks look (part_at side T n)))

  -- and how many look so
  pub count_more : count_by (looks look) (parts_to side T (n + 1)) ≡ count_by (looks look) (parts_to side T n) + cond (not (counts_as_free (slice_index T.control n)) && looks look (part_at side T n)) 1 0
  count_more = go (counts_as_free (slice_index T.control n)) refl
    where
      go : (free : Bool) → counts_as_free (slice_index T.control n) ≡ free
          → count_by (looks look) (parts_to side T (n + 1)) ≡ count_by (looks look) (parts_to side T n) + cond (not free && looks look (part_at side T n)) 1 0
      go true e =
          ap (λ is. count_by (looks look) (map (part_at side T) is)) (occupied_more T Fx n false (ap not e) ∙ append-nil (occupied T n))
          ∙ omega arith
      go false e =
          ap (λ is. count_by (looks look) (map (part_at side T) is)) (occupied_more T Fx n true (ap not e))
          ∙ ap (count_by (looks look)) (map-append (part_at side T) (occupied T n) (n ∷ []))
          ∙ sum_by-append (λ x. cond (looks look x) 1 0) (parts_to side T n) (part_at side T n ∷ [])
          ∙ ap (λ k. count_by (looks look) (parts_to side T n) + k) (sum_by-cons (λ x. cond (looks look x) 1 0) (part_at side T n) [] ∙ omega arith)
