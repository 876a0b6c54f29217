-- Bytes that are cut at the first place of a byte.
use Rattle.std.proofs.Common.{◌≡◌, ◌≢◌, ◌∙◌, ℕ, ◌+◌, ◌-◌, ◌<◌, ◌==◌, not, List, ◌∷◌, ◌++◌, length, take, drop, get_or, sym, ap, arith, take-append-drop, eq-eqb, length-take-le, get_or-take}
use Rattle.std.specs.List.{All, position_or_len}
use Rattle.std.proofs.lemmas.Bool.{both_ways, not-true, not-false, eqb-true}
use Rattle.std.proofs.lemmas.List.{drop_more, take_rest}
use Rattle.std.proofs.lemmas.List.Sums.{prefix_len_passes, prefix_len_stops}
use Rattle.odht_tool_core.specs.Cuts.{IsCutAt}

module _ (b : ℕ) (bytes : List ℕ) (at : ℕ) (is : at ≡ position_or_len (λ x. x == b) bytes) where
  before : (k d : ℕ) → k < at → get_or bytes k d ≢ b
  before k d l e =
      let passes = prefix_len_passes (λ x. not (x == b)) bytes k d (omega (arith, is, l)) in
      both_ways (get_or bytes k d == b) (not-true _ passes) (eq-eqb _ b e)

  pub no_place : at ≡ length bytes → All (λ x. x ≢ b) bytes
  no_place all = λ k d l. before k d (omega (arith, all, l))

  pub cut_at_place : at < length bytes → IsCutAt b bytes (take at bytes) (take (length bytes - (at + 1)) (drop (at + 1) bytes))
  cut_at_place l =
      let stop = prefix_len_stops (λ x. not (x == b)) bytes 0 (omega (arith, is, l)) in
      let here : get_or bytes at 0 ≡ b = ap (λ k. get_or bytes k 0) is ∙ eqb-true _ b (not-false _ stop) in
      let back : drop at bytes ≡ b ∷ take (length bytes - (at + 1)) (drop (at + 1) bytes) =
      drop_more bytes at 0 l ∙ ap (λ x. x ∷ drop (at + 1) bytes) here ∙ ap (λ xs. b ∷ xs) (sym (take_rest bytes (at + 1))) in
      let long : length (take at bytes) ≡ at = length-take-le at bytes (omega arith) in (
        sym (take-append-drop at bytes) ∙ ap (λ xs. take at bytes ++ xs) back,
        λ k d inside e. let early : k < at = omega (arith, inside, long) in before k d early (sym (get_or-take at bytes k d early) ∙ e),
      )
