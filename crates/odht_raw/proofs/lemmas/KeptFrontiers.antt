-- Frontiers are kept: the first ones, and that they stay where fewer slots wait.
use Rattle.std.proofs.Common.{◌≡◌, ◌≢◌, ◌<◌, ◌+◌, ◌-◌, ◌^◌, ◌∙◌, inl, inr, ℕ, sym, ap, subst, List, length, get_or, set, drop, replicate, arith, Contains, IsPermutation, get_or-set_other, get_or-set_same}
use Rattle.odht_raw.proofs.lemmas.Below.{All-replicate, cases_order, Contains-permutation, get_or-drop, IsPermutation-sym, length-drop, length-set}
use Rattle.odht_base.specs.Load.{IsSlotCount}
use Rattle.odht_raw.specs.Frontiers.{AreFrontiers}
use Rattle.odht_raw.specs.Waiting.{waiting, IsFrontier}
use Rattle.odht_raw.specs.declared.raw_table.insert_order.Frontier.{Frontier}
use Rattle.odht_raw.proofs.lemmas.Frontiers.{frontier_home}

-- what waits in ms waits in ns
abbrev pub WaitsStill : List ℕ → List ℕ → Type 0
WaitsStill ns ms = (j : ℕ) → Contains ms (waiting j) → Contains ns (waiting j)

pub frontiers_keep : (ns ms : List ℕ) (s : ℕ) (fs : List Frontier) → WaitsStill ns ms → AreFrontiers ns s fs → AreFrontiers ms s fs
frontiers_keep ns ms s fs still kept k d l =
    let f = kept k d l in
    record {
      home_within = f.home_within;
      aligned = f.aligned;
      within = f.within;
      base_is = f.base_is;
      free = λ q low w. f.free q low (still _ w);
    }

-- where an item is placed
pub still_placed : (ns : List ℕ) (at i : ℕ) → i < 2 ^ 63 → WaitsStill ns (set ns at i)
still_placed ns at i low j w = elim (cases_order w.0 at) [
  | inl same ↦
      let l : at < length ns = omega (arith, same, w.1, length-set ns at i) in
      let is : get_or (set ns at i) at (waiting j) ≡ i = rw get_or-set_same in
      absurd (omega (arith, low, is, w.2, ap (λ k. get_or (set ns at i) k (waiting j)) same))
  | inr differ ↦
      let ne : w.0 ≢ at = elim differ [ inl before ↦ omega (arith, before) | inr after ↦ omega (arith, after) ] in
      let kept : get_or (set ns at i) w.0 (waiting j) ≡ get_or ns w.0 (waiting j) = rw get_or-set_other in
      (w.0, omega (arith, w.1, length-set ns at i), sym kept ∙ w.2)
]

-- and where the list is put in order, and its first items left out
pub still_sorted : (ns ss : List ℕ) (n : ℕ) → IsPermutation ns ss → WaitsStill ns (drop n ss)
still_sorted ns ss n moved j w =
    Contains-permutation ss ns (waiting j) (IsPermutation-sym _ _ moved)
    (n + w.0, omega (arith, w.1, length-drop n ss), sym (get_or-drop n ss w.0 (waiting j)) ∙ w.2)

-- those of slot 0, of which none is passed, are frontiers in any list
pub first_frontiers : (ns : List ℕ) (s n : ℕ) (f : Frontier) → IsSlotCount s → f ≡ record { home = 0; base = 0; position = 0 } → AreFrontiers ns s (replicate n f)
first_frontiers ns s n f count is =
    let whole : s - 1 + 1 ≡ s = omega (arith, count.least) in
    let first : IsFrontier ns s 0 0 0 = subst (λ m. IsFrontier ns m 0 0 0) whole (frontier_home ns (s - 1) 0 (subst IsSlotCount (sym whole) count) (omega arith)) in
    All-replicate (λ (g : Frontier). IsFrontier ns s g.home g.base g.position) n f (subst (λ (g : Frontier). IsFrontier ns s g.home g.base g.position) (sym is) first)
