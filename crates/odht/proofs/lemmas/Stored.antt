-- A value that a table has for a key is stored in its bytes, and a search reads no more groups than there are.
use Rattle.std.proofs.Common.{◌≡◌, ◌<◌, ◌≤◌, ◌+◌, ◌%◌, ◌/◌, ℕ, refl, sym, subst, List, Option, Some, None, length, arith}
use Rattle.std.specs.Prelude.{position}
use Rattle.std.specs.Option.{option_map_or}
use Rattle.std.proofs.lemmas.List.Quantifiers.{position-Some}
use Rattle.odht_raw.specs.Words.{Cells, Format, groups_read, home, reach, search_order, stops_at}
use Rattle.odht_base.proofs.lemmas.Orders.{length-order}

-- a search reads no more groups than there are
pub groups_few : (F : Format) (cs : Cells) (k : List ℕ) → length cs % 16 ≡ 0 → groups_read F cs k ≤ length cs / 16
unfolding reach
groups_few F cs k sixteens = go (position (stops_at cs k) (search_order F cs k)) refl
  where
    go : (o : Option ℕ) → position (stops_at cs k) (search_order F cs k) ≡ o → groups_read F cs k ≤ length cs / 16
    go None e = subst (λ r. option_map_or (λ p. p / 16 + 1) r (length cs / 16) ≤ length cs / 16) (sym e) (omega arith)
    go (Some p) e =
        let low : p < length cs = omega (arith, (position-Some (stops_at cs k) (search_order F cs k) p 0 e).0, length-order (home F k (length cs)) (length cs)) in
        subst (λ r. option_map_or (λ p. p / 16 + 1) r (length cs / 16) ≤ length cs / 16) (sym e) (omega (arith, low, sixteens))
