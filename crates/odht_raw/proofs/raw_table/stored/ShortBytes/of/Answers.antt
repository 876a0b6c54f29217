use Rattle.std.proofs.Common.{◌≡◌, ◌≤◌, ◌++◌, ◌-◌, ◌∙◌, ℕ, List, length, length-append, length-drop, drop, drop_at, replicate, ap, arith}
use Rattle.std.proofs.lemmas.List.{drop-replicate, length-replicate}
use Rattle.odht_raw.proofs.raw_table.stored.ShortBytes.of.Goals as goal

-- bytes, and zeros behind them up to 255
padded : (xs : List ℕ) (n : ℕ) → length xs ≡ n → n ≤ 255 → (length (xs ++ drop n (replicate 255 0)) ≡ 255) × (drop n (xs ++ drop n (replicate 255 0)) ≡ replicate (255 - n) 0)
padded xs n same short =
    let zeros : List ℕ = replicate 255 0 in
    let rest : length (drop n zeros) ≡ 255 - n = length-drop n zeros ∙ ap (λ m. m - n) (length-replicate {A = ℕ} 255 0) in (
      omega (arith, length-append xs (drop n zeros), rest, same, short),
      drop_at xs (drop n zeros) n same ∙ drop-replicate {X = ℕ} n 255 0,
    )

pub invariant_of-result : goal.invariant_of-result
invariant_of-result c =
    let rest = padded c.copy_from_slice.new.self (length c.args.slice.now) (ap length c.copy_from_slice.ensures.after) c.requires in
    (c.requires, rest.0, rest.1)
