-- A store after a borrow of its bytes that left as many bytes as before.
use Rattle.std.proofs.Common.{◌≡◌, ◌∙◌, ℕ, List, sym, ap, length}

module _ {S : Type 0} (bytes : S → List ℕ) (holding after_borrow : S → List ℕ → S) (held : (s : S) (b : List ℕ) → bytes (holding s b) ≡ b)
    (fits : (s : S) (b : List ℕ) → length b ≡ length (bytes s) → after_borrow s b ≡ holding s b) (s : S) (b : List ℕ) (long : length b ≡ length (bytes s)) where
  -- its bytes are those that were left
  pub borrowed-bytes : bytes (after_borrow s b) ≡ b
  borrowed-bytes = ap bytes (fits s b long) ∙ held s b

  -- and it is the same store
  pub borrowed-same : after_borrow s b ≡ holding s (bytes (after_borrow s b))
  borrowed-same = fits s b long ∙ sym (ap (holding s) borrowed-bytes)
