-- What the writes of a new table leave.
use Rattle.std.proofs.Common.{append_assoc, length-take, ◌≤◌, ◌≡◌, ◌∙◌, ◌+◌, ◌-◌, ◌*◌, ◌++◌, ℕ, sym, ap, subst, List, take, drop, replicate, length, arith, lit≤}
use Rattle.odht_raw.proofs.lemmas.Below.{bytes_at-between, image-empty, IsSized-empty, length-replicate, replicate-append-replicate, split_bytes_at, with_count-append, with_count-header_bytes}
use Rattle.odht_raw.specs.Words.{bytes_at, empty, entry_len, Format, header_bytes, image, IsSlotCount, overwritten_at, with_count}
use Rattle.std.specs.Prelude.{None}
use Rattle.odht_raw.specs.Frame.{IsAccepted}
use Rattle.odht_raw.proofs.lemmas.Accepted.{IsAccepted-image, IsAccepted-with_count}

-- a write of the bytes that are there changes nothing
pub overwritten_at-same : (B : List ℕ) (at : ℕ) (d : List ℕ) → bytes_at B at (length d) ≡ d → overwritten_at B at d ≡ B
overwritten_at-same B at d e =
    append_assoc (take at B) d (drop (at + length d) B)
    ∙ ap (λ t. take at B ++ (t ++ drop (at + length d) B)) (sym e) ∙ sym (split_bytes_at B at (length d))

-- the bytes of a write
pub bytes_at-overwritten_at : (B : List ℕ) (at n : ℕ) (d : List ℕ) → at ≤ length B → length d ≡ n → bytes_at (overwritten_at B at d) at n ≡ d
bytes_at-overwritten_at B at n d fits long =
    ap (λ t. bytes_at t at n) (append_assoc (take at B) d (drop (at + length d) B))
    ∙ bytes_at-between (take at B) d (drop (at + length d) B) at n (length-take at B ∙ omega (arith, fits)) long

-- bytes of zeros are zeros
pub bytes_at-zeros : (len at n : ℕ) → at + n ≤ len → bytes_at (replicate len 0) at n ≡ replicate n 0
bytes_at-zeros len at n fits =
    let split : len ≡ at + (n + (len - at - n)) = omega (arith, fits) in
    let last : List ℕ = replicate (len - at - n) 0 in
    ap (λ m. bytes_at (replicate m 0) at n) split
    ∙ ap (λ t. bytes_at t at n) (sym (replicate-append-replicate at (n + (len - at - n)) 0) ∙ ap (λ t. replicate at 0 ++ t) (sym (replicate-append-replicate n (len - at - n) 0)))
    ∙ bytes_at-between (replicate at 0) (replicate n 0) last at n (length-replicate at 0) (length-replicate n 0)

module _ (F : Format) (s c f : ℕ) (count : IsSlotCount s) where
  -- an empty table's bytes with the count c are accepted
  pub IsAccepted-new : IsAccepted F (with_count (image F (empty s f)) c)
  IsAccepted-new =
      IsAccepted-with_count F (image F (empty s f))
      (IsAccepted-image F (empty s f) (subst IsSlotCount (sym (length-replicate s None)) count) (IsSized-empty F s f count)) c

  -- they are the header, zeros for the entries, and the control bytes of free slots
  pub bytes-new : with_count (image F (empty s f)) c ≡ header_bytes F s c f ++ (replicate (s * entry_len F) 0 ++ replicate (s + 16) 255)
  bytes-new =
      let rest : List ℕ = replicate (s * entry_len F) 0 ++ replicate (s + 16) 255 in
      ap (λ b. with_count b c) (image-empty F s f count.least) ∙ with_count-append (header_bytes F s 0 f) rest c (lit≤ tt) ∙ ap (λ h. h ++ rest) (with_count-header_bytes F s 0 f c)

  -- with the count 0 they are the empty table's
  pub with_count-new : with_count (image F (empty s f)) 0 ≡ image F (empty s f)
  with_count-new =
      let rest : List ℕ = replicate (s * entry_len F) 0 ++ replicate (s + 16) 255 in
      ap (λ b. with_count b 0) (image-empty F s f count.least)
      ∙ with_count-append (header_bytes F s 0 f) rest 0 (lit≤ tt) ∙ ap (λ h. h ++ rest) (with_count-header_bytes F s 0 f 0)
      ∙ sym (image-empty F s f count.least)
