-- Worked examples: what inserts in turn may do to bytes whose header and length are accepted.
use Rattle.std.proofs.Common.{◌≡◌, ℕ, refl, sym, ap, arith, List, [], ◌∷◌, Option, Ok, Err, length, length-append, subst, map, slice_index}
use Rattle.odht_base.specs.Numbers.{le_bytes}
use Rattle.odht_base.specs.Table.{Pair}
use Rattle.odht_base.specs.Writes.{with_pair, with_count}
use Rattle.odht_base.proofs.examples.Configs.{direct_config, pair32}
use Rattle.odht_header.specs.Coding.{encoded}
use Rattle.odht_raw.specs.Frame.{InsertFrame}
use Rattle.odht_header.proofs.examples.Opened.{opened}
use Rattle.odht.specs.Lists.{IsFramedRun}
use Rattle.odht_header.proofs.examples.Apart.{unequal_lists, tested}
use Rattle.odht_calls.proofs.examples.Tables.{direct_coding, no_bytes, one_bytes, other_bytes}
use Rattle.odht_base.specs.Decoded.{key_at}
use Rattle.odht_header.specs.Refusals.{lists_differ}

-- a run of no inserts leaves the bytes unchanged
pub unchanged : (B : List ℕ) {items : List (ℕ × ℕ)} {D : List ℕ}
    → IsFramedRun direct_coding B items D → length items ≡ 0 → D ≡ B
unchanged B IsFramedRun.start e = refl
unchanged B (IsFramedRun.accepted items k v o C D run frame) e =
    absurd (omega (arith, e, length-append items ((k, v) ∷ [])))

-- so it writes nothing
pub empty_run_refused : IsFramedRun direct_coding no_bytes [] one_bytes → ⊥
unfolding opened
empty_run_refused h = unequal_lists one_bytes no_bytes refl (unchanged no_bytes h refl)

-- no bytes have a slot
unaccepted : (B : List ℕ) (p : Pair) (D : List ℕ) (o : Option (List ℕ)) → length B ≡ 0
    → InsertFrame direct_config B p (Ok o) D → ⊥
unaccepted [] p D o e (InsertFrame.overwrote i low same) = omega (arith, low)
unaccepted [] p D o e (InsertFrame.added i low free room) = omega (arith, low)
unaccepted (b ∷ bs) p D o e frame = omega (arith, e)

-- so no run of one insert starts with them
started : {items : List (ℕ × ℕ)} {D : List ℕ} → IsFramedRun direct_coding [] items D → length items ≡ 1 → ⊥
started IsFramedRun.start e = omega (arith, e)
started (IsFramedRun.accepted items k v o C D run (Err x, same, frame)) e = absurd cc
started (IsFramedRun.accepted items k v o C D run (Ok x, same, frame)) e =
    let none : length items ≡ 0 = omega (arith, e, length-append items ((k, v) ∷ [])) in
    unaccepted C (encoded direct_coding k v) D x (ap length (unchanged [] run none)) frame

-- and no insert into them succeeds
pub run_refused : IsFramedRun direct_coding [] ((5, 7) ∷ []) [] → ⊥
run_refused h = started h refl

-- bytes that are not valid may have the pair in another slot
abbrev pub misplaced : List ℕ
misplaced = with_count (with_pair direct_config 16 no_bytes 6 (pair32 5 7)) 1

-- no slot takes another value than that of the pair
other_value : (D : List ℕ) (o : Option (List ℕ)) → InsertFrame direct_config no_bytes (pair32 5 7) (Ok o) D
    → D ≡ other_bytes → ⊥
unfolding opened
other_value D o (InsertFrame.overwrote i low same) e =
    unequal_lists (key_at direct_config no_bytes i) (le_bytes 4 5)
    (tested (λ j. lists_differ (key_at direct_config no_bytes j) (le_bytes 4 5)) 16 i refl low) same
other_value D o (InsertFrame.added i low free room) e =
    unequal_lists (with_count (with_pair direct_config 16 no_bytes i (pair32 5 7)) 1) other_bytes
    (tested (λ j. lists_differ (with_count (with_pair direct_config 16 no_bytes j (pair32 5 7)) 1) other_bytes)
    16 i refl low) e

-- so a run of one insert leaves no other value
other_run : {items : List (ℕ × ℕ)} {D : List ℕ}
    → IsFramedRun direct_coding no_bytes items D → items ≡ (5, 7) ∷ [] → D ≡ other_bytes → ⊥
other_run IsFramedRun.start e is = absurd cc
other_run (IsFramedRun.accepted (x ∷ items) k v o C D run frame) e is =
    omega (arith, ap length e, length-append items ((k, v) ∷ []))
other_run (IsFramedRun.accepted [] k v o C D run (Err x, same, frame)) e is = absurd cc
other_run (IsFramedRun.accepted [] k v o C D run (Ok x, same, frame)) e is =
    let key : 5 ≡ k = ap (λ xs. slice_index xs 0) (sym (ap (map (λ (x : ℕ × ℕ). x.0)) e)) in
    let value : 7 ≡ v = ap (λ xs. slice_index xs 0) (sym (ap (map (λ (x : ℕ × ℕ). x.1)) e)) in
    other_value D x
    (subst (λ B. InsertFrame direct_config B (pair32 5 7) (Ok x) D) (unchanged no_bytes run refl)
    (subst (λ m. InsertFrame direct_config C (pair32 5 m) (Ok x) D) (sym value)
    (subst (λ n. InsertFrame direct_config C (pair32 n v) (Ok x) D) (sym key) frame)))
    is

-- the value 7 is not written as 8
pub other_value_run_refused : IsFramedRun direct_coding no_bytes ((5, 7) ∷ []) other_bytes → ⊥
other_value_run_refused h = other_run h refl refl
