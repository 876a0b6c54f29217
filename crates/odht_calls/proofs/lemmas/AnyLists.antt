-- Calls for many keys of a dynamic table: lookups so far, and walks over pairs that are bytes.
use Rattle.std.proofs.Common.{◌≡◌, ◌≤◌, ◌<◌, ◌+◌, ◌*◌, ◌∙◌, ◌++◌, inl, inr, ℕ, zero, suc, suc-mul, take, get_or, length-take-le, sym, ap, subst, refl, arith, List, [], ◌∷◌, All, Bor, Option, Some, None, drop, set, map, length, length-drop, slice_get}
use Rattle.std.specs.Prelude.{filter_map, IfSome}
use Rattle.std.specs.Option.{option_copied}
use Rattle.std.proofs.Math.Nat.{eq-or-lt_of_le}
use Rattle.std.specs.List.{zip}
use Rattle.std.proofs.lemmas.List.{get_or-take, get_or-drop, get_or_default}
use Rattle.std.proofs.lemmas.List.Elements.{All-head, All-tail, All-nil, All-cons}
use Rattle.std.proofs.lemmas.Option.{slice_get_within}
use Rattle.odht_base.specs.Decoded.{decoded_table, decoded_cells, entries_of, controls_of, header_slots}
use Rattle.odht_base.specs.Format.{Format, format_of}
use Rattle.odht_base.specs.Numbers.{IsBytes}
use Rattle.odht_base.specs.SlotWalks.{numbered, slots_from}
use Rattle.odht_base.specs.Table.{Pair, Cells}
use Rattle.odht_base.proofs.lemmas.ByteRanges.{length-bytes_at}
use Rattle.odht_base.specs.Valid.{IsPairOf}
use Rattle.odht_base.proofs.lemmas.Options.{some_same}
use Rattle.odht_header.specs.Coding.{Coding, HasStored, encoded}
use Rattle.odht_raw.specs.Frame.{IsAccepted}
use Rattle.odht_raw.specs.Runs.{encoded_all}
use Rattle.odht_raw.specs.DynParts.{HasLengthsOf, bytes_coding, dynamic_parts}
use Rattle.odht_raw.proofs.lemmas.Accepted.{accepted_len}
use Rattle.odht_raw.proofs.lemmas.DynWalks.{walk_dynamic}
use Rattle.odht.specs.Gets.{IsGet}
use Rattle.odht.proofs.lemmas.Lookups.{slice_get-set_same, slice_get-set_other}
use Rattle.odht_calls.specs.Lookups.{flag_of, with_found}
use Rattle.odht_calls.specs.Pieces.{pieces}
use Rattle.odht_calls.specs.Reads.{IsGotAt}
use Rattle.odht_calls.specs.Statuses.{AreAsLong, done}
use Rattle.odht_calls.specs.Views.{ViewGetAllAnswers}
use Rattle.odht_calls.proofs.lemmas.Arrays.{set-next_of}
use Rattle.odht_calls.proofs.lemmas.Layouts.{stored_len}
use Rattle.odht_calls.proofs.lemmas.Pieces.{length-pieces}

-- ---- lookups of the first i keys, into values that were vs: the values and flags are vs' and fs' then
pub record AreGotUpTo {K V : Type 0} (c : Coding K V) (B : List ℕ) (keys : List K) (vs : List V) (i : ℕ) (vs' : List V) (fs' : List ℕ) : Type 0 where
  pub answers : (j : ℕ) (k : K) → j < i → slice_get keys j ≡ Some k → (o : Option V) × IsGotAt o (slice_get vs j) (slice_get fs' j) (slice_get vs' j) × IsGet c B k o
  pub rest : (j : ℕ) → i ≤ j → slice_get vs' j ≡ slice_get vs j

module _ {K V : Type 0} (c : Coding K V) (B : List ℕ) (keys : List K) (vs : List V) where
  -- none at first
  pub none_got : (fs : List ℕ) → AreGotUpTo c B keys vs 0 vs fs
  none_got fs = record { answers = λ j k low at. absurd (omega (arith, low)); rest = λ j low. refl }

  -- what is at another index stays
  values_there : (vs' : List V) (i j : ℕ) (o : Option V) → (j ≡ i → ⊥) → slice_get (with_found vs' i o) j ≡ slice_get vs' j
  values_there vs' i j None other = refl
  values_there vs' i j (Some v) other = slice_get-set_other vs' i j v other

  -- the answer is at its index
  got_here : (vs' : List V) (fs' : List ℕ) (i : ℕ) (o : Option V) → i < length vs' → i < length fs' → slice_get vs' i ≡ slice_get vs i
      → IsGotAt o (slice_get vs i) (slice_get (set fs' i (flag_of o)) i) (slice_get (with_found vs' i o) i)
  got_here vs' fs' i None lv lf was = (slice_get-set_same fs' i 0 lf, was)
  got_here vs' fs' i (Some v) lv lf was = (slice_get-set_same fs' i 1 lf, slice_get-set_same vs' i v lv)

  -- and one more
  pub one_more_got : (i : ℕ) (vs' : List V) (fs' : List ℕ) (k : K) (o : Option V) → AreGotUpTo c B keys vs i vs' fs' → i < length vs' → i < length fs'
      → slice_get keys i ≡ Some k → IsGet c B k o → AreGotUpTo c B keys vs (i + 1) (with_found vs' i o) (set fs' i (flag_of o))
  one_more_got i vs' fs' k o so_far lv lf key got = record {
    answers = λ j z low at. elim (eq-or-lt_of_le (omega (arith, low))) [
      | inl e ↦ (
        o,
        subst (λ n. IsGotAt o (slice_get vs n) (slice_get (set fs' i (flag_of o)) n) (slice_get (with_found vs' i o) n)) (sym e) (got_here vs' fs' i o lv lf (so_far.rest i (omega arith))),
        subst (λ q. IsGet c B q o) (some_same k z (sym key ∙ ap (slice_get keys) (sym e) ∙ at)) got,
      )
      | inr less ↦ (
          let was = so_far.answers j z less at in
          let other : j ≡ i → ⊥ = λ e. omega (arith, e, less) in (
            was.0,
            subst (λ x. IsGotAt was.0 (slice_get vs j) x (slice_get (with_found vs' i o) j)) (sym (slice_get-set_other fs' i j (flag_of o) other))
                (subst (λ x. IsGotAt was.0 (slice_get vs j) (slice_get fs' j) x) (sym (values_there vs' i j o other)) was.1),
            was.2,
          ))
    ];
    rest = λ j low. values_there vs' i j o (λ e. omega (arith, e, low)) ∙ so_far.rest j (omega (arith, low));
  }

  -- those of all keys are the answer
  pub all_got : (fs : List ℕ) (vs' : List V) (fs' : List ℕ) → AreAsLong (length keys) (length vs) (length fs)
      → AreGotUpTo c B keys vs (length keys) vs' fs' → ViewGetAllAnswers c B keys vs fs done vs' fs'
  all_got fs vs' fs' equal all = record {
    lengths = λ other. absurd (other equal);
    looked_up = λ long. refl;
    on_valid = λ P i k long is at. (
        let here = all.answers i k (slice_get_within keys i k at) at in
        subst (λ o. IsGotAt o (slice_get vs i) (slice_get fs' i) (slice_get vs' i)) (here.2.on_valid P is) here.1);
    on_any = λ i k long at. (
        let here = all.answers i k (slice_get_within keys i k at) at in
        (here.0, here.1, here.2.on_any));
  }

-- a value that a lookup of bytes answers is as long as the format says
pub answer_len : (F : Format) (B : List ℕ) → IsAccepted F B → (k : List ℕ) (o : Option (Bor (List ℕ))) → IfSome (option_copied o) (HasStored (bytes_coding F) B k) → IfSome o (λ v. length v.now ≡ F.value_len)
answer_len F B accepted k None stored = tt
answer_len F B accepted k (Some v) stored = stored_len F B accepted k v.now stored

-- ---- pairs of accepted bytes have the lengths of the format
module _ (T : Pair → Type 0) where
  -- what holds of the pairs of cells holds of them with their numbers
  numbered_all : (i : ℕ) (cs : Cells) → All T (filter_map (λ c. c) cs) → All (λ (x : ℕ × Pair). T x.1) (numbered i cs)
  numbered_all i [] h = All-nil (λ (x : ℕ × Pair). T x.1)
  numbered_all i (None ∷ cs) h = numbered_all (i + 1) cs h
  numbered_all i (Some p ∷ cs) h =
      All-cons (λ (x : ℕ × Pair). T x.1) (i, p) (numbered (i + 1) cs) (All-head T p (filter_map (λ c. c) cs) h) (numbered_all (i + 1) cs (All-tail T p (filter_map (λ c. c) cs) h))

  -- and from a cell on
  pub numbered_from : (i n : ℕ) (cs : Cells) → All T (filter_map (λ c. c) cs) → All (λ (x : ℕ × Pair). T x.1) (numbered i (drop n cs))
  numbered_from i zero cs h = numbered_all i cs h
  numbered_from i (suc n) [] h = All-nil (λ (x : ℕ × Pair). T x.1)
  numbered_from i (suc n) (None ∷ cs) h = numbered_from i n cs h
  numbered_from i (suc n) (Some p ∷ cs) h = numbered_from i n cs (All-tail T p (filter_map (λ c. c) cs) h)

-- so those from a slot on
pub slots_dynamic : (kl vl : ℕ) (h : List ℕ → ℕ) (B : List ℕ) (at : ℕ) → IsAccepted (format_of kl vl h) B → All (λ (x : ℕ × Pair). HasLengthsOf kl vl x.1) (slots_from (decoded_table (format_of kl vl h) B) at)
slots_dynamic kl vl h B at accepted =
    let F : Format = format_of kl vl h in
    let S = dynamic_parts kl vl (header_slots B) (entries_of F B) (controls_of F B) in
    let whole = accepted_len F B accepted in
    let long : length (entries_of F B) ≡ header_slots B * (kl + vl) = length-bytes_at B 32 (header_slots B * (kl + vl)) (omega (arith, whole)) in
    let mirrored : length (controls_of F B) ≡ header_slots B + 16 = length-drop (32 + header_slots B * (kl + vl)) B ∙ omega (arith, whole) in
    numbered_from (HasLengthsOf kl vl) at at (decoded_cells F (entries_of F B) (controls_of F B)) (walk_dynamic S h long mirrored)

-- ---- walks
-- the bytes of an item of a walk
abbrev pub read : ℕ × (Bor (List ℕ) × Bor (List ℕ)) → ℕ × (List ℕ × List ℕ)
read x = (x.0, (x.1.0.now, x.1.1.now))

-- one more item is in an array of pieces
pub one_more_piece : (len n w : ℕ) (f : ℕ × (List ℕ × List ℕ) → List ℕ) (ys : List (ℕ × (List ℕ × List ℕ))) (y : ℕ × (List ℕ × List ℕ)) (old now new : List ℕ)
    → w ≡ length ys → w < n → pieces len n now ≡ map f ys ++ drop w (pieces len n old) → pieces len n new ≡ set (pieces len n now) w (f y)
    → pieces len n new ≡ map f (ys ++ y ∷ []) ++ drop (w + 1) (pieces len n old)
one_more_piece len n w f ys y old now new long room so_far put =
    put ∙ set-next_of f ys (pieces len n old) (pieces len n now) y w long (omega (arith, room, length-pieces len n old)) so_far

-- ---- pieces are bytes
-- the first of them
bytes_of_piece : (len : ℕ) (B : List ℕ) → len ≤ length B → ((i : ℕ) → get_or B i 0 < 256) → IsBytes len (take len B)
bytes_of_piece len B long small =
    let whole = length-take-le len B long in
    record {
      len = whole;
      each = λ k d h. subst (λ x. x < 256) (sym (get_or-take len B k d (omega (arith, h, whole)) ∙ get_or_default B k d 0 (omega (arith, h, whole, long)))) (small k);
    }

-- each of them
pub pieces_bytes : (len n : ℕ) (B : List ℕ) → n * len ≤ length B → ((i : ℕ) → get_or B i 0 < 256) → All (IsBytes len) (pieces len n B)
pieces_bytes len zero B long small = All-nil (IsBytes len)
pieces_bytes len (suc n) B long small =
    let e = suc-mul n len in
    All-cons (IsBytes len) (take len B) (pieces len n (drop len B)) (bytes_of_piece len B (omega (arith, e, long)) small)
    (pieces_bytes len n (drop len B) (omega (arith, e, long, length-drop len B)) (λ i. subst (λ x. x < 256) (sym (get_or-drop len B i 0)) (small (len + i))))

-- and so are the pairs of two lists of them
pub pairs_bytes : (F : Format) (ks vs : List (List ℕ)) → All (IsBytes F.key_len) ks → All (IsBytes F.value_len) vs → All (IsPairOf F) (encoded_all (bytes_coding F) (zip ks vs))
pairs_bytes F [] vs a b = All-nil (IsPairOf F)
pairs_bytes F (k ∷ ks) [] a b = All-nil (IsPairOf F)
pairs_bytes F (k ∷ ks) (v ∷ vs) a b =
    All-cons (IsPairOf F) (encoded (bytes_coding F) k v) (encoded_all (bytes_coding F) (zip ks vs)) (record { key = All-head (IsBytes F.key_len) k ks a; value = All-head (IsBytes F.value_len) v vs b })
    (pairs_bytes F ks vs (All-tail (IsBytes F.key_len) k ks a) (All-tail (IsBytes F.value_len) v vs b))
