-- Lookups of many keys, one after the other.
use Rattle.std.proofs.Common.{◌≡◌, ◌<◌, ◌≤◌, ◌∙◌, ◌+◌, inl, inr, ℕ, zero, suc, sym, ap, subst, refl, arith, List, [], ◌∷◌, Option, Some, None, IfSome, length, map, set, slice_get}
use Rattle.std.specs.Prelude.{option_map}
use Rattle.std.proofs.Math.Nat.{eq-or-lt_of_le}
use Rattle.std.proofs.lemmas.List.{length-set}
use Rattle.std.proofs.lemmas.Option.{slice_get_within}
use Rattle.odht_base.proofs.lemmas.Options.{some_same}
use Rattle.odht_raw.specs.Words.{Coding, entries_of, Format, header_slots, IsPartsOf, slot_key, slot_value, Table, value_for}
use Rattle.odht_base.specs.Decoded.{Stores}
use Rattle.odht_raw.specs.Parts.{EntryBytes, TableParts}
use Rattle.odht_raw.specs.SearchEnds.{IsBesideKey}
use Rattle.odht.specs.declared.lookups.InSlice.{InSlice}
use Rattle.odht.specs.Lookups.{IsLookup, lookups_of, ArePut, HaveStored}

-- what is written can be read
pub slice_get-set_same : {X : Type 0} (xs : List X) (i : ℕ) (a : X) → i < length xs → slice_get (set xs i a) i ≡ Some a
slice_get-set_same [] i a h = absurd (omega (arith, h))
slice_get-set_same (x ∷ xs) zero a h = refl
slice_get-set_same (x ∷ xs) (suc i) a h = slice_get-set_same xs i a (omega (arith, h))

-- and nothing else changes
pub slice_get-set_other : {X : Type 0} (xs : List X) (i j : ℕ) (a : X) → (j ≡ i → ⊥) → slice_get (set xs i a) j ≡ slice_get xs j
slice_get-set_other [] i j a h = refl
slice_get-set_other (x ∷ xs) zero zero a h = absurd (h refl)
slice_get-set_other (x ∷ xs) zero (suc j) a h = refl
slice_get-set_other (x ∷ xs) (suc i) zero a h = refl
slice_get-set_other (x ∷ xs) (suc i) (suc j) a h = slice_get-set_other xs i j a (λ e. h (ap suc e))

-- a list whose elements are f of those of another
maps : {X Y : Type 0} (f : X → Y) (xs : List X) (ys : List Y) → length ys ≡ length xs → ((i : ℕ) (x : X) → slice_get xs i ≡ Some x → slice_get ys i ≡ Some (f x)) → ys ≡ map f xs
maps f [] [] l h = refl
maps f [] (y ∷ ys) l h = absurd (omega (arith, l))
maps f (x ∷ xs) [] l h = absurd (omega (arith, l))
maps f (x ∷ xs) (y ∷ ys) l h =
    let first = some_same y (f x) (h 0 x refl) in
    let rest = maps f xs ys (omega (arith, l)) (λ i. h (suc i)) in
    λ i. first i ∷ rest i

-- a value that is beside a key in the entries of bytes is stored in them
pub stored_beside : {V : Type 0} (F : Format) (f : List ℕ → V) (B k : List ℕ) (E : EntryBytes) (v : V) → E.bytes ≡ entries_of F B → E.slots ≡ header_slots B
    → IsBesideKey F f E k v → (b : List ℕ) × (v ≡ f b) × Stores F B k b
stored_beside F f B k E v es s h = (
  slot_value F (entries_of F B) h.0,
  h.3 ∙ ap (λ e. f (slot_value F e h.0)) es,
  (h.0, subst (λ n. h.0 < n) s h.1, ap (λ e. slot_key F e h.0) (sym es) ∙ h.2, refl),
)

-- answers that were put, of the lookups of keys among the parts of a table
module _ {K V S : Type 0} (c : Coding K V) (T : TableParts) (ks : List K) (put : S → ℕ → Option V → S) where
  -- what no put changes
  pub puts-same : {X : Type 0} (f : S → X) → ((s : S) (i : ℕ) (o : Option V) → f (put s i o) ≡ f s) → (s s' : S) (n : ℕ) → ArePut (lookups_of c T ks put) s s' n → f s' ≡ f s
  puts-same f same s s' zero all = ap f all
  puts-same f same s s' (suc n) (r, o, before, this, is) = ap f is ∙ same r n o ∙ puts-same f same s r n before

  -- what is at each index, where a put makes of the x at its index g of the answer and x, and leaves all else
  module _ {E : Type 0} (places : S → ℕ) (at : S → ℕ → E) (g : Option V → E → E) (fits : (s : S) (i : ℕ) (o : Option V) → places (put s i o) ≡ places s)
      (here : (s : S) (i : ℕ) (o : Option V) → i < places s → at (put s i o) i ≡ g o (at s i)) (there : (s : S) (i j : ℕ) (o : Option V) → (j ≡ i → ⊥) → at (put s i o) j ≡ at s j) where
    -- past the answers nothing changes
    puts-rest : (s s' : S) (n j : ℕ) → ArePut (lookups_of c T ks put) s s' n → n ≤ j → at s' j ≡ at s j
    puts-rest s s' zero j all l = ap (λ x. at x j) all
    puts-rest s s' (suc n) j (r, o, before, this, is) l = ap (λ x. at x j) is ∙ there r n j o (λ e. omega (arith, e, l)) ∙ puts-rest s r n j before (omega (arith, l))

    -- and the answer at the index of a key is the result of its lookup
    pub puts-at : (s s' : S) (n j : ℕ) (k : K) → ArePut (lookups_of c T ks put) s s' n → n ≤ places s → j < n → slice_get ks j ≡ Some k → (o : Option V) × (at s' j ≡ g o (at s j)) × IsLookup c T k o
    puts-at s s' zero j k all fit l key = absurd (omega (arith, l))
    puts-at s s' (suc n) j k (r, o, before, this, is) fit l key =
        let low : n < places r = (let same = puts-same places fits s r n before in omega (arith, fit, same)) in
        let new : at s' n ≡ g o (at s n) = ap (λ x. at x n) is ∙ here r n o low ∙ ap (g o) (puts-rest s r n n before (omega arith)) in
        elim (eq-or-lt_of_le (omega (arith, l))) [
          | inl e ↦ (o, subst (λ i. at s' i ≡ g o (at s i)) (sym e) new, this k (ap (slice_get ks) (sym e) ∙ key))
          | inr h ↦ let was = puts-at s r n j k before (omega (arith, fit)) h key in
              (was.0, ap (λ x. at x j) is ∙ there r n j o (λ e. omega (arith, e, h)) ∙ was.1, was.2)
        ]

-- a slice after an answer was put
abbrev put : {V : Type 0} → InSlice (Option V) → ℕ → Option V → InSlice (Option V)
put s i o = record s { answers = record s.answers { now = set s.answers.now i o } }

-- the answers of all keys were put in a slice
pub puts-listed : {K V : Type 0} (c : Coding K V) (T : TableParts) (ks : List K) (s s' : InSlice (Option V)) → ArePut (lookups_of c T ks put) s s' (length ks) → length ks ≤ length s.answers.now
    → (i : ℕ) (k : K) → slice_get ks i ≡ Some k → (o : Option V) × (slice_get s'.answers.now i ≡ Some o) × IsLookup c T k o
puts-listed c T ks s s' all fit i k key =
    puts-at c T ks put (λ s. length s.answers.now) (λ s. slice_get s.answers.now) (λ o x. Some o) (λ s. length-set s.answers.now) (λ s. slice_get-set_same s.answers.now)
    (λ s i j o. slice_get-set_other s.answers.now i j o) s s' (length ks) i k all fit (slice_get_within ks i k key) key

-- results of the lookups of all keys
module _ {K V : Type 0} (c : Coding K V) (T : TableParts) (ks : List K) (os : List (Option V))
    (known : (i : ℕ) (k : K) → slice_get ks i ≡ Some k → (o : Option V) × (slice_get os i ≡ Some o) × IsLookup c T k o) where
  -- in a placed table they are its values
  pub lookups-values : length os ≡ length ks → (P : Table) → IsPartsOf c.format P T.entries.bytes T.control → os ≡ map (value_for c P) ks
  lookups-values long P parts = maps (value_for c P) ks os long (λ i k at. let got = known i k at in got.1 ∙ ap Some (got.2.on_placed P parts))

  -- in the parts of any bytes they are stored there
  pub lookups-stored : (B : List ℕ) → T.entries.bytes ≡ entries_of c.format B → T.entries.slots ≡ header_slots B → HaveStored c B ks os
  lookups-stored B es s i k v at found =
      let got = known i k at in
      let same : got.0 ≡ Some v = some_same got.0 (Some v) (sym got.1 ∙ found) in
      stored_beside c.format c.value_of B (c.key_bytes k) T.entries v es s (subst (λ o. IfSome o (IsBesideKey c.format c.value_of T.entries (c.key_bytes k))) same got.2.on_any)

-- the answers of all keys in a slice of as many places: it is still the same loan, in a placed table they are its
-- values, and in the parts of any bytes they are stored there
pub record AreAnswered {K V : Type 0} (c : Coding K V) (T : TableParts) (ks : List K) (s s' : InSlice (Option V)) : Type 0 where
  pub loan : s'.answers.ghost_name ≡ s.answers.ghost_name
  pub values : (P : Table) → IsPartsOf c.format P T.entries.bytes T.control → s'.answers.now ≡ map (value_for c P) ks
  pub stored : (B : List ℕ) → T.entries.bytes ≡ entries_of c.format B → T.entries.slots ≡ header_slots B → HaveStored c B ks s'.answers.now

pub puts-answered : {K V : Type 0} (c : Coding K V) (T : TableParts) (ks : List K) (s s' : InSlice (Option V)) → ArePut (lookups_of c T ks put) s s' (length ks) → length s.answers.now ≡ length ks
    → AreAnswered c T ks s s'
puts-answered c T ks s s' all fit =
    let long = puts-same c T ks put (λ s. length s.answers.now) (λ s. length-set s.answers.now) s s' (length ks) all ∙ fit in
    let known = puts-listed c T ks s s' all (omega (arith, fit)) in
    record {
      loan = puts-same c T ks put (λ s. s.answers.ghost_name) (λ s i o. refl) s s' (length ks) all;
      values = lookups-values c T ks s'.answers.now known long;
      stored = lookups-stored c T ks s'.answers.now known;
    }

-- eight steps in turn, each from one number to the next
pub eight_steps : {X : Type 0} (R : X → ℕ → Type 0) (n : ℕ) (a b c d e f g h i : X) → (R a n → R b (n + 1)) → (R b (n + 1) → R c (n + 1 + 1)) → (R c (n + 2) → R d (n + 2 + 1)) → (R d (n + 3) → R e (n + 3 + 1))
    → (R e (n + 4) → R f (n + 4 + 1)) → (R f (n + 5) → R g (n + 5 + 1)) → (R g (n + 6) → R h (n + 6 + 1)) → (R h (n + 7) → R i (n + 7 + 1)) → R a n → R i (n + 8)
eight_steps R n a b c d e f g h i first second third fourth fifth sixth seventh eighth start =
    let two : R c (n + 2) = subst (R c) (let at : n + 1 + 1 ≡ n + 2 = omega arith in at) (second (first start)) in
    let three : R d (n + 3) = subst (R d) (let at : n + 2 + 1 ≡ n + 3 = omega arith in at) (third two) in
    let four : R e (n + 4) = subst (R e) (let at : n + 3 + 1 ≡ n + 4 = omega arith in at) (fourth three) in
    let five : R f (n + 5) = subst (R f) (let at : n + 4 + 1 ≡ n + 5 = omega arith in at) (fifth four) in
    let six : R g (n + 6) = subst (R g) (let at : n + 5 + 1 ≡ n + 6 = omega arith in at) (sixth five) in
    let seven : R h (n + 7) = subst (R h) (let at : n + 6 + 1 ≡ n + 7 = omega arith in at) (seventh six) in
    subst (R i) (let at : n + 7 + 1 ≡ n + 8 = omega arith in at) (eighth seven)

-- two functions in turn
pub option_map-twice : {X Y Z : Type 0} (f : X → Y) (h : Y → Z) (o : Option X) → option_map h (option_map f o) ≡ option_map (λ x. h (f x)) o
option_map-twice f h None = refl
option_map-twice f h (Some x) = refl

-- ---- a lookup that decodes what is found
module _ {X V : Type 0} (of : List ℕ → X) (decode : X → V) (o : Option X) where
  -- of the bytes that a map has, a value that is found is the one that they decode to
  pub decoded_value : (m : Option (List ℕ)) (x : X) (v : V) → o ≡ option_map of m → o ≡ Some x → v ≡ decode x → Some v ≡ option_map (λ b. decode (of b)) m
  decoded_value m x v found is value = ap Some value ∙ ap (option_map decode) (sym is ∙ found) ∙ option_map-twice of decode m

  -- and where none is found the map has none
  pub decoded_none : (m : Option (List ℕ)) → o ≡ option_map of m → o ≡ None → None ≡ option_map (λ b. decode (of b)) m
  decoded_none m found is = ap (option_map decode) (sym is ∙ found) ∙ option_map-twice of decode m

  -- in any bytes it is decoded from what is stored with the key
  pub decoded_stored : (F : Format) (B k q : List ℕ) (E : EntryBytes) (x : X) (v : V) → E.bytes ≡ entries_of F B → E.slots ≡ header_slots B → IfSome o (IsBesideKey F of E k) → k ≡ q → o ≡ Some x → v ≡ decode x
      → (b : List ℕ) × (v ≡ decode (of b)) × Stores F B q b
  decoded_stored F B k q E x v es s beside key is value =
      let h : IsBesideKey F of E k x = subst (λ a. IfSome a (IsBesideKey F of E k)) is beside in
      stored_beside F (λ b. decode (of b)) B q E v es s (h.0, h.1, h.2 ∙ key, value ∙ ap decode h.3)
