-- Lookups of many keys, with the answers in two arrays.
use Rattle.std.proofs.Common.{◌≡◌, ◌<◌, ◌≤◌, ◌∙◌, ap, refl, subst, arith, ℕ, List, Option, Some, None, IfSome, length, min, set, slice_get}
use Rattle.std.proofs.Math.Nat.{le-min, min-le_left, min-le_right}
use Rattle.std.proofs.lemmas.List.{length-set}
use Rattle.std.proofs.lemmas.Option.{slice_get_within}
use Rattle.odht_base.specs.Format.{Format}
use Rattle.odht_base.specs.Decoded.{Stores, entries_of, header_slots}
use Rattle.odht_base.specs.Table.{Table}
use Rattle.odht_base.specs.Valid.{IsImage, IsPartsOf}
use Rattle.odht_header.specs.Coding.{Coding}
use Rattle.odht_raw.specs.Parts.{EntryBytes, TableParts}
use Rattle.odht_raw.specs.SearchEnds.{IsBesideKey}
use Rattle.odht.specs.Lookups.{IsLookup, lookups_of, ArePut}
use Rattle.odht.proofs.lemmas.Lookups.{slice_get-set_same, slice_get-set_other, stored_beside, puts-at}
use Rattle.odht_calls.specs.declared.view.Arrays.{Arrays}
use Rattle.odht_calls.specs.Lookups.{flag_of, with_found}
use Rattle.odht_calls.specs.Reads.{IsGotAt}
use Rattle.odht_calls.specs.Statuses.{done}
use Rattle.odht_calls.specs.Views.{ViewGetAllAnswers}

-- what is found beside a key in the entries of bytes is stored in them
pub stored_answer : {V : Type 0} (F : Format) (f : List ℕ → V) (B k : List ℕ) (E : EntryBytes) (o : Option V) → E.bytes ≡ entries_of F B → E.slots ≡ header_slots B
    → IfSome o (IsBesideKey F f E k) → IfSome o (λ v. (b : List ℕ) × (v ≡ f b) × Stores F B k b)
stored_answer F f B k E None es s h = tt
stored_answer F f B k E (Some v) es s h = stored_beside F f B k E v es s h

-- what both arrays have at an index
abbrev at_index : {V : Type 0} → List V → List ℕ → ℕ → Option V × Option ℕ
at_index vs fs i = (slice_get vs i, slice_get fs i)

-- and what they have there after an answer was put
abbrev after_answer : {V : Type 0} → Option V → Option V × Option ℕ → Option V × Option ℕ
after_answer None x = (x.0, Some 0)
after_answer (Some v) x = (Some v, Some 1)

-- an answer leaves the lengths
fits : {V : Type 0} (vs : List V) (fs : List ℕ) (i : ℕ) (o : Option V) → min (length (with_found vs i o)) (length (set fs i (flag_of o))) ≡ min (length vs) (length fs)
fits vs fs i None = ap (min (length vs)) (length-set fs i 0)
fits vs fs i (Some v) = ap (λ n. min n (length (set fs i 1))) (length-set vs i v) ∙ ap (min (length vs)) (length-set fs i 1)

-- it is at its index
here : {V : Type 0} (vs : List V) (fs : List ℕ) (i : ℕ) (o : Option V) → i < min (length vs) (length fs) → at_index (with_found vs i o) (set fs i (flag_of o)) i ≡ after_answer o (at_index vs fs i)
here vs fs i None l = ap (λ x. (slice_get vs i, x)) (slice_get-set_same fs i 0 (omega (arith, l, min-le_right (length vs) (length fs))))
here vs fs i (Some v) l =
    ap (λ x. (x, slice_get (set fs i 1) i)) (slice_get-set_same vs i v (omega (arith, l, min-le_left (length vs) (length fs))))
    ∙ ap (λ x. (Some v, x)) (slice_get-set_same fs i 1 (omega (arith, l, min-le_right (length vs) (length fs))))

-- and changes nothing else
there : {V : Type 0} (vs : List V) (fs : List ℕ) (i j : ℕ) (o : Option V) → (j ≡ i → ⊥) → at_index (with_found vs i o) (set fs i (flag_of o)) j ≡ at_index vs fs j
there vs fs i j None d = ap (λ x. (slice_get vs j, x)) (slice_get-set_other fs i j 0 d)
there vs fs i j (Some v) d = ap (λ x. (x, slice_get (set fs i 1) j)) (slice_get-set_other vs i j v d) ∙ ap (λ x. (slice_get vs j, x)) (slice_get-set_other fs i j 1 d)

-- so the arrays have this answer
got : {V : Type 0} (o : Option V) (vs vs' : List V) (fs fs' : List ℕ) (i : ℕ) → at_index vs' fs' i ≡ after_answer o (at_index vs fs i) → IsGotAt o (slice_get vs i) (slice_get fs' i) (slice_get vs' i)
got None vs vs' fs fs' i e = (ap (λ x. x.1) e, ap (λ x. x.0) e)
got (Some v) vs vs' fs fs' i e = (ap (λ x. x.1) e, ap (λ x. x.0) e)

-- arrays after an answer was put
abbrev pub put : {V : Type 0} → Arrays V → ℕ → Option V → Arrays V
put s i o = record s { values = record s.values { now = with_found s.values.now i o }; found = record s.found { now = set s.found.now i (flag_of o) } }

-- the answers of all keys were put
pub puts-got : {K V : Type 0} (c : Coding K V) (T : TableParts) (ks : List K) (s s' : Arrays V) → ArePut (lookups_of c T ks put) s s' (length ks)
    → length ks ≤ length s.values.now → length ks ≤ length s.found.now → (i : ℕ) (k : K) → slice_get ks i ≡ Some k
    → (o : Option V) × IsGotAt o (slice_get s.values.now i) (slice_get s'.found.now i) (slice_get s'.values.now i) × IsLookup c T k o
puts-got c T ks s s' all lv lf i k key =
    let known = puts-at c T ks put (λ s. min (length s.values.now) (length s.found.now)) (λ s. at_index s.values.now s.found.now) after_answer
    (λ s. fits s.values.now s.found.now) (λ s. here s.values.now s.found.now) (λ s. there s.values.now s.found.now) s s' (length ks) i k all (le-min lv lf) (slice_get_within ks i k key) key in
    (known.0, got known.0 s.values.now s'.values.now s.found.now s'.found.now i known.1, known.2)

-- so that is what the call answers, of the parts T of the bytes B
pub got_all : {K V : Type 0} (c : Coding K V) (B : List ℕ) (T : TableParts) (ks : List K) (s s' : Arrays V) → ArePut (lookups_of c T ks put) s s' (length ks)
    → length s.values.now ≡ length ks → length s.found.now ≡ length ks
    → ((P : Table) → IsImage c.format P B → IsPartsOf c.format P T.entries.bytes T.control) → T.entries.bytes ≡ entries_of c.format B → T.entries.slots ≡ header_slots B
    → ViewGetAllAnswers c B ks s.values.now s.found.now done s'.values.now s'.found.now
got_all {K = K} {V = V} c B T ks s s' all lv lf parts entries slots = record {
  lengths = λ other. absurd (other (lv, lf));
  looked_up = λ long. refl;
  on_valid = λ P i k long is key. (
      let this = got i k key in
      subst (λ o. IsGotAt o (slice_get s.values.now i) (slice_get s'.found.now i) (slice_get s'.values.now i)) (this.2.on_placed P (parts P is)) this.1);
  on_any = λ i k long key. (
      let this = got i k key in
      (this.0, this.1, stored_answer c.format c.value_of B (c.key_bytes k) T.entries this.0 entries slots this.2.on_any));
}
  where
    got : (i : ℕ) (k : K) → slice_get ks i ≡ Some k → (o : Option V) × IsGotAt o (slice_get s.values.now i) (slice_get s'.found.now i) (slice_get s'.values.now i) × IsLookup c T k o
    got = puts-got c T ks s s' all (omega (arith, lv)) (omega (arith, lf))
