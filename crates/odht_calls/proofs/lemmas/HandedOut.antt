-- What is handed out of a table that was built.
use Rattle.std.proofs.Common.{◌≡◌, ◌<◌, ◌≤◌, ◌^◌, ◌∙◌, ◌++◌, ◌⊎◌, inl, inr, ℕ, All, List, Result, Err, Some, None, IsOk, OnErr, take, length-take-le, sym, ap, subst, refl, arith, length, drop, take_at, drop_at}
use Rattle.std.specs.List.{zip}
use Rattle.odht_base.specs.Insert.{insert_owned}
use Rattle.std.proofs.lemmas.Slice.Zip.{length-zip}
use Rattle.odht_base.specs.Image.{image_len}
use Rattle.odht_base.specs.Load.{factor_of, slots_for, IsPercent}
use Rattle.odht_base.specs.Table.{Table, empty, fresh}
use Rattle.odht_base.specs.Valid.{IsImage, IsPairOf}
use Rattle.odht_base.proofs.lemmas.FreeSlots.{slot_count-empty}
use Rattle.odht_base.proofs.lemmas.Options.{some_same}
use Rattle.odht_header.specs.Coding.{Coding}
use Rattle.odht_header.specs.Refusals.{IsTooLarge, new_refusal}
use Rattle.odht_header.specs.declared.error.Error.{Error}
use Rattle.odht_header.specs.declared.error.Error.TheVariants.{Memory, Capacity}
use Rattle.odht.specs.Lists.{encoded_all, IsAfterInserts, IsFreshAfterInserts}
use Rattle.odht.specs.NewTables.{new_len}
use Rattle.odht.specs.Plain.{IsPlainList}
use Rattle.odht.proofs.lemmas.ListInserts.{inserted_all}
use Rattle.odht.proofs.lemmas.NewRefusals.{new_refusal-fits, new_len-some, new_len-none}
use Rattle.odht.proofs.lemmas.PlainLists.{list_after}
use Rattle.odht_calls.specs.Builds.{IsHandedOut, IsGrownAfterInserts, BuildAnswers, BuildGrowingAnswers}
use Rattle.odht_calls.specs.Statuses.{status_of, done, bad_percent, too_small}
use Rattle.odht_calls.proofs.lemmas.NewBuilds.{fresh_empty, new_exists}

-- another status implies nothing
pub IsHandedOut-none : (IsTable : List ℕ → Type 0) (out : List ℕ) (s : ℕ) (out' : List ℕ) (len' : ℕ) → (s ≡ done → ⊥) → (s ≡ too_small → ⊥)
    → IsHandedOut IsTable out s out' len'
IsHandedOut-none IsTable out s out' len' undone roomy = record {
  built = λ is. absurd (undone is);
  fits = λ is. absurd (undone is);
  rest = λ is. absurd (undone is);
  needed = λ is. absurd (roomy is);
  too_small = λ is. absurd (roomy is);
}

-- an error while a growing table is built, which is always that there is no memory: nothing is written
pub refused_growing : {K V R : Type 0} (c : Coding K V) (keys : List K) (values : List V) → length values ≡ length keys → (out : List ℕ) (len s : ℕ) (r : Result R Error) (e : Error)
    → r ≡ Err e → OnErr r (r ≡ Err Memory) → s ≡ status_of e → BuildGrowingAnswers c keys values out len s out len
refused_growing {R = R} c keys values equal out len s r e is memory by_error =
    let both : Err e ≡ Err Memory = subst (λ (x : Result R Error). OnErr x (x ≡ Err Memory)) is memory in
    let only : e ≡ Memory = cc in
    let status : s ≡ status_of Memory = by_error ∙ ap status_of only in
    record {
      lengths = λ other. absurd (other equal);
      built = IsHandedOut-none _ out s out len (λ done. absurd (omega (arith, status, done))) (λ short. absurd (omega (arith, status, short)));
      refused = λ same undone roomy. (status, refl, refl);
    }

-- a table that is handed out once it has grown
module _ {K V : Type 0} (c : Coding K V) (keys : List K) (values : List V) (equal : length values ≡ length keys) (T : List ℕ) where
  -- all pairs were inserted into the table that started with sixteen slots
  pub grown_inserted : (start Q : Table) (r : ℕ × Result Unit Error) → fresh 12 87 ≡ Some start → IsOk r.1 → IsPlainList c start Q (zip keys values) r → IsImage c.format Q T → IsGrownAfterInserts c (zip keys values) T
  grown_inserted start Q r new ok list is P same =
      let every = list.all.0 ok in
      let whole = inserted_all c (insert_owned c.format) start (zip keys values) r.0 T (omega (arith, every)) (list_after c start Q (zip keys values) r list T is) in
      subst (λ (R : Table). IsAfterInserts c.format (insert_owned c.format) R (encoded_all c (zip keys values)) T) (some_same start P (sym new ∙ same)) whole

  -- so the call answers with it
  pub handed_growing : (out : List ℕ) (len s : ℕ) (out' : List ℕ) (len' : ℕ) → IsGrownAfterInserts c (zip keys values) T
      → IsHandedOut (λ B. B ≡ T) out s out' len' → (s ≡ done) ⊎ (s ≡ too_small) → BuildGrowingAnswers c keys values out len s out' len'
  handed_growing out len s out' len' is copied status = record {
    lengths = λ other. absurd (other equal);
    built = record {
      built = λ ok. subst IsTable (sym (copied.built ok)) is;
      fits = copied.fits;
      rest = copied.rest;
      needed = λ short. (let there = copied.needed short in (there.0, there.1, subst IsTable (sym there.2) is));
      too_small = copied.too_small;
    };
    refused = λ same undone roomy. absurd (neither undone roomy status);
  }
    where
      IsTable : List ℕ → Type 0
      IsTable = IsGrownAfterInserts c (zip keys values)

      neither : (s ≡ done → ⊥) → (s ≡ too_small → ⊥) → (s ≡ done) ⊎ (s ≡ too_small) → ⊥
      neither undone roomy (inl ok) = undone ok
      neither undone roomy (inr short) = roomy short

-- a table that is built in the bytes of the caller
module _ {K V : Type 0} (c : Coding K V) (keys : List K) (values : List V) (p : ℕ) (equal : length values ≡ length keys) (out : List ℕ) (len : ℕ) where
  -- at no percentage
  pub bad_build : (IsPercent p → ⊥) → BuildAnswers c keys values p out len bad_percent out len
  bad_build none = record {
    lengths = λ other. absurd (other equal);
    percent = λ long other. (refl, refl, refl);
    built = IsHandedOut-none _ out bad_percent out len (λ is. absurd (omega (arith, is))) (λ is. absurd (omega (arith, is)));
    refused = λ long ok undone roomy. absurd (none ok);
    capacity = λ is. absurd (omega (arith, is));
  }

  module _ (within : IsPercent p) where
    -- where none is large enough
    large_build : IsTooLarge c.format (length keys) (factor_of p) → BuildAnswers c keys values p out len (status_of Capacity) out len
    large_build large = record {
      lengths = λ other. absurd (other equal);
      percent = λ long other. absurd (other within);
      built = IsHandedOut-none _ out (status_of Capacity) out len (λ is. absurd (omega (arith, is))) (λ is. absurd (omega (arith, is)));
      refused = λ long ok undone roomy. (refl, refl, refl);
      capacity = λ is. large;
    }

    -- where the bytes are too few for the n bytes of such a table
    short_build : (n : ℕ) → length out < n → (B : List ℕ) → length B ≡ n → IsFreshAfterInserts c p (zip keys values) B → BuildAnswers c keys values p out len too_small out n
    short_build n less B long is = record {
      lengths = λ other. absurd (other equal);
      percent = λ long other. absurd (other within);
      built = record {
        built = λ ok. absurd (omega (arith, ok));
        fits = λ ok. absurd (omega (arith, ok));
        rest = λ ok. absurd (omega (arith, ok));
        needed = λ short. (B, long, is);
        too_small = λ short. (less, refl);
      };
      refused = λ long ok undone roomy. absurd (roomy refl);
      capacity = λ is. absurd (omega (arith, is));
    }

    -- and where they are enough
    pub done_build : (T : List ℕ) (n : ℕ) → length T ≡ n → n ≤ length out → IsFreshAfterInserts c p (zip keys values) T → BuildAnswers c keys values p out len done (T ++ drop n out) n
    done_build T n long fits is = record {
      lengths = λ other. absurd (other equal);
      percent = λ long other. absurd (other within);
      built = record {
        built = λ ok. subst (IsFreshAfterInserts c p (zip keys values)) (sym (take_at T (drop n out) n long)) is;
        fits = λ ok. fits;
        rest = λ ok. drop_at T (drop n out) n long;
        needed = λ short. absurd (omega (arith, short));
        too_small = λ short. absurd (omega (arith, short));
      };
      refused = λ long ok undone roomy. absurd (undone refl);
      capacity = λ is. absurd (omega (arith, is));
    }

  -- the same of n pairs, by the length that the program computed at the percentage q once it was tested
  module _ (within : IsPercent p) (q n : ℕ) (same : q ≡ p) (many : n ≡ length keys) where
    size : length (zip keys values) ≡ n
    size = omega (arith, length-zip keys values, equal, many)

    pub no_length_build : None ≡ new_len c n q → BuildAnswers c keys values p out len (status_of Capacity) out len
    no_length_build none = large_build within (subst (λ m. IsTooLarge c.format m (factor_of p)) many (subst (λ x. IsTooLarge c.format n (factor_of x)) same ((new_len-none c.format n (factor_of q)).0 none)))

    module _ (m : ℕ) (is : Some m ≡ new_len c n q) where
      pub no_room_build : length out < m → All (IsPairOf c.format) (encoded_all c (zip keys values)) → BuildAnswers c keys values p out len too_small out m
      no_room_build less bytes =
          let layout = new_len-some c.format n (factor_of q) m is in
          let slots : slots_for (length (zip keys values)) (factor_of p) ≡ Some layout.0 =
          ap (λ x. slots_for x (factor_of p)) size ∙ ap (λ x. slots_for n (factor_of x)) (sym same) ∙ layout.1 in
          let new = fresh_empty (length (zip keys values)) p layout.0 slots in
          let there = new_exists c p (zip keys values) (empty layout.0 (factor_of p)) new within bytes in
          let long : length there.0 ≡ m = there.1 ∙ ap (image_len c.format) (slot_count-empty layout.0 (factor_of p)) ∙ sym layout.2 in
          short_build within m less there.0 long there.2

      -- so many bytes are what the new table needs
      pub fits_build : m ≤ length out → m < 2 ^ 64 → new_refusal c.format n (factor_of q) (length (take m out)) ≡ None
      fits_build enough low =
          let layout = new_len-some c.format n (factor_of q) m is in
          new_refusal-fits c.format n (factor_of q) (length (take m out)) layout.0 layout.1 (omega (arith, layout.2, low)) (length-take-le m out enough ∙ layout.2)
