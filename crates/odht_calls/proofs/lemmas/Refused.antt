-- What the calls answer where opening has an error, and what lookups of many keys answer where it has none.
use Rattle.std.proofs.Common.{◌≡◌, ◌∙◌, ℕ, List, sym, ap, refl, length, Option, Some, None}
use Rattle.odht_base.specs.Format.{Format}
use Rattle.odht_header.specs.Coding.{Coding}
use Rattle.odht_header.specs.Refusals.{opening_refusal}
use Rattle.odht_header.specs.declared.error.Error.{Error}
use Rattle.odht_calls.specs.Layouts.{ContainsAnswers, ViewContainsAnswers}
use Rattle.odht_calls.specs.Reads.{GetAnswers, GetAllAnswers, LenAnswersOf, SizesAnswers}
use Rattle.odht_calls.specs.Views.{ViewGetAnswers, ViewGetAllAnswers}
use Rattle.odht_calls.specs.Walks.{WalkAnswers}
use Rattle.odht_calls.specs.Statuses.{AreAsLong, status_of, status_or_ok}
use Rattle.odht_calls.specs.Writes.{InsertAnswers, InsertAllAnswers}
use Rattle.odht_calls.proofs.lemmas.Opened.{never_refused}

-- one error has one status
pub known : (o : Option Error) (a e : Error) → o ≡ Some a → o ≡ Some e → status_of a ≡ status_of e
known o a e first second = let both : Some a ≡ Some e = sym first ∙ second in let one : a ≡ e = cc in ap status_of one

-- an error is not none
pub not_none : {R : Type 0} (o : Option Error) (a : Error) → o ≡ Some a → o ≡ None → R
not_none o a some none = absurd (let both : None ≡ Some a = sym none ∙ some in cc)

-- bytes that are not accepted have an error
pub the_error : (o : Option Error) → (o ≡ None → ⊥) → (a : Error) × (Some a ≡ o) × (status_or_ok o ≡ status_of a)
the_error None other = absurd (other refl)
the_error (Some a) other = (a, refl, refl)

-- the call for the numbers of the header, on bytes whose opening has an error
pub refused_sizes : (F : Format) (B : List ℕ) (a : Error) (s : ℕ) → Some a ≡ opening_refusal F B → s ≡ status_of a → (n m p : ℕ) → SizesAnswers F B n m p s n m p
refused_sizes F B a s is status n m p = record {
  status = status ∙ ap status_or_ok is;
  refused = λ e other. (refl, refl, refl);
  by_header = λ none. not_none _ a (sym is) none;
  on_valid = λ P image. never_refused F P B a image (sym is);
}

-- and that for the item count
pub refused_len : (F : Format) (B : List ℕ) (a : Error) (s : ℕ) → Some a ≡ opening_refusal F B → s ≡ status_of a → (old : ℕ) → LenAnswersOf F B old s old
refused_len F B a s is status old = record {
  status = status ∙ ap status_or_ok is;
  refused = λ e other. refl;
  by_header = λ none. not_none _ a (sym is) none;
  on_valid = λ P image. never_refused F P B a image (sym is);
}

-- each other call on them
module _ {K V : Type 0} (c : Coding K V) (B : List ℕ) (a : Error) (s : ℕ) (is : Some a ≡ opening_refusal c.format B) (status : s ≡ status_of a) where
  pub refused_get : (k : K) (old : V) → GetAnswers c B k old s old
  refused_get k old = record {
    refused = λ e other. (status ∙ known _ a e (sym is) other, refl);
    on_valid = λ P image. never_refused c.format P B a image (sym is);
    on_any = λ none. not_none _ a (sym is) none;
  }

  pub refused_contains : (k : K) → ContainsAnswers c B k s
  refused_contains k = record {
    refused = λ e other. status ∙ known _ a e (sym is) other;
    on_valid = λ P image. never_refused c.format P B a image (sym is);
    on_any = λ none. not_none _ a (sym is) none;
  }

  pub refused_get_all : (keys : List K) (vs : List V) (fs : List ℕ) → AreAsLong (length keys) (length vs) (length fs) → GetAllAnswers c B keys vs fs s vs fs
  refused_get_all keys vs fs equal = record {
    lengths = λ other. absurd (other equal);
    refused = λ e long other. (status ∙ known _ a e (sym is) other, refl, refl);
    accepted = λ long none. not_none _ a (sym is) none;
    on_valid = λ P i key long image at. never_refused c.format P B a image (sym is);
    on_any = λ i key long none at. not_none _ a (sym is) none;
  }

  pub refused_walk : (at : ℕ) (ks : List K) (vs : List V) (n : ℕ) → length vs ≡ length ks → WalkAnswers c B at ks vs n s at ks vs n
  refused_walk at ks vs n equal = record {
    lengths = λ other. absurd (other equal);
    refused = λ e long other. (status ∙ known _ a e (sym is) other, refl, refl, refl, refl);
    on_valid = λ P long image. never_refused c.format P B a image (sym is);
    on_any = λ long none. not_none _ a (sym is) none;
  }

  pub refused_insert : (k : K) (v old : V) → InsertAnswers c B k v old s B old
  refused_insert k v old = record {
    refused = λ e other. (status ∙ known _ a e (sym is) other, refl, refl);
    on_valid = λ P image. never_refused c.format P B a image (sym is);
    on_any = λ none. not_none _ a (sym is) none;
  }

  pub refused_insert_all : (keys : List K) (values : List V) (n : ℕ) → length values ≡ length keys → InsertAllAnswers c B keys values n s B n
  refused_insert_all keys values n equal = record {
    lengths = λ other. absurd (other equal);
    refused = λ e long other. (status ∙ known _ a e (sym is) other, refl, refl);
    bound = λ long none. not_none _ a (sym is) none;
    all = λ long none. not_none _ a (sym is) none;
    some = λ long none. not_none _ a (sym is) none;
    inserted = λ P long image. never_refused c.format P B a image (sym is);
    framed = λ long none. not_none _ a (sym is) none;
    at_maximum = λ P long none. not_none _ a (sym is) none;
    stopped = λ long none. not_none _ a (sym is) none;
  }

-- what lookups in the opened table answer, where opening has no error
module _ {K V : Type 0} (c : Coding K V) (B : List ℕ) (none : None ≡ opening_refusal c.format B) where
  pub accepted_get : (k : K) (old : V) (s : ℕ) (new : V) → ViewGetAnswers c B k old s new → GetAnswers c B k old s new
  accepted_get k old s new viewed = record { refused = λ e is. not_none _ e is (sym none); on_valid = viewed.on_valid; on_any = λ opens. viewed.on_any }

  pub accepted_contains : (k : K) (s : ℕ) → ViewContainsAnswers c B k s → ContainsAnswers c B k s
  accepted_contains k s viewed = record { refused = λ e is. not_none _ e is (sym none); on_valid = viewed.on_valid; on_any = λ opens. viewed.on_any }

  pub accepted_get_all : (keys : List K) (vs vs' : List V) (fs fs' : List ℕ) (s : ℕ) → ViewGetAllAnswers c B keys vs fs s vs' fs' → GetAllAnswers c B keys vs fs s vs' fs'
  accepted_get_all keys vs vs' fs fs' s viewed = record {
    lengths = viewed.lengths;
    refused = λ e long is. not_none _ e is (sym none);
    accepted = λ long opens. viewed.looked_up long;
    on_valid = viewed.on_valid;
    on_any = λ i key long opens. viewed.on_any i key long;
  }
