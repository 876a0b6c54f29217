-- Keys and their answers.
use Rattle.std.proofs.Common.{◌≡◌, ◌∙◌, List, [], ◌∷◌, ◌++◌, ℕ, zero, suc, Option, Some, None, Bool, true, ◌&&◌, ◌<◌, ◌≤◌, length, slice_get, is_some, ap, sym, subst, refl, arith}
use Rattle.std.specs.Io.KnownBytes.{Appends}
use Rattle.std.specs.List.{list_all}
use Rattle.std.specs.Prelude.{IfSome}
use Rattle.std.proofs.KnownBytes.{Appends-nil}
use Rattle.std.proofs.lemmas.List.{append-nil}
use Rattle.odht.specs.Gets.{IsGet}
use Rattle.odht_header.specs.Coding.{Coding, HasStored}
use Rattle.odht_tool_core.specs.declared.misread.Wanted.{Wanted}
use Rattle.odht_tool_core.specs.declared.failure.Failure.{Failure}
use Rattle.odht_tool_core.specs.declared.failure.Failure.TheVariants.{Input, Memory, Misread, Output}
use Rattle.odht_tool_reads.specs.GetParts.{AreKeysAnswered, IsFlushed, IsKeysFailure, IsLineFailure, IsNextNone}
use Rattle.odht_tool_reads.specs.Gets.{AreAnswers}
use Rattle.odht_tool_reads.proofs.AnswerLists.{are_answers_append, found_append, written_append}
use Rattle.odht_tool_reads.specs.declared.lookups.TheConstants.{BATCH}

-- of no keys there are no answers
pub no_answers : {K V : Type 0} (c : Coding K V) (B : List ℕ) → AreAnswers c B [] []
no_answers c B = record { each = refl; on_valid = λ P is. refl; on_any = λ i k v p q. cc }

-- of no batch none is answered
pub nothing_flushed : {K V : Type 0} (c : Coding K V) (l : K × Option V → List ℕ) (B : List ℕ) (due : Bool) (ks : List K) (old : Option (List ℕ)) (all : Bool) → length ks < BATCH → IsFlushed c l B due ks ks old old all all
nothing_flushed c l B due ks old all few =
    record { done = []; left = refl; few = λ _ _. refl; full = λ m. absurd (omega (arith, few, m)); values = []; answers = no_answers c B; written = Appends-nil old; found = refl }

-- no keys are answered by nothing
pub none_answered : {K V : Type 0} (c : Coding K V) (l : K × Option V → List ℕ) (B : List ℕ) (old : Option (List ℕ)) → AreKeysAnswered c l B [] old old true
none_answered c l B old = record { values = []; answers = no_answers c B; written = Appends-nil old; found = refl }

-- of one value it is told whether it is there
pub found_one : {V : Type 0} (o : Option V) → is_some o ≡ list_all is_some (o ∷ [])
found_one None = refl
found_one (Some v) = refl

-- of one key there is one
stored_one : {K V : Type 0} (c : Coding K V) (B : List ℕ) (k : K) (o : Option V) → IfSome o (λ v. HasStored c B k v)
    → (i : ℕ) (l : K) (w : V) → slice_get (k ∷ []) i ≡ Some l → slice_get (o ∷ []) i ≡ Some (Some w) → HasStored c B l w
stored_one c B k o h zero l w p q =
    let key : k ≡ l = cc in
    let value : o ≡ Some w = cc in
    subst (λ x. HasStored c B x w) key (subst (λ x. IfSome x (λ v. HasStored c B k v)) value h)
stored_one c B k o h (suc i) l w p q = cc

pub one_answer : {K V : Type 0} (c : Coding K V) (B : List ℕ) (k : K) (o : Option V) → IsGet c B k o → AreAnswers c B (k ∷ []) (o ∷ [])
one_answer c B k o h = record {
  each = refl;
  on_valid = λ P is. ap (λ x. x ∷ []) (h.on_valid P is);
  on_any = stored_one c B k o h.on_any;
}

-- the answer to one key is its line
pub one_answered : {K V : Type 0} (c : Coding K V) (l : K × Option V → List ℕ) (B : List ℕ) (k : K) (o : Option V) (old new : Option (List ℕ)) (found : Bool) → IsGet c B k o
    → Appends old new (l (k, o)) → found ≡ is_some o → AreKeysAnswered c l B (k ∷ []) old new found
one_answered c l B k o old new found get written is = record {
  values = o ∷ [];
  answers = one_answer c B k o get;
  written = subst (Appends old new) (sym (append-nil (l (k, o)))) written;
  found = is ∙ found_one o;
}

-- the answers to the keys of both parts, one part after the other
pub both_answered : {K V : Type 0} (c : Coding K V) (l : K × Option V → List ℕ) (B : List ℕ) (ks ls : List K) (old mid new : Option (List ℕ)) (was is all : Bool)
    → AreKeysAnswered c l B ks old mid was → AreKeysAnswered c l B ls mid new is → all ≡ (is && was) → AreKeysAnswered c l B (ks ++ ls) old new all
both_answered c l B ks ls old mid new was is all h j e = record {
  values = h.values ++ j.values;
  answers = are_answers_append c B ks ls h.values j.values h.answers j.answers;
  written = written_append l ks ls h.values j.values old mid new h.answers.each h.written j.written;
  found = found_append true h.values j.values was is all h.found j.found e;
}

-- a failure of so many keys
pub full_failure : {K : Type 0} (n : ℕ) (ks : List K) (old new : Option (List ℕ)) (f : Failure) → n ≤ length ks → IsKeysFailure 1 ks old new f → IsKeysFailure n ks old new f
full_failure n ks old new Memory most k = k
full_failure n ks old new (Output error) most k = most
full_failure n ks old new _ most k = absurd k

-- a failure of the keys before a line that is no key is one of this line
pub key_failed : {K V : Type 0} (c : Coding K V) (l : K × Option V → List ℕ) (R : List ℕ → K → Type 0) (p : Wanted) (B : List ℕ) (ks : List K) (n : ℕ) (bytes old new : Option (List ℕ)) (f : Failure)
    → IsNextNone R bytes → IsKeysFailure 1 ks old new f → IsLineFailure c l R p B ks n bytes old new f
key_failed c l R p B ks n bytes old new (Misread message) none k = absurd k
key_failed c l R p B ks n bytes old new (Input error) none k = absurd k
key_failed c l R p B ks n bytes old new Memory none k = ((none.then, none.line, none.next), k)
key_failed c l R p B ks n bytes old new f none k = (none, k)
