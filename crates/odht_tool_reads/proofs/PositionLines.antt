-- Lines that are answered one after the other.
use Rattle.std.proofs.Common.{◌≡◌, ◌∙◌, ◌⊎◌, ℕ, ◌+◌, ◌-◌, ◌^◌, ◌≤◌, Bool, true, ◌&&◌, List, [], ◌∷◌, ◌++◌, Option, Some, None, is_some, ap, refl, subst, sym, arith}
use Rattle.std.specs.Prelude.{Err, Ok}
use Rattle.std.specs.Io.KnownBytes.{IsAtEnd}
use Rattle.std.specs.List.{AllZip, list_all, slice_get}
use Rattle.std.proofs.KnownBytes.{Appends-nil, Keeps-refl}
use Rattle.std.proofs.lemmas.Bool.{true≢false}
use Rattle.std.proofs.lemmas.List.{append-nil}
use Rattle.odht_header.specs.Coding.{Coding}
use Rattle.odht_tool_core.specs.Keys.{IsKeyRead, IsLeftOut}
use Rattle.odht_tool_core.specs.declared.failure.Failure.{Failure}
use Rattle.odht_tool_core.specs.declared.failure.Failure.TheVariants.{Input, Memory, Misread, Output, Read}
use Rattle.odht_tool_core.specs.declared.misread.Wanted.{Wanted}
use Rattle.odht_tool_tables.specs.KeyTexts.{found_status}
use Rattle.odht_tool_tables.proofs.Lines.{if_some}
use Rattle.odht_tool_reads.specs.GetLines.{AreLinesAnswered, all_lines}
use Rattle.odht_tool_reads.specs.Gets.{answered_status}
use Rattle.odht_tool_reads.specs.declared.positions.Reached.TheVariants.{End, Line}
use Rattle.odht_tool_reads.specs.GetParts.{AreKeysAnswered, IsLineFailure}
use Rattle.odht_tool_reads.specs.PositionLines.{AreLinesRead, IsKeyFailure, IsUnreadKey}
use Rattle.odht_tool_reads.proofs.KeyAnswers.{none_answered}
use Rattle.odht_tool_reads.proofs.LinesTaken.{AreTaken, batch_answered, batch_failed, first_answered, line_failed, lines_answered, one_taken}

-- the one key behind none is the first
pub only_key : {K : Type 0} (before after : List K) (key k : K) → before ≡ [] → after ≡ before ++ (key ∷ []) → slice_get after 0 ≡ Some k → key ≡ k
only_key {K = K} before after key k none more is =
    let here : ◌≡◌ {A = Option K} (Some key) (Some k) = sym (ap (λ ks. slice_get ks 0) (more ∙ ap (λ ks. ks ++ (key ∷ [])) none)) ∙ is in
    cc

-- a key that is not read is a failure of its line, before which none is left
unread_line : {K V : Type 0} (c : Coding K V) (l : K × Option V → List ℕ) (R : List ℕ → K → Type 0) (p : Wanted) (B : List ℕ) (number : ℕ) (bytes old : Option (List ℕ)) (f : Failure)
    → IsUnreadKey R p number bytes f → IsLineFailure c l R p B [] number bytes old old f
unread_line c l R p B number bytes old (Misread message) u =
    record { then = u.then; line = u.line; next = u.next; fault = u.fault; more = u.more; misread = u.misread; every = true; answered = none_answered c l B old }
unread_line c l R p B number bytes old (Input error) u = Keeps-refl old
unread_line c l R p B number bytes old Memory u = (u, Keeps-refl old)
unread_line c l R p B number bytes old _ u = absurd u

-- what is said of lines in memory is said of those by position, but of a failed read
read_as : {K V : Type 0} (c : Coding K V) (l : K × Option V → List ℕ) (R : List ℕ → K → Type 0) (p : Wanted) (B : List ℕ) (input after old new : Option (List ℕ)) (f : Failure)
    → AreLinesAnswered c l R p B (all_lines true) input old new (Err f) → AreLinesRead c l R p B input after old new (Err f)
read_as c l R p B input after old new (Read error) a = absurd a
read_as c l R p B input after old new f a = a

module _ {K V : Type 0} (c : Coding K V) (l : K × Option V → List ℕ) (R : List ℕ → K → Type 0) (p : Wanted) (B : List ℕ) (input now old new : Option (List ℕ)) (number : ℕ) (all : Bool) (h : AreTaken c l R B (all_lines true) input now old new number [] all) where
  -- the next line has no key
  pub key_unread : (after : Option (List ℕ)) (f : Failure) → IsUnreadKey R p number now f → AreLinesRead c l R p B input after old new (Err f)
  key_unread after f u = read_as c l R p B input after old new f (line_failed c l R B (all_lines true) input now old new number [] all new h p f (omega arith) (unread_line c l R p B number now new f u))

  -- the lines end
  pub all_read : (after : Option (List ℕ)) → ((IsAtEnd now ⊎ IsLeftOut R now) × (number ≤ 2 ^ 64 - 1)) ⊎ (number ≡ 2 ^ 64 - 1) → AreLinesRead c l R p B input after old new (Ok (End (found_status all)))
  all_read after end = lines_answered c l R B (all_lines true) input now old new number [] all new h true end (none_answered c l B new)

  -- or some are left
  pub some_read : AreLinesRead c l R p B input now old new (Ok (Line (record { is_live = true; number = number; is_all_found = all })))
  some_read = if_some input _ _ (λ bytes r. record {
    words = r.words;
    rest = r.rest;
    left = r.left;
    place = r.place;
    status = answered_status h.values;
    answered = record {
      keys = h.done;
      texts = subst (AllZip R r.words) (append-nil h.done) r.texts;
      values = h.values;
      answers = h.answers;
      written = h.written;
      status = refl;
    };
    counted = r.counted;
    found = ap found_status (sym h.found);
  }) h.read

  module _ (then last : Option (List ℕ)) (key : K) (next : IsKeyRead R now then key) where
    taken : AreTaken c l R B (all_lines true) input then old new (number + 1) (key ∷ []) all
    taken = one_taken c l R B (all_lines true) input now old new number [] all then key (key ∷ []) h next refl

    -- its key is answered
    pub key_answered : (found every : Bool) → AreKeysAnswered c l B (key ∷ []) new last found → every ≡ (found && all) → AreTaken c l R B (all_lines true) input then old last (number + 1) [] every
    key_answered found every a e =
        (batch_answered c l R B (all_lines true) input then old new (number + 1) (key ∷ []) all last taken [] true every (omega arith) (λ x. absurd (true≢false x)) (record {
          done = key ∷ [];
          left = refl;
          few = λ x. absurd (true≢false x);
          full = λ _. refl;
          values = a.values;
          answers = a.answers;
          written = a.written;
          found = e ∙ ap (λ b. b && all) a.found;
        })).0

    -- or is not
    pub key_failed : (f : Failure) → IsKeyFailure new last f → AreLinesRead c l R p B input then old last (Err f)
    key_failed (Read error) k = first_answered c l R B (all_lines true) input then old new (number + 1) (key ∷ []) all last taken k
    key_failed (Output error) k = batch_failed c l R B (all_lines true) input then old new (number + 1) (key ∷ []) all last taken p (Output error) (omega arith) (omega arith) (λ e. absurd (true≢false e))
    key_failed _ k = absurd k
