-- The lines that a loop has taken of an input, and the answers that it has written.
use Rattle.std.proofs.Common.{◌≡◌, ◌∙◌, ◌⊎◌, inl, inr, ℕ, ◌+◌, ◌-◌, ◌*◌, ◌^◌, ◌<◌, ◌≤◌, Bool, true, false, ◌&&◌, List, [], ◌∷◌, ◌++◌, Option, Some, None, IfSome, length, take, is_some, sym, ap, refl, subst, arith, length-append, take_all}
use Rattle.std.specs.Prelude.{Err, string_bytes}
use Rattle.std.specs.Io.KnownBytes.{Appends, Keeps, IsAtEnd}
use Rattle.std.specs.List.{AllZip, list_all}
use Rattle.std.specs.Str.Lines.{lines}
use Rattle.std.proofs.KnownBytes.{Appends-nil}
use Rattle.std.proofs.Math.Nat.{eq-or-lt_of_le}
use Rattle.std.proofs.Math.Seq.{take-append_seam}
use Rattle.std.proofs.lemmas.List.{append_assoc, append-nil}
use Rattle.odht_header.specs.Coding.{Coding}
use Rattle.odht_tool_reads.specs.GetLines.{lines_read, status_after, AreAllAnswered, AreFirstAnswered, AreFirstAsked, AreKeysEnded, IsLineFault, AreLinesAnswered}
use Rattle.odht_tool_reads.specs.GetParts.{AreKeysAnswered, AreFaultAnswered, IsKeysFailure, IsFlushed, IsLineFailure, IsNextNone}
use Rattle.odht_tool_reads.specs.Gets.{AreAnswers, IsAnswered, answered_status}
use Rattle.odht_tool_tables.specs.KeyTexts.{found_status}
use Rattle.odht_tool_core.specs.Endings.{IsOutputFailure}
use Rattle.odht_tool_core.specs.InputLines.{AreLeft}
use Rattle.odht_tool_core.specs.Misreads.{misread_text}
use Rattle.odht_tool_core.specs.Texts.{answers_by}
use Rattle.odht_tool_core.specs.declared.misread.Wanted.{Wanted}
use Rattle.odht_tool_reads.specs.declared.lookups.Coming.{Coming}
use Rattle.odht_tool_reads.specs.declared.lookups.TheConstants.{BATCH}
use Rattle.odht_tool_core.specs.declared.failure.Failure.{Failure}
use Rattle.odht_tool_core.specs.declared.failure.Failure.TheVariants.{Memory, Input, Misread, Output}
use Rattle.odht_tool_core.specs.declared.failure.LineFault.TheVariants.{Key}
use Rattle.odht_tool_tables.proofs.Lines.{AllZip-length}
use Rattle.odht_tool_reads.proofs.AnswerLists.{IsFront, front_of, appended_kept, are_answers_append, written_append, found_append}
use Rattle.odht_tool_reads.proofs.KeyAnswers.{no_answers}
use Rattle.odht_tool_tables.proofs.Lines.{if_some, next_of, only_of, end_of}
use Rattle.odht_tool_core.proofs.KeyWords.{AllZip-one_more}
use Rattle.odht_tool_core.specs.Keys.{IsKeyRead, IsLeftOut}

-- the lines from the first to the one before this number were read as these keys, and the input has the bytes of the others
-- left
pub record AreRead {K : Type 0} (R : List ℕ → K → Type 0) (bytes : List ℕ) (input : Option (List ℕ)) (first number : ℕ) (keys : List K) : Type 0 where
  pub words : List (List ℕ)
  pub rest : List ℕ
  pub left : input ≡ Some rest
  pub place : lines bytes ≡ words ++ lines rest
  pub counted : number ≡ length words + first
  pub texts : AllZip R words keys

-- the lines before the one of this number were read as keys, of which `pending` are the last, and the answers to all
-- before these, which are that many batches but where `live` holds, were written; `all` says whether each of those has
-- a value
pub record AreTaken {K V : Type 0} (c : Coding K V) (l : K × Option V → List ℕ) (R : List ℕ → K → Type 0) (B : List ℕ) (x : Coming) (input now old new : Option (List ℕ)) (number : ℕ) (pending : List K) (all : Bool) : Type 0 where
  pub done : List K
  pub batches : ℕ
  pub whole : x.is_live ≡ false → length done ≡ batches * BATCH
  pub values : List (Option V)
  pub answers : AreAnswers c B done values
  pub written : Appends old new (answers_by l done values)
  pub found : all ≡ (x.is_all_found && list_all is_some values)
  pub read : IfSome input (λ bytes. AreRead R bytes now x.number number (done ++ pending))

-- fewer keys than a batch and one more are a batch at most
pub batch_at_most : {K : Type 0} (keys more : List K) (key : K) → more ≡ keys ++ (key ∷ []) → length keys < BATCH → length more ≤ BATCH
batch_at_most keys more key e few = omega (arith, ap length e ∙ length-append keys (key ∷ []), few)

-- at first no line was
pub none_taken : {K V : Type 0} (c : Coding K V) (l : K × Option V → List ℕ) (R : List ℕ → K → Type 0) (B : List ℕ) (x : Coming) (input old : Option (List ℕ)) (pending : List K) → pending ≡ []
    → AreTaken c l R B x input input old old x.number pending x.is_all_found
none_taken c l R B x input old pending e = record {
  done = [];
  batches = 0;
  whole = λ _. refl;
  values = [];
  answers = no_answers c B;
  written = Appends-nil old;
  found = none_found x.is_all_found;
  read = at input input refl;
}
  where
    none_found : (b : Bool) → b ≡ (b && true)
    none_found true = refl
    none_found false = refl

    at : (now o : Option (List ℕ)) → now ≡ o → IfSome o (λ bytes. AreRead R bytes now x.number x.number ([] ++ pending))
    at now None h = tt
    at now (Some bytes) h = record { words = []; rest = bytes; left = h; place = refl; counted = omega arith; texts = subst (AllZip R []) (sym e) tt }

-- what keeps the writer as it is keeps that
pub taken_kept : {K V : Type 0} (c : Coding K V) (l : K × Option V → List ℕ) (R : List ℕ → K → Type 0) (B : List ℕ) (x : Coming) (input now old new last : Option (List ℕ)) (number : ℕ) (pending : List K) (all : Bool)
    → AreTaken c l R B x input now old new number pending all → Keeps new last → AreTaken c l R B x input now old last number pending all
taken_kept c l R B x input now old new last number pending all h k = record {
  done = h.done;
  batches = h.batches;
  whole = h.whole;
  values = h.values;
  answers = h.answers;
  written = appended_kept old new last (answers_by l h.done h.values) h.written k;
  found = h.found;
  read = h.read;
}

module _ {K V : Type 0} (c : Coding K V) (l : K × Option V → List ℕ) (R : List ℕ → K → Type 0) (B : List ℕ) (x : Coming) (input now old new : Option (List ℕ)) where
  -- one line more is read as a key
  pub one_taken : (number : ℕ) (pending : List K) (all : Bool) (then : Option (List ℕ)) (key : K) (more : List K) → AreTaken c l R B x input now old new number pending all
      → IsKeyRead R now then key → more ≡ pending ++ (key ∷ []) → AreTaken c l R B x input then old new (number + 1) more all
  one_taken number pending all then key more h next e = record {
    done = h.done;
    batches = h.batches;
    whole = h.whole;
    values = h.values;
    answers = h.answers;
    written = h.written;
    found = h.found;
    read = if_some input _ _ read h.read;
  }
    where
      read : (bytes : List ℕ) → AreRead R bytes now x.number number (h.done ++ pending) → AreRead R bytes then x.number (number + 1) (h.done ++ more)
      read bytes r =
          let n = next_of now then r.rest next.0 r.left next.1 in
          record {
            words = r.words ++ (next.0 ∷ []);
            rest = n.0;
            left = n.1;
            place = r.place ∙ ap (λ ls. r.words ++ ls) n.2 ∙ sym (append_assoc r.words (next.0 ∷ []) (lines n.0));
            counted = omega (arith, r.counted, length-append r.words (next.0 ∷ []));
            texts = subst (AllZip R (r.words ++ (next.0 ∷ []))) (append_assoc h.done pending (key ∷ []) ∙ ap (λ ks. h.done ++ ks) (sym e))
                (AllZip-one_more R r.words (h.done ++ pending) next.0 key r.texts next.2);
          }

  module _ (number : ℕ) (pending : List K) (all : Bool) (last : Option (List ℕ)) (h : AreTaken c l R B x input now old new number pending all) where
    -- of the last keys those of a batch are answered, if there are that many, and fewer are left
    pub batch_answered : (after : List K) (due every : Bool) → length pending ≤ BATCH → (x.is_live ≡ false → due ≡ false) → IsFlushed c l B due pending after new last all every
        → AreTaken c l R B x input now old last number after every × (length after < BATCH)
    batch_answered after due every most quiet s = elim (eq-or-lt_of_le most) [
      | inl full ↦ (flushed (h.batches + 1) (λ e. omega (arith, h.whole e, long, full, none full)), omega (arith, none full))
      | inr few ↦ (flushed h.batches (λ e. omega (arith, h.whole e, few_done (quiet e) few)), omega (arith, long, few))
    ]
      where
        long : length pending ≡ length s.done + length after
        long = ap length s.left ∙ length-append s.done after

        none : length pending ≡ BATCH → length after ≡ 0
        none full = ap length (s.full (omega (arith, full)))

        few_done : due ≡ false → length pending < BATCH → length s.done ≡ 0
        few_done e few = ap length (s.few e few)

        flushed : (batches : ℕ) → (x.is_live ≡ false → length h.done + length s.done ≡ batches * BATCH) → AreTaken c l R B x input now old last number after every
        flushed batches whole = record {
          done = h.done ++ s.done;
          batches = batches;
          whole = λ e. length-append h.done s.done ∙ whole e;
          values = h.values ++ s.values;
          answers = are_answers_append c B h.done s.done h.values s.values h.answers s.answers;
          written = written_append l h.done s.done h.values s.values old new last h.answers.each h.written s.written;
          found = found_append x.is_all_found h.values s.values all (list_all is_some s.values) every h.found refl s.found;
          read = if_some input _ _ (λ bytes r. record {
            words = r.words;
            rest = r.rest;
            left = r.left;
            place = r.place;
            counted = r.counted;
            texts = subst (AllZip R r.words) (ap (λ ks. h.done ++ ks) s.left ∙ sym (append_assoc h.done s.done after)) r.texts;
          }) h.read;
        }

    -- all keys are
    all_answered : (every : Bool) (words : List (List ℕ)) → AllZip R words (h.done ++ pending) → (s : AreKeysAnswered c l B pending new last every) → IsAnswered c l R B words old last (answered_status (h.values ++ s.values))
    all_answered every words texts s = record {
      keys = h.done ++ pending;
      texts = texts;
      values = h.values ++ s.values;
      answers = are_answers_append c B h.done pending h.values s.values h.answers s.answers;
      written = written_append l h.done pending h.values s.values old new last h.answers.each h.written s.written;
      status = refl;
    }

    -- and so are those in front of them
    status_found : (b all : Bool) → found_status (b && all) ≡ status_after b (found_status all)
    status_found true all = refl
    status_found false all = refl

    after_all : (every : Bool) (s : AreKeysAnswered c l B pending new last every) → found_status (every && all) ≡ status_after x.is_all_found (answered_status (h.values ++ s.values))
    after_all every s =
        ap found_status (found_append x.is_all_found h.values s.values all every (every && all) h.found s.found refl)
        ∙ status_found x.is_all_found (list_all is_some (h.values ++ s.values))

    -- at the end of the input, or of the lines that are read, these are the answers to all that are read
    limit : {n : ℕ} → number ≡ n + x.number → number ≡ 2 ^ 64 - 1 → 2 ^ 64 - 1 - x.number ≡ n
    limit {n} p q = omega (arith, p, q)

    pub lines_answered : (every : Bool) → ((IsAtEnd now ⊎ IsLeftOut R now) × (number ≤ 2 ^ 64 - 1)) ⊎ (number ≡ 2 ^ 64 - 1) → AreKeysAnswered c l B pending new last every
        → IfSome input (λ bytes. AreAllAnswered c l R B x bytes old last (found_status (every && all)))
    lines_answered every end s = if_some input _ _ (λ bytes r. whole bytes r end) h.read
      where
        these : (bytes : List ℕ) (r : AreRead R bytes now x.number number (h.done ++ pending)) (ws : List (List ℕ)) → lines_read x.number ws ≡ r.words → IsAnswered c l R B (lines_read x.number ws) old last (answered_status (h.values ++ s.values))
        these bytes r ws e = subst (λ ws. IsAnswered c l R B ws old last (answered_status (h.values ++ s.values))) (sym e) (all_answered every r.words r.texts s)

        few : (bytes : List ℕ) (r : AreRead R bytes now x.number number (h.done ++ pending)) → number ≤ 2 ^ 64 - 1 → lines_read x.number r.words ≡ r.words
        few bytes r n = take_all (2 ^ 64 - 1 - x.number) r.words (omega (arith, r.counted, n))

        whole : (bytes : List ℕ) (r : AreRead R bytes now x.number number (h.done ++ pending)) → ((IsAtEnd now ⊎ IsLeftOut R now) × (number ≤ 2 ^ 64 - 1)) ⊎ (number ≡ 2 ^ 64 - 1) → AreAllAnswered c l R B x bytes old last (found_status (every && all))
        whole bytes r (inl e) = record {
          words = r.words;
          place = elim e.0 [
            | inl none ↦ inl (r.place ∙ ap (λ rest. r.words ++ lines rest) (end_of now r.rest r.left none) ∙ append-nil r.words)
            | inr out ↦ inr (r.place ∙ ap (λ ls. r.words ++ ls) (only_of R now r.rest r.left out), out.1)
          ];
          status = answered_status (h.values ++ s.values);
          answered = these bytes r r.words (few bytes r e.1);
          after = after_all every s;
        }
        whole bytes r (inr e) = record {
          words = lines bytes;
          place = inl refl;
          status = answered_status (h.values ++ s.values);
          answered = these bytes r (lines bytes) (ap (take (2 ^ 64 - 1 - x.number)) r.place ∙ ap (λ n. take n (r.words ++ lines r.rest)) (limit r.counted e) ∙ take-append_seam r.words (lines r.rest));
          after = after_all every s;
        }

    -- where the next line is no key, these are the answers to all before it
    line_fault : (p : Wanted) (text : List ℕ) → AreFaultAnswered c l R p B pending number now new last text
        → IfSome input (λ bytes. IsLineFault c l R p B x.number (lines bytes) text old last)
    line_fault p text a = if_some input _ _ fault h.read
      where
        fault : (bytes : List ℕ) → AreRead R bytes now x.number number (h.done ++ pending) → IsLineFault c l R p B x.number (lines bytes) text old last
        fault bytes r =
            let n = next_of now a.then r.rest a.line r.left a.next in
            record {
              before = r.words;
              word = a.line;
              after = lines n.0;
              place = r.place ∙ ap (λ ls. r.words ++ ls) n.2;
              fault = a.fault;
              more = λ e. subst AreLeft n.1 (a.more e);
              misread = a.misread ∙ ap (λ k. misread_text (Some k) Key p a.line) r.counted;
              status = answered_status (h.values ++ a.answered.values);
              answered = all_answered a.every r.words r.texts a.answered;
            }

    -- where no more is said, answers to some first lines were written
    pub first_answered : Keeps new last → IfSome input (λ bytes. AreFirstAnswered c l R B x.is_live (lines bytes) old last)
    first_answered k = if_some input _ _ (λ bytes r. some bytes r (front_of R r.words h.done pending r.texts)) h.read
      where
        some : (bytes : List ℕ) (r : AreRead R bytes now x.number number (h.done ++ pending)) → IsFront R r.words h.done → AreFirstAnswered c l R B x.is_live (lines bytes) old last
        some bytes r w = record {
          before = w.before;
          after = w.after ++ lines r.rest;
          place = r.place ∙ ap (λ ws. ws ++ lines r.rest) w.place ∙ append_assoc w.before w.after (lines r.rest);
          batches = h.batches;
          counted = λ e. AllZip-length R w.before h.done w.texts ∙ h.whole e;
          status = answered_status h.values;
          answered = record {
            keys = h.done;
            texts = w.texts;
            values = h.values;
            answers = h.answers;
            written = appended_kept old new last (answers_by l h.done h.values) h.written k;
            status = refl;
          };
        }

    -- where the writer failed the answers to the keys that are left were to be written
    first_asked : 1 ≤ length pending → length pending ≤ BATCH → ((bytes : List ℕ) (r : AreRead R bytes now x.number number (h.done ++ pending)) → x.is_live ≡ false → length pending < BATCH → AreKeysEnded R (lines r.rest) (length r.words + x.number))
        → IfSome input (λ bytes. AreFirstAsked R x (lines bytes))
    first_asked few most end = if_some input _ _ (λ bytes r. asked bytes r (front_of R r.words h.done pending r.texts)) h.read
      where
        asked : (bytes : List ℕ) (r : AreRead R bytes now x.number number (h.done ++ pending)) → IsFront R r.words h.done → AreFirstAsked R x (lines bytes)
        asked bytes r w =
            let front : length w.before ≡ length h.done = AllZip-length R w.before h.done w.texts in
            let all : length r.words ≡ length (h.done ++ pending) = AllZip-length R r.words (h.done ++ pending) r.texts in
            let count : length w.after ≡ length pending = omega (arith, ap length w.place ∙ length-append w.before w.after, all ∙ length-append h.done pending, front) in
            record {
              before = w.before;
              asked = w.after;
              after = lines r.rest;
              place = r.place ∙ ap (λ ws. ws ++ lines r.rest) w.place ∙ append_assoc w.before w.after (lines r.rest);
              batches = h.batches;
              counted = λ e. front ∙ h.whole e;
              some = omega (arith, count, few);
              most = omega (arith, count, most);
              keys = h.done ++ pending;
              texts = subst (λ ws. AllZip R ws (h.done ++ pending)) w.place r.texts;
              ended = λ e less. subst (λ ws. AreKeysEnded R (lines r.rest) (length ws + x.number)) w.place (end bytes r e (omega (arith, count, less)));
            }

    -- where the keys that are left are a batch, or `live` holds, so with a failure of them
    pub batch_failed : (p : Wanted) (failure : Failure) → length pending ≤ BATCH → IsKeysFailure 1 pending new last failure → (x.is_live ≡ false → IsKeysFailure BATCH pending new last failure)
        → AreLinesAnswered c l R p B x input old last (Err failure)
    batch_failed p Memory most k full = first_answered k
    batch_failed p (Output error) most k full = first_asked k most (λ bytes r e less. absurd (omega (arith, full e, less)))
    batch_failed p _ most k full = absurd k

    -- and where what was written of them cannot be written out
    pub write_failed : (p : Wanted) (failure : Failure) → 1 ≤ length pending → length pending ≤ BATCH → IsOutputFailure failure → (x.is_live ≡ false → ⊥) → AreLinesAnswered c l R p B x input old last (Err failure)
    write_failed p (Output error) some most k loud = first_asked some most (λ bytes r e less. absurd (loud e))
    write_failed p _ some most k loud = absurd k

    -- and where they are the last
    none_left : (bytes : List ℕ) (r : AreRead R bytes now x.number number (h.done ++ pending)) → ((IsAtEnd now ⊎ IsLeftOut R now) × (number ≤ 2 ^ 64 - 1)) ⊎ (number ≡ 2 ^ 64 - 1) → AreKeysEnded R (lines r.rest) (length r.words + x.number)
    none_left bytes r (inl e) = elim e.0 [
      | inl none ↦ subst (λ rest. AreKeysEnded R (lines rest) (length r.words + x.number)) (sym (end_of now r.rest r.left none)) tt
      | inr out ↦ subst (λ ls. AreKeysEnded R ls (length r.words + x.number)) (sym (only_of R now r.rest r.left out)) (inl out.1)
    ]
    none_left bytes r (inr e) = past (lines r.rest)
      where
        past : (ls : List (List ℕ)) → AreKeysEnded R ls (length r.words + x.number)
        past [] = tt
        past (w ∷ ws) = inr (sym r.counted ∙ e)

    pub last_failed : (p : Wanted) (failure : Failure) → length pending < BATCH → ((IsAtEnd now ⊎ IsLeftOut R now) × (number ≤ 2 ^ 64 - 1)) ⊎ (number ≡ 2 ^ 64 - 1) → IsKeysFailure 1 pending new last failure
        → AreLinesAnswered c l R p B x input old last (Err failure)
    last_failed p Memory less end k = first_answered k
    last_failed p (Output error) less end k = first_asked k (omega (arith, less)) (λ bytes r e few. none_left bytes r end)
    last_failed p _ less end k = absurd k

    -- and with one of the next line
    fault_left : IsNextNone R now → (bytes : List ℕ) (r : AreRead R bytes now x.number number (h.done ++ pending)) → AreKeysEnded R (lines r.rest) (length r.words + x.number)
    fault_left a bytes r =
        let n = next_of now a.then r.rest a.line r.left a.next in
        subst (λ ls. AreKeysEnded R ls (length r.words + x.number)) (sym n.2) (inl a.fault)

    pub line_failed : (p : Wanted) (failure : Failure) → length pending < BATCH → IsLineFailure c l R p B pending number now new last failure → AreLinesAnswered c l R p B x input old last (Err failure)
    line_failed p (Misread message) less k = line_fault p (string_bytes message) k
    line_failed p (Input error) less k = first_answered k
    line_failed p Memory less k = first_answered k.1
    line_failed p (Output error) less k = first_asked k.1 (omega (arith, less)) (λ bytes r e few. fault_left k.0 bytes r)
    line_failed p _ less k = absurd k.1
