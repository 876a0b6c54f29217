-- Worked examples: what `get -` writes and returns.
--     f                 the text of keys and values of the direct shape
--     line              the line of a key and its value
--     a_number          what is wanted of keys
use Rattle.std.proofs.Common.{◌≡◌, ◌∙◌, inl, inr, Bool, true, false, ◌+◌, ◌*◌, ◌≤◌, ℕ, zero, suc, refl, sym, ap, subst, arith, lit<, lit≤, ◌<◌, map, length, length-append, List, [], ◌∷◌, ◌++◌, Option, Some, None, Ok, Err, slice_get}
use Rattle.std.specs.Prelude.{codes, string_bytes}
use Rattle.std.specs.Char.{encode_utf8}
use Rattle.std.specs.Fmt.{digits}
use Rattle.std.specs.Io.KnownBytes.{Appends}
use Rattle.std.specs.List.{AllZip}
use Rattle.std.specs.Str.{chars, is_utf8}
use Rattle.std.specs.Str.Lines.{lines}
use Rattle.odht_base.specs.Bytes.{overwritten_at}
use Rattle.odht_base.specs.Numbers.{le_bytes}
use Rattle.odht_header.specs.Coding.{HasStored, value_for}
use Rattle.odht_header.specs.declared.error.Error.TheVariants.{TooShort}
use Rattle.odht_header.proofs.examples.Apart.{unequal_lists}
use Rattle.odht_header.proofs.examples.Opened.{opened}
use Rattle.odht_tool_reads.specs.GetLines.{all_lines, lines_read, AreAllAnswered, AreFirstAnswered, IsLineFault, AreFileLinesGot, lines_of_shape}
use Rattle.odht_tool_tables.specs.KeyTexts.{AreLinesOf}
use Rattle.odht_tool_reads.specs.GetParts.{IsFlushed, IsLineFailure}
use Rattle.odht_tool_reads.specs.Gets.{AreAnswers, IsAnswered, answered_status}
use Rattle.odht_tool_core.specs.Misreads.{misread_text, typed_wanted}
use Rattle.odht_tool_core.specs.ReadyShapes.{typed_text}
use Rattle.odht_tool_core.specs.declared.misread.Wanted.{Wanted}
use Rattle.odht_tool_core.specs.Json.{pair_object}
use Rattle.odht_tool_core.specs.declared.json.answers.Printed.{Printed}
use Rattle.odht_tool_core.specs.JsonAnswers.{absent_object, answer_in, printed_as}
use Rattle.odht_tool_core.specs.Texts.{answers_by}
use Rattle.odht_tool_core.specs.declared.forms.Form.TheVariants.{Own}
use Rattle.odht_tool_core.specs.declared.failure.Failure.TheVariants.{Refused, ShortKeys, Input, Misread, Output, Memory}
use Rattle.odht_tool_core.specs.declared.failure.LineFault.TheVariants.{Key}
use Rattle.odht_tool_core.specs.declared.shapes.Hash.TheVariants.{Unhash}
use Rattle.odht_tool_core.specs.declared.shapes.Part.TheVariants.{U32}
use Rattle.odht_tool_core.specs.declared.generated.shapes.Shape.TheVariants.{DirectU32ToU32}
use Rattle.odht_tool_core.specs.declared.status.Status.{Status}
use Rattle.odht_tool_core.specs.declared.status.Status.TheVariants.{Done, NotDone}
use Rattle.odht_tool_reads.specs.declared.lookups.Coming.{Coming}
use Rattle.odht_tool_reads.proofs.AnswerLists.{are_answers_append}
use Rattle.odht_tool_reads.proofs.KeyAnswers.{no_answers, nothing_flushed}
use Rattle.odht_tool_reads.proofs.examples.Gots.{no_refusal}
use Rattle.odht_tool_tables.proofs.examples.KeyTexts.{R, five, six, no_key, no_empty_key, second_text}
use Rattle.odht_tool_tables.proofs.examples.OneTable.{C, one_image, same_table}
use Rattle.odht_tool_core.proofs.examples.Forms.{unsaid}
use Rattle.odht_tool_core.proofs.examples.Shapes.{one_item, one_bytes}

abbrev f : ℕ → List ℕ
f = typed_text Own U32

-- pairs as text
abbrev plain : Printed
plain = printed_as false false

abbrev line : ℕ × Option ℕ → List ℕ
line = answer_in plain f f

abbrev a_number : Wanted
a_number = typed_wanted Own U32

-- all lines, answered a batch at a time, and as they come
abbrev quiet : Coming
quiet = all_lines false

abbrev live : Coming
live = all_lines true

-- ---- the answers to keys
-- 7 for 5, and none for 6
pub five_answered : AreAnswers C one_bytes (5 ∷ []) (Some 7 ∷ [])
unfolding opened
five_answered = record {
  each = refl;
  on_valid = λ P image. subst (λ T. Some 7 ∷ [] ≡ map (value_for C T) (5 ∷ [])) (same_table P image) refl;
  on_any = stored;
}
  where
    stored : (i : ℕ) (k : ℕ) (v : ℕ) → slice_get (5 ∷ []) i ≡ Some k → slice_get (Some 7 ∷ []) i ≡ Some (Some v) → HasStored C one_bytes k v
    stored zero k v p q =
        let here : HasStored C one_bytes 5 7 = (le_bytes 4 7, refl, (5, lit< tt, refl, refl)) in
        let key : 5 ≡ k = cc in
        let value : 7 ≡ v = cc in
        subst (λ x. HasStored C one_bytes x v) key (subst (λ y. HasStored C one_bytes 5 y) value here)
    stored (suc i) k v p q = cc

pub six_answered : AreAnswers C one_bytes (6 ∷ []) (None ∷ [])
unfolding opened
six_answered = record {
  each = refl;
  on_valid = λ P image. subst (λ T. None ∷ [] ≡ map (value_for C T) (6 ∷ [])) (same_table P image) refl;
  on_any = stored;
}
  where
    stored : (i : ℕ) (k : ℕ) (v : ℕ) → slice_get (6 ∷ []) i ≡ Some k → slice_get (None ∷ []) i ≡ Some (Some v) → HasStored C one_bytes k v
    stored zero k v p q = cc
    stored (suc i) k v p q = cc

-- ---- each line a key
pub read : lines_read 1 (lines (codes "5\r\n6")) ≡ codes "5" ∷ codes "6" ∷ []
read = refl

both_answered : IsAnswered C line R one_bytes (codes "5" ∷ codes "6" ∷ []) (Some (codes "a")) (Some (codes "a5\t7\n6\n")) NotDone
unfolding digits
both_answered = record {
  keys = 5 ∷ 6 ∷ [];
  texts = (five, (six, tt));
  values = Some 7 ∷ None ∷ [];
  answers = are_answers_append C one_bytes (5 ∷ []) (6 ∷ []) (Some 7 ∷ []) (None ∷ []) five_answered six_answered;
  written = refl;
  status = refl;
}

pub both : lines_of_shape (Own, Own) plain quiet one_bytes (Some (codes "5\n6\n")) (Some (codes "a")) (Some (codes "a5\t7\n6\n")) (Ok NotDone) DirectU32ToU32
both = (no_refusal, record { words = codes "5" ∷ codes "6" ∷ []; place = inl refl; status = NotDone; answered = both_answered; after = refl })

-- as objects one for each key; the value of the second, which is absent, is null
pub objects : lines_of_shape (Own, Own) (printed_as true false) quiet one_bytes (Some (codes "5\n6\n")) (Some (codes "a")) (Some (codes "a{\"key\":\"5\",\"value\":\"7\"}\n{\"key\":\"6\",\"value\":null}\n")) (Ok NotDone) DirectU32ToU32
unfolding digits chars is_utf8 encode_utf8 pair_object absent_object
objects = (
  no_refusal,
  record {
    words = codes "5" ∷ codes "6" ∷ [];
    place = inl refl;
    status = NotDone;
    after = refl;
    answered = record {
      keys = 5 ∷ 6 ∷ [];
      texts = (five, (six, tt));
      values = Some 7 ∷ None ∷ [];
      answers = are_answers_append C one_bytes (5 ∷ []) (6 ∷ []) (Some 7 ∷ []) (None ∷ []) five_answered six_answered;
      written = refl;
      status = refl;
    };
  },
)

-- as values their lines are empty where they are absent
pub bare : lines_of_shape (Own, Own) (printed_as false true) quiet one_bytes (Some (codes "5\n6\n")) (Some (codes "a")) (Some (codes "a7\n\n")) (Ok NotDone) DirectU32ToU32
unfolding digits
bare = (
  no_refusal,
  record {
    words = codes "5" ∷ codes "6" ∷ [];
    place = inl refl;
    status = NotDone;
    after = refl;
    answered = record {
      keys = 5 ∷ 6 ∷ [];
      texts = (five, (six, tt));
      values = Some 7 ∷ None ∷ [];
      answers = are_answers_append C one_bytes (5 ∷ []) (6 ∷ []) (Some 7 ∷ []) (None ∷ []) five_answered six_answered;
      written = refl;
      status = refl;
    };
  },
)

-- of these lines there are no other answers
of_keys : (ks : List ℕ) (vs : List (Option ℕ)) → AreAnswers C one_bytes ks vs → vs ≡ map (value_for C one_item) ks
of_keys ks vs h = h.on_valid one_item one_image

of_five : (ks : List ℕ) → AllZip R (codes "5" ∷ []) ks → ks ≡ 5 ∷ []
of_five [] h = absurd h
of_five (k ∷ []) h = ap (λ n. n ∷ []) (sym h.0.1)
of_five (k ∷ l ∷ ks) h = absurd h.1

of_both : (ks : List ℕ) → AllZip R (codes "5" ∷ codes "6" ∷ []) ks → ks ≡ 5 ∷ 6 ∷ []
of_both [] h = absurd h
of_both (k ∷ []) h = absurd h.1
of_both (k ∷ l ∷ []) h = ap (λ n. n ∷ l ∷ []) (sym h.0.1) ∙ ap (λ n. 5 ∷ n ∷ []) (sym h.1.0.1)
of_both (k ∷ l ∷ m ∷ ks) h = absurd h.1.1

only_both : (old new : Option (List ℕ)) (status : Status) → IsAnswered C line R one_bytes (codes "5" ∷ codes "6" ∷ []) old new status → (status ≡ NotDone) × Appends old new (codes "5\t7\n6\n")
unfolding digits opened
only_both old new status h =
    let keys = of_both h.keys h.texts in
    let values : h.values ≡ Some 7 ∷ None ∷ [] = of_keys h.keys h.values h.answers ∙ ap (map (value_for C one_item)) keys in (
      h.status ∙ ap answered_status values,
      subst (Appends old new) (ap (λ ks. answers_by line ks h.values) keys ∙ ap (answers_by line (5 ∷ 6 ∷ [])) values) h.written,
    )

-- of these lines none is empty
none_empty : (ws : List (List ℕ)) → codes "5" ∷ codes "6" ∷ [] ≡ ws ++ ([] ∷ []) → ⊥
none_empty [] e = cc
none_empty (a ∷ []) e = cc
none_empty (a ∷ b ∷ []) e = cc
none_empty (a ∷ b ∷ d ∷ rest) e = cc

all_both : (old new : Option (List ℕ)) (status : Status) → AreAllAnswered C line R one_bytes quiet (codes "5\n6\n") old new status → (status ≡ NotDone) × Appends old new (codes "5\t7\n6\n")
all_both old new status h = let both = only_both old new h.status (go h.words h.place h.answered) in (h.after ∙ both.0, both.1)
  where
    go : (ws : List (List ℕ)) → AreLinesOf R (codes "5\n6\n") ws → IsAnswered C line R one_bytes (lines_read 1 ws) old new h.status → IsAnswered C line R one_bytes (codes "5" ∷ codes "6" ∷ []) old new h.status
    go ws (inl e) a = subst (λ ws. IsAnswered C line R one_bytes (lines_read 1 ws) old new h.status) (sym e) a
    go ws (inr e) a = absurd (none_empty ws e.0)

-- the other status; an answer left out; one written twice
pub other_status : (new : Option (List ℕ)) → lines_of_shape (Own, Own) plain quiet one_bytes (Some (codes "5\n6\n")) (Some []) new (Ok Done) DirectU32ToU32 → ⊥
other_status new h = let other = (all_both (Some []) new Done h.1).0 in cc

pub left_out : lines_of_shape (Own, Own) plain quiet one_bytes (Some (codes "5\n6\n")) (Some (codes "a")) (Some (codes "a5\t7\n")) (Ok NotDone) DirectU32ToU32 → ⊥
left_out h = unequal_lists (codes "a5\t7\n") (codes "a5\t7\n6\n") refl (all_both (Some (codes "a")) (Some (codes "a5\t7\n")) NotDone h.1).1

pub twice : lines_of_shape (Own, Own) plain quiet one_bytes (Some (codes "5\n6\n")) (Some []) (Some (codes "5\t7\n5\t7\n6\n")) (Ok NotDone) DirectU32ToU32 → ⊥
twice h = unequal_lists (codes "5\t7\n5\t7\n6\n") (codes "5\t7\n6\n") refl (all_both (Some []) (Some (codes "5\t7\n5\t7\n6\n")) NotDone h.1).1

-- a status where a line is no key
pub done_at_fault : (old new : Option (List ℕ)) (status : Status) → lines_of_shape (Own, Own) plain quiet one_bytes (Some (codes "x\n")) old new (Ok status) DirectU32ToU32 → ⊥
done_at_fault old new status h = whole h.1.words h.1.place h.1.answered
  where
    none : (ws : List (List ℕ)) → codes "x" ∷ [] ≡ ws ++ ([] ∷ []) → ⊥
    none [] e = cc
    none (a ∷ []) e = cc
    none (a ∷ b ∷ rest) e = cc

    go : (ks : List ℕ) → AllZip R (codes "x" ∷ []) ks → ⊥
    go [] t = t
    go (k ∷ ks) t = no_key k t.0

    whole : (ws : List (List ℕ)) → AreLinesOf R (codes "x\n") ws → IsAnswered C line R one_bytes (lines_read 1 ws) old new h.1.status → ⊥
    whole ws (inl e) a = go a.keys (subst (λ ws. AllZip R (lines_read 1 ws) a.keys) (sym e) a.texts)
    whole ws (inr e) a = none ws e.0

-- an empty last line is left out
pub empty_last : lines_of_shape (Own, Own) plain quiet one_bytes (Some (codes "5\n\n")) (Some (codes "a")) (Some (codes "a5\t7\n")) (Ok Done) DirectU32ToU32
unfolding digits
empty_last = (
  no_refusal,
  record {
    words = codes "5" ∷ [];
    place = inr (refl, no_empty_key);
    status = Done;
    after = refl;
    answered = record { keys = 5 ∷ []; texts = (five, tt); values = Some 7 ∷ []; answers = five_answered; written = refl; status = refl };
  },
)

-- and it is no fault
pub empty_last_told : (old new : Option (List ℕ)) (text : List ℕ) → IsLineFault C line R a_number one_bytes 1 ([] ∷ []) text old new → ⊥
empty_last_told old new text h = go h.before h.after h.place h.more
  where
    go : (before after : List (List ℕ)) → [] ∷ [] ≡ before ++ (h.word ∷ after) → (h.word ≡ [] → after ≡ [] → ⊥) → ⊥
    go [] [] place more = let word : h.word ≡ [] = cc in more word refl
    go [] (a ∷ after) place more = cc
    go (a ∷ []) after place more = cc
    go (a ∷ b ∷ before) after place more = cc

-- of lines that are left the status is as for those before them, and the first has its number
abbrev later : Bool → Coming
later all = record { is_live = true; number = 7; is_all_found = all }

pub later_absent : lines_of_shape (Own, Own) plain (later false) one_bytes (Some (codes "5\n")) (Some (codes "a")) (Some (codes "a5\t7\n")) (Ok NotDone) DirectU32ToU32
unfolding digits
later_absent = (
  no_refusal,
  record {
    words = codes "5" ∷ [];
    place = inl refl;
    status = Done;
    after = refl;
    answered = record { keys = 5 ∷ []; texts = (five, tt); values = Some 7 ∷ []; answers = five_answered; written = refl; status = refl };
  },
)

pub absent_forgotten : (old new : Option (List ℕ)) → lines_of_shape (Own, Own) plain (later false) one_bytes (Some (codes "5\n")) old new (Ok Done) DirectU32ToU32 → ⊥
absent_forgotten old new h = let after = h.1.after in cc

-- nothing is said where the bytes of the input are not known
pub unknown : lines_of_shape (Own, Own) plain quiet one_bytes None (Some []) (Some (codes "b")) (Ok Done) DirectU32ToU32
unknown = (no_refusal, tt)

-- ---- a line that is no key
-- the second
pub second : (message : _) → string_bytes message ≡ second_text → lines_of_shape (Own, Own) plain quiet one_bytes (Some (codes "5\nx\n6")) (Some (codes "a")) (Some (codes "a5\t7\n")) (Err (Misread message)) DirectU32ToU32
unfolding digits
second message misread = (
  no_refusal,
  record {
    before = codes "5" ∷ [];
    word = codes "x";
    after = codes "6" ∷ [];
    place = refl;
    fault = no_key;
    more = λ e q. cc;
    misread = misread;
    status = Done;
    answered = record { keys = 5 ∷ []; texts = (five, tt); values = Some 7 ∷ []; answers = five_answered; written = refl; status = refl };
  },
)

only_second : (old new : Option (List ℕ)) (text : List ℕ) → IsLineFault C line R a_number one_bytes 1 (codes "5" ∷ codes "x" ∷ codes "6" ∷ []) text old new → (text ≡ second_text) × Appends old new (codes "5\t7\n")
unfolding digits opened
only_second old new text h = go h.before h.place h.misread h.answered
  where
    go : (before : List (List ℕ)) → codes "5" ∷ codes "x" ∷ codes "6" ∷ [] ≡ before ++ (h.word ∷ h.after) → text ≡ misread_text (Some (length before + 1)) Key a_number h.word
        → IsAnswered C line R one_bytes before old new h.status → (text ≡ second_text) × Appends old new (codes "5\t7\n")
    go [] place misread answered =
        let word : codes "5" ≡ h.word = cc in
        absurd (h.fault 5 (subst (λ w. R w 5) word five))
    go (a ∷ []) place misread answered =
        let word : codes "5" ≡ a = cc in
        let wrong : h.word ≡ codes "x" = cc in
        let keys = of_five answered.keys (subst (λ w. AllZip R (w ∷ []) answered.keys) (sym word) answered.texts) in
        let values : answered.values ≡ Some 7 ∷ [] = of_keys answered.keys answered.values answered.answers ∙ ap (map (value_for C one_item)) keys in (
          misread ∙ ap (misread_text (Some 2) Key a_number) wrong,
          subst (Appends old new) (ap (λ ks. answers_by line ks answered.values) keys ∙ ap (answers_by line (5 ∷ [])) values) answered.written,
        )
    go (a ∷ b ∷ rest) place misread answered =
        let word : codes "x" ≡ b = cc in
        absurd (second_key answered.keys (subst (λ w. AllZip R (a ∷ w ∷ rest) answered.keys) (sym word) answered.texts))
      where
        second_key : (ks : List ℕ) → AllZip R (a ∷ codes "x" ∷ rest) ks → ⊥
        second_key [] t = t
        second_key (k ∷ []) t = t.1
        second_key (k ∷ l ∷ ks) t = no_key l t.1.0

-- counted from 0; the answer before it not written; another fault; another text
message_else : (message : _) (new : Option (List ℕ)) (text : List ℕ) → string_bytes message ≡ text → lines_of_shape (Own, Own) plain quiet one_bytes (Some (codes "5\nx\n6")) (Some []) new (Err (Misread message)) DirectU32ToU32
    → text ≡ second_text
message_else message new text e h = sym e ∙ (only_second (Some []) new (string_bytes message) h.1).0

pub from_zero : (message : _) (new : Option (List ℕ)) → string_bytes message ≡ codes "standard input, line 1: the key \"x\" is not a number below 2^32"
    → lines_of_shape (Own, Own) plain quiet one_bytes (Some (codes "5\nx\n6")) (Some []) new (Err (Misread message)) DirectU32ToU32 → ⊥
from_zero message new e h = unequal_lists (codes "standard input, line 1: the key \"x\" is not a number below 2^32") second_text refl (message_else message new _ e h)

pub unwritten : (message : _) → lines_of_shape (Own, Own) plain quiet one_bytes (Some (codes "5\nx\n6")) (Some []) (Some []) (Err (Misread message)) DirectU32ToU32 → ⊥
unwritten message h = unequal_lists [] (codes "5\t7\n") refl (only_second (Some []) (Some []) (string_bytes message) h.1).1

pub no_tab : (message : _) (new : Option (List ℕ)) → string_bytes message ≡ codes "standard input, line 2: \"x\" has no tab between key and value"
    → lines_of_shape (Own, Own) plain quiet one_bytes (Some (codes "5\nx\n6")) (Some []) new (Err (Misread message)) DirectU32ToU32 → ⊥
no_tab message new e h = unequal_lists (codes "standard input, line 2: \"x\" has no tab between key and value") second_text refl (message_else message new _ e h)

pub other_text : (message : _) (new : Option (List ℕ)) → string_bytes message ≡ codes "standard input, line 2: the key \"6\" is not a number below 2^32"
    → lines_of_shape (Own, Own) plain quiet one_bytes (Some (codes "5\nx\n6")) (Some []) new (Err (Misread message)) DirectU32ToU32 → ⊥
other_text message new e h = unequal_lists (codes "standard input, line 2: the key \"6\" is not a number below 2^32") second_text refl (message_else message new _ e h)

-- ---- other failures
-- without memory, or where the input cannot be read, what is written are the answers to whole batches: here to none
pub no_memory : lines_of_shape (Own, Own) plain quiet one_bytes (Some (codes "5\n")) (Some (codes "a")) (Some (codes "a")) (Err Memory) DirectU32ToU32
no_memory = (
  no_refusal,
  record {
    before = [];
    after = codes "5" ∷ [];
    place = refl;
    batches = 0;
    counted = λ _. refl;
    status = Done;
    answered = record { keys = []; texts = tt; values = []; answers = no_answers C one_bytes; written = refl; status = refl };
  },
)

none_first : (old new : Option (List ℕ)) → AreFirstAnswered C line R one_bytes false (codes "5" ∷ []) old new → Appends old new []
unfolding opened
none_first old new h = go h.before (ap length h.place ∙ length-append h.before h.after) (h.counted refl) h.answered
  where
    go : (before : List (List ℕ)) → 1 ≡ length before + length h.after → length before ≡ h.batches * 1024 → IsAnswered C line R one_bytes before old new h.status → Appends old new []
    go [] place counted answered = none answered.keys answered.texts answered.written
      where
        none : (ks : List ℕ) → AllZip R [] ks → Appends old new (answers_by line ks answered.values) → Appends old new []
        none [] t w = w
        none (k ∷ ks) t w = absurd t
    go (a ∷ rest) place counted answered = absurd (omega (arith, place, counted))

pub half_a_batch : lines_of_shape (Own, Own) plain quiet one_bytes (Some (codes "5\n")) (Some (codes "a")) (Some (codes "a5\t7\n")) (Err Memory) DirectU32ToU32 → ⊥
half_a_batch h = unequal_lists (codes "a5\t7\n") (codes "a") refl (none_first (Some (codes "a")) (Some (codes "a5\t7\n")) h.1)

pub half_read : (error : _) → lines_of_shape (Own, Own) plain quiet one_bytes (Some (codes "5\n")) (Some (codes "a")) (Some (codes "a5\t7\n")) (Err (Input error)) DirectU32ToU32 → ⊥
half_read error h = unequal_lists (codes "a5\t7\n") (codes "a") refl (none_first (Some (codes "a")) (Some (codes "a5\t7\n")) h.1)

-- where lines are answered as they come, that may be a part of a batch
pub live_part : lines_of_shape (Own, Own) plain live one_bytes (Some (codes "5\n6\n")) (Some (codes "a")) (Some (codes "a5\t7\n")) (Err Memory) DirectU32ToU32
unfolding digits
live_part = (
  no_refusal,
  record {
    before = codes "5" ∷ [];
    after = codes "6" ∷ [];
    place = refl;
    batches = 0;
    counted = λ e. cc;
    status = Done;
    answered = record { keys = 5 ∷ []; texts = (five, tt); values = Some 7 ∷ []; answers = five_answered; written = refl; status = refl };
  },
)

-- the writer fails where an answer is to be written; not where there is no line, nor where the first one is no key
pub asked : (old new : Option (List ℕ)) (error : _) → lines_of_shape (Own, Own) plain quiet one_bytes (Some (codes "5\n")) old new (Err (Output error)) DirectU32ToU32
asked old new error = (
  no_refusal,
  record {
    before = [];
    asked = codes "5" ∷ [];
    after = [];
    place = refl;
    batches = 0;
    counted = λ _. refl;
    some = lit< tt;
    most = lit≤ tt;
    keys = 5 ∷ [];
    texts = (five, tt);
    ended = λ e few. tt;
  },
)

pub none_asked : (old new : Option (List ℕ)) (error : _) → lines_of_shape (Own, Own) plain quiet one_bytes (Some []) old new (Err (Output error)) DirectU32ToU32 → ⊥
none_asked old new error h =
    omega (arith, ap length h.1.place ∙ length-append h.1.before (h.1.asked ++ h.1.after), length-append h.1.asked h.1.after, h.1.some)

pub no_key_asked : (old new : Option (List ℕ)) (error : _) → lines_of_shape (Own, Own) plain quiet one_bytes (Some (codes "x\n")) old new (Err (Output error)) DirectU32ToU32 → ⊥
no_key_asked old new error h = go h.1.before h.1.asked h.1.place h.1.some h.1.keys h.1.texts
  where
    first : (w : List ℕ) (ws : List (List ℕ)) (ks : List ℕ) → codes "x" ≡ w → AllZip R (w ∷ ws) ks → ⊥
    first w ws [] e t = t
    first w ws (k ∷ ks) e t = no_key k (subst (λ v. R v k) (sym e) t.0)

    go : (before asked : List (List ℕ)) → codes "x" ∷ [] ≡ before ++ (asked ++ h.1.after) → 0 < length asked → (ks : List ℕ) → AllZip R (before ++ asked) ks → ⊥
    go [] [] place some ks t = absurd (omega (arith, some))
    go [] (w ∷ asked) place some ks t = let e : codes "x" ≡ w = cc in first w asked ks e t
    go (w ∷ before) asked place some ks t = let e : codes "x" ≡ w = cc in first w (before ++ asked) ks e t

-- the writer fails only once the bytes are opened
pub unopened : (input old new : Option (List ℕ)) (error : _) → lines_of_shape (Own, Own) plain quiet (79 ∷ 68 ∷ []) input old new (Err (Output error)) DirectU32ToU32 → ⊥
unfolding opened
unopened input old new error h = let opens = h.0 in cc

-- of bytes that do not open the error is returned, and nothing is written
pub refused : (input : Option (List ℕ)) → lines_of_shape (Own, Own) plain quiet (79 ∷ 68 ∷ []) input (Some (codes "a")) (Some (codes "a")) (Err (Refused (TooShort 2))) DirectU32ToU32
unfolding opened
refused input = (refl, refl)

pub refused_late : (input : Option (List ℕ)) → lines_of_shape (Own, Own) plain quiet (79 ∷ 68 ∷ []) input (Some (codes "a")) (Some (codes "ab")) (Err (Refused (TooShort 2))) DirectU32ToU32 → ⊥
refused_late input h = unequal_lists (codes "ab") (codes "a") refl h.1

pub not_refused : (input old new : Option (List ℕ)) → lines_of_shape (Own, Own) plain quiet one_bytes input old new (Err (Refused (TooShort 2))) DirectU32ToU32 → ⊥
not_refused input old new h = let no = no_refusal in cc

-- of bytes with no shape nothing is read
pub no_shape : (input : Option (List ℕ)) → AreFileLinesGot (overwritten_at one_bytes 5 (3 ∷ [])) (Some Unhash) unsaid plain quiet input (Some (codes "a")) (Some (codes "a")) (Err (ShortKeys 3))
unfolding opened
no_shape input = (refl, refl)

pub shape_missed : (input old new : Option (List ℕ)) → AreFileLinesGot one_bytes (Some Unhash) unsaid plain quiet input old new (Err (ShortKeys 4)) → ⊥
unfolding opened
shape_missed input old new h = h.1

-- ---- the next line
-- it is the second and no key, and the answer before it is written; counted from 0
pub faulty : (message : _) → string_bytes message ≡ second_text → IsLineFailure C line R a_number one_bytes (5 ∷ []) 2 (Some (codes "x\n6")) (Some (codes "a")) (Some (codes "a5\t7\n")) (Misread message)
unfolding digits
faulty message misread = record {
  then = Some (codes "6");
  line = codes "x";
  next = (codes "6", refl, refl);
  fault = no_key;
  more = λ e q. cc;
  misread = misread;
  every = true;
  answered = record { values = Some 7 ∷ []; answers = five_answered; written = refl; found = refl };
}

-- ---- a batch
-- one key is none, so it is not answered yet; and a batch is answered
pub few : IsFlushed C line one_bytes false (5 ∷ []) (5 ∷ []) (Some (codes "a")) (Some (codes "a")) true true
few = nothing_flushed C line one_bytes false (5 ∷ []) (Some (codes "a")) true (lit< tt)

pub early : (old new : Option (List ℕ)) (was all : Bool) → IsFlushed C line one_bytes false (5 ∷ []) [] old new was all → ⊥
early old new was all h = let none = h.few refl (lit< tt) in let left = h.left in absurd (omega (arith, ap length left ∙ length-append h.done [], ap length none))

pub late : (due : Bool) (keys : List ℕ) (old new : Option (List ℕ)) (was all : Bool) → 1024 ≤ length keys → IsFlushed C line one_bytes due keys keys old new was all → ⊥
late due keys old new was all many h = omega (arith, many, ap length (h.full many))
