-- What is answered of a table that is read by position.
use Rattle.std.proofs.Common.{◌≡◌, ◌∙◌, ◌⊎◌, inl, inr, ℕ, ◌≤◌, List, length, take, Option, Some, None, Ok, ap, subst, sym}
use Rattle.std.proofs.lemmas.List.{length-take-le}
use Rattle.std.specs.Prelude.{⊤, Result, Err, IfOk, IfSome, MatchResult}
use Rattle.std.specs.Io.KnownBytes.{Keeps}
use Rattle.odht_base.specs.Bytes.{bytes_at}
use Rattle.odht_tool_core.specs.AnyShapes.{any_formed, found_any, read_any, types_of}
use Rattle.odht_tool_core.specs.FoundShapes.{said_hash}
use Rattle.odht_tool_core.specs.ReadyShapes.{typed_len}
use Rattle.odht_tool_core.specs.generated.ShapeList.{key_part, value_part, shape_hash}
use Rattle.odht_tool_core.specs.declared.any.AnyShape.{AnyShape}
use Rattle.odht_tool_core.specs.declared.any.AnyShape.TheVariants.{Ready, Other}
use Rattle.odht_tool_core.specs.declared.any.OtherShape.{OtherShape}
use Rattle.odht_tool_core.specs.declared.failure.Failure.{Failure}
use Rattle.odht_tool_core.specs.declared.forms.GivenForms.{GivenForms}
use Rattle.odht_tool_core.specs.declared.forms.Kinds.{Kinds}
use Rattle.odht_tool_core.specs.declared.json.answers.Printed.{Printed}
use Rattle.odht_tool_core.specs.declared.shapes.Hash.{Hash}
use Rattle.odht_tool_core.specs.declared.status.Status.{Status}
use Rattle.odht_tool_reads.specs.Gets.{AreFileWordsGot, by_shape, words_of_types, words_of_forms}
use Rattle.odht_tool_reads.specs.PositionLines.{AreFileLinesRead, AreLinesReadBy, lines_read_of, lines_read_of_forms}
use Rattle.odht_tool_reads.specs.Positions.{ByPosition, IsAnsweredBy, IsFoundIn, IsTableIn, IsNamed, IsStartOf, are_words_short, short_words_of, table_read}
use Rattle.odht_tool_reads.specs.declared.positions.Reached.{Reached}
use Rattle.odht_tool_reads.specs.declared.positions.Start.{Start}
use Rattle.odht_tool_reads.specs.declared.positions.shaped.Found.{Found}
use Rattle.odht_tool_reads.proofs.FileReads.{found_same, ready_long, started, started_long, valid_found}
use Rattle.odht_tool_reads.proofs.Shaped.{with_shape_said, without_shape_in}

-- the shape that the header shows is that of the table
pub named_shape : (B : List ℕ) (start : Start) → IsStartOf B start → 32 ≤ start.len → (h name : Option Hash) (ks : Kinds) → IsNamed (bytes_at B start.at start.len) h ks.hash name
    → (x : AnyShape × GivenForms) → Ok x ≡ read_any start.header name ks → read_any (bytes_at B start.at start.len) name ks ≡ Ok x
named_shape B start is long h name ks named x found =
    sym (found ∙ ap (any_formed ks) (found_same (bytes_at B start.at start.len) start.header (started_long B start is long) (started B start is long) h ks.hash name named))

-- the first bytes of what is read into a room
pub front_given : (B room : List ℕ) (n at from : ℕ) → n ≤ length room → take n room ≡ bytes_at B from n → at ≡ from → take n room ≡ bytes_at B at (length (take n room))
front_given B room n at from within h e = h ∙ (λ j. bytes_at B (sym e j) (sym (length-take-le n room within) j))

-- what is said of each result is said of one by position
pub each_by_position : {X : Type 0} (old new : Option (List ℕ)) (P Q : Result X Failure → Type 0) → ((r : Result X Failure) → P r → Q r) → (r : Result (Option X) Failure) → ByPosition old new P r → ByPosition old new Q r
each_by_position old new P Q f (Ok None) w = w
each_by_position old new P Q f (Ok (Some s)) w = f (Ok s) w
each_by_position old new P Q f (Err failure) w = f (Err failure) w

-- what is said of the types of a table that was found is said of its bytes
pub found_said : {X : Type 0} (B : List ℕ) (at : Option ℕ) (h : Option Hash) (ks : Kinds) (f : Found) (is : IsFoundIn B at h ks f) (old new : Option (List ℕ)) (r : Result X Failure) (Q : List ℕ → OtherShape → GivenForms → Type 0)
    → Q (bytes_at B f.at f.len) f.shape f.forms → by_shape (table_read B at) is.named ks old new r (λ x. Q (table_read B at) (types_of x.0) x.1)
found_said B at h ks f is old new r Q w =
    with_shape_said (read_any (table_read B at) is.named ks) (is.shape, f.forms) (λ x. Q (table_read B at) (types_of x.0) x.1) (λ x. (r ≡ Err x) × Keeps old new) (sym is.formed)
    (subst (λ (o : OtherShape). Q (table_read B at) o f.forms) is.types (subst (λ (T : List ℕ). Q T f.shape f.forms) is.table w))

-- so of words, and of lines
pub found_words : (B : List ℕ) (at : Option ℕ) (h : Option Hash) (ks : Kinds) (f : Found) → IsFoundIn B at h ks f → (j : Printed) (ws : List (List ℕ)) (old new : Option (List ℕ)) (r : Result (Option Status) Failure)
    → ByPosition old new (λ r. words_of_types (f.forms.key, f.forms.value) j (bytes_at B f.at f.len) ws old new r f.shape) r → ByPosition old new (IsAnsweredBy (table_read B at) h ks j ws old new) r
found_words B at h ks f is j ws old new =
    each_by_position old new (λ r. words_of_types (f.forms.key, f.forms.value) j (bytes_at B f.at f.len) ws old new r f.shape) (IsAnsweredBy (table_read B at) h ks j ws old new)
    (λ r w. record { named = is.named; is = inr is.is; answered = found_said B at h ks f is old new r (λ T o fs. words_of_types (fs.key, fs.value) j T ws old new r o) w })

pub found_lines : (B : List ℕ) (at : Option ℕ) (h : Option Hash) (ks : Kinds) (f : Found) → IsFoundIn B at h ks f → (j : Printed) (input now old new : Option (List ℕ)) (r : Result (Option Reached) Failure)
    → ByPosition old new (λ r. lines_read_of (f.forms.key, f.forms.value) j (bytes_at B f.at f.len) input now old new r f.shape) r → ByPosition old new (AreLinesReadBy (table_read B at) h ks j input now old new) r
found_lines B at h ks f is j input now old new =
    each_by_position old new (λ r. lines_read_of (f.forms.key, f.forms.value) j (bytes_at B f.at f.len) input now old new r f.shape) (AreLinesReadBy (table_read B at) h ks j input now old new)
    (λ r w. record { named = is.named; is = inr is.is; answered = found_said B at h ks f is old new r (λ T o fs. lines_read_of (fs.key, fs.value) j T input now old new r o) w })

-- where slots fit no hash function there is no shape
pub unfit_words : (T : List ℕ) (h : Option Hash) (ks : Kinds) (j : Printed) (ws : List (List ℕ)) (old : Option (List ℕ)) (f : Failure) → (h ≡ None) × (read_any T None ks ≡ Err f)
    → IsAnsweredBy T h ks j ws old old (Err f)
unfit_words T h ks j ws old f e =
    record { named = None; is = inl (sym e.0); answered = without_shape_in Status (read_any T None ks) f old (words_of_forms j T ws old old (Err f)) (sym e.1) }

pub unfit_lines : (T : List ℕ) (h : Option Hash) (ks : Kinds) (j : Printed) (input now old : Option (List ℕ)) (f : Failure) → (h ≡ None) × (read_any T None ks ≡ Err f)
    → AreLinesReadBy T h ks j input now old old (Err f)
unfit_lines T h ks j input now old f e =
    record { named = None; is = inl (sym e.0); answered = without_shape_in Reached (read_any T None ks) f old (lines_read_of_forms j T input now old old (Err f)) (sym e.1) }

-- ---- valid bytes
-- where it was named or not, the shape of such a table is the same
valid_same : (T : List ℕ) (s : AnyShape) → IsTableIn T s → (h : Option Hash) (ks : Kinds) (name : Option Hash) → IsNamed T h ks.hash name → found_any T (said_hash T name ks.hash) ≡ found_any T (said_hash T h ks.hash)
valid_same T (Ready x) is h ks name named = valid_found T (typed_len (key_part x)) (typed_len (value_part x)) (shape_hash x) is.format (ready_long x) is.valid h ks.hash name named
valid_same T (Other o) is h ks name named = valid_found T (typed_len o.key) (typed_len o.value) o.hash is.format is.long is.valid h ks.hash name named

valid_said : {X : Type 0} (T : List ℕ) (s : AnyShape) → IsTableIn T s → (h : Option Hash) (ks : Kinds) (name : Option Hash) → (name ≡ h) ⊎ IsNamed T h ks.hash name → (old new : Option (List ℕ)) (r : Result X Failure) (Q : AnyShape × GivenForms → Type 0)
    → by_shape T name ks old new r Q → by_shape T h ks old new r Q
valid_said T s is h ks name (inl e) old new r Q = subst (λ n. by_shape T n ks old new r Q) e
valid_said T s is h ks name (inr named) old new r Q =
    subst (λ f. MatchResult (any_formed ks f) Q (λ x. (r ≡ Err x) × Keeps old new)) (valid_same T s is h ks name named)

-- and so are the words, and the lines
pub valid_words : (T : List ℕ) (s : AnyShape) → IsTableIn T s → (h : Option Hash) (ks : Kinds) (j : Printed) (ws : List (List ℕ)) (old new : Option (List ℕ)) (r : Result (Option Status) Failure)
    → ByPosition old new (IsAnsweredBy T h ks j ws old new) r → ByPosition old new (AreFileWordsGot T h ks j ws old new) r
valid_words T s is h ks j ws old new =
    each_by_position old new (IsAnsweredBy T h ks j ws old new) (AreFileWordsGot T h ks j ws old new) (λ r a. valid_said T s is h ks a.named a.is old new r (words_of_forms j T ws old new r) a.answered)

pub valid_lines : (T : List ℕ) (s : AnyShape) → IsTableIn T s → (h : Option Hash) (ks : Kinds) (j : Printed) (input now old new : Option (List ℕ)) (r : Result (Option Reached) Failure)
    → ByPosition old new (AreLinesReadBy T h ks j input now old new) r → ByPosition old new (AreFileLinesRead T h ks j input now old new) r
valid_lines T s is h ks j input now old new =
    each_by_position old new (AreLinesReadBy T h ks j input now old new) (AreFileLinesRead T h ks j input now old new) (λ r a. valid_said T s is h ks a.named a.is old new r (lines_read_of_forms j T input now old new r) a.answered)

-- and the searches for their keys were short
some_ok : (P Q : Type 0) → (P → Q) → (r : Result (Option Status) Failure) → IfOk r (λ o. IfSome o (λ s. P)) → IfOk r (λ o. IfSome o (λ s. Q))
some_ok P Q f (Ok None) w = w
some_ok P Q f (Ok (Some s)) w = f w
some_ok P Q f (Err failure) w = w

pub short_words : (B : List ℕ) (at : Option ℕ) (h : Option Hash) (ks : Kinds) (f : Found) → IsFoundIn B at h ks f → (s : AnyShape) → IsTableIn (table_read B at) s → (ws : List (List ℕ)) (r : Result (Option Status) Failure)
    → IfOk r (λ o. IfSome o (λ _. short_words_of f.forms.key (bytes_at B f.at f.len) ws f.shape)) → IfOk r (λ o. IfSome o (λ _. are_words_short (table_read B at) h ks ws))
short_words B at h ks f is s table ws =
    let T : List ℕ = table_read B at in
    some_ok (short_words_of f.forms.key (bytes_at B f.at f.len) ws f.shape) (are_words_short T h ks ws)
    (λ w.
    subst (λ x. MatchResult (any_formed ks x) (λ y. short_words_of y.1.key T ws (types_of y.0)) (λ _. ⊤)) (valid_same T s table h ks is.named is.is)
    (with_shape_said (read_any T is.named ks) (is.shape, f.forms) (λ y. short_words_of y.1.key T ws (types_of y.0)) (λ _. ⊤) (sym is.formed)
    (subst (λ (o : OtherShape). short_words_of f.forms.key T ws o) is.types (subst (λ (X : List ℕ). short_words_of f.forms.key X ws f.shape) is.table w))))
