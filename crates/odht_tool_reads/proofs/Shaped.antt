-- What a command does, from the shape of the bytes on.
use Rattle.std.proofs.Common.{◌≡◌, ◌∙◌, ℕ, List, Option, Ok, Err, ap, refl, subst, sym}
use Rattle.std.specs.Prelude.{Result, MatchResult, IsErrAnd}
use Rattle.std.specs.Io.KnownBytes.{Keeps}
use Rattle.std.proofs.KnownBytes.{Keeps-refl}
use Rattle.odht_base.specs.Format.{Format, format_of}
use Rattle.odht_tool_reads.specs.Outcomes.{by_shape}
use Rattle.odht_tool_tables.proofs.Formats.{format_is}
use Rattle.odht_tool_core.specs.AnyShapes.{any_format, any_hash, any_key, any_value}
use Rattle.odht_tool_core.specs.Endings.{Outcome, IsDone, IsOutputFailure}
use Rattle.odht_tool_core.specs.ReadyShapes.{hash_of, typed_len}
use Rattle.odht_tool_core.specs.StoredTexts.{texts_of}
use Rattle.odht_tool_core.specs.declared.any.AnyShape.{AnyShape}
use Rattle.odht_tool_core.specs.declared.failure.Failure.{Failure}
use Rattle.odht_tool_core.specs.declared.forms.Form.{Form}
use Rattle.odht_tool_core.specs.declared.forms.Form.TheVariants.{Own}
use Rattle.odht_tool_core.specs.declared.forms.GivenForms.{GivenForms}
use Rattle.odht_tool_core.specs.declared.shapes.Hash.{Hash}
use Rattle.odht_tool_core.specs.declared.status.Status.{Status}
use Rattle.odht_tool_core.specs.declared.typed.Texts.{Texts}

-- errors of one kind of result are those of another
same_failure : {X : Type 0} (e s : Failure) → ◌≡◌ {A = Result X Failure} (Err e) (Err s) → e ≡ s
same_failure e s h = cc

-- with no shape there is its failure
pub without_shape : {X : Type 0} (r : Result X Failure) (f : X → Outcome) (old : Option (List ℕ)) (e : Failure) → Err e ≡ r → IsDone (by_shape r f) old old (Err e)
without_shape (Ok x) f old e h = cc
without_shape (Err x) f old e h = (ap Err (same_failure e x h), Keeps-refl old)

-- and with one what follows
pub with_shape : {X : Type 0} (r : Result X Failure) (f : X → Outcome) (x : X) (old new : Option (List ℕ)) (returned : Result Status Failure) → Ok x ≡ r → IsDone (f x) old new returned → IsDone (by_shape r f) old new returned
with_shape r f x old new returned e h = subst (λ p. IsDone (by_shape p f) old new returned) e h

-- the same of what is said by cases
pub without_shape_in : {X : Type 0} (Y : Type 0) (r : Result X Failure) (e : Failure) (old : Option (List ℕ)) (P : X → Type 0) → Err e ≡ r → MatchResult r P (λ x. (◌≡◌ {A = Result Y Failure} (Err e) (Err x)) × Keeps old old)
without_shape_in Y (Ok x) e old P h = cc
without_shape_in Y (Err x) e old P h = (ap Err (same_failure e x h), Keeps-refl old)

pub without_shape_said : {X : Type 0} (r : Result X Failure) (e : Failure) (old : Option (List ℕ)) (P : X → Type 0) → Err e ≡ r → MatchResult r P (λ x. (◌≡◌ {A = Result Status Failure} (Err e) (Err x)) × Keeps old old)
without_shape_said = without_shape_in Status

pub with_shape_said : {X : Type 0} (r : Result X Failure) (x : X) (P : X → Type 0) (N : Failure → Type 0) → Ok x ≡ r → P x → MatchResult r P N
with_shape_said r x P N e h = subst (λ p. MatchResult p P N) e h

-- the forms that are both a shape's own
pub own_pair : (forms : GivenForms) → forms.key ≡ Own → forms.value ≡ Own → ◌≡◌ {A = Form × Form} (forms.key, forms.value) (Own, Own)
own_pair forms k v =
    subst (λ f. ◌≡◌ {A = Form × Form} (f, forms.value) (Own, Own)) (sym k) (subst (λ f. ◌≡◌ {A = Form × Form} (Own, f) (Own, Own)) (sym v) refl)

-- what fails by the writer ends as a text allows
pub failed_output : (A : Status → Type 0) (r : Result Status Failure) → IsErrAnd r IsOutputFailure → MatchResult r A IsOutputFailure
failed_output A (Ok status) f = absurd f
failed_output A (Err failure) f = f

-- the lengths of the texts of a shape, with its hash function, are its format
pub table_of : (s : AnyShape) (fs : GivenForms) (t : Texts) (h : Hash) → t ≡ texts_of s fs → any_hash s ≡ h
    → ◌≡◌ {A = Format × Texts} (format_of (typed_len t.key) (typed_len t.value) (hash_of h), t) (any_format s, texts_of s fs)
table_of s fs t h texts hash =
    let same = sym hash in
    let lengths : ◌≡◌ {A = Format × Texts} (format_of (typed_len t.key) (typed_len t.value) (hash_of h), t)
    (format_of (typed_len (any_key s)) (typed_len (any_value s)) (hash_of (any_hash s)), texts_of s fs) =
    λ i. (format_of (typed_len (texts i).key) (typed_len (texts i).value) (hash_of (same i)), texts i) in
    lengths ∙ ap (λ (F : Format). (F, texts_of s fs)) (format_is s)
