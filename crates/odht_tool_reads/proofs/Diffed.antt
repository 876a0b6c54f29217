-- Two tables that are compared.
use Rattle.std.proofs.Common.{◌≡◌, ◌∙◌, ◌++◌, ◌∷◌, [], ◌==◌, ◌&&◌, ℕ, suc, Bool, true, false, true≢false, List, Option, Some, None, Ok, Err, Bor, All, IfSome, length, refl, sym, ap, arith}
use Rattle.std.specs.Prelude.{option_map}
use Rattle.std.specs.Option.{option_copied}
use Rattle.std.specs.Io.KnownBytes.{Appends}
use Rattle.std.proofs.lemmas.Bool.Decides.{Decides-eqb}
use Rattle.odht_base.specs.Decoded.{decoded_pairs}
use Rattle.odht_base.specs.Format.{Format, IsFormat, format_of}
use Rattle.odht_base.specs.Map.{value_in}
use Rattle.odht_base.specs.Table.{walk}
use Rattle.odht_base.specs.Valid.{IsValidBytes}
use Rattle.odht_base.proofs.lemmas.Pairs.{value_in-Some}
use Rattle.odht_raw.proofs.lemmas.Walks.{decoded_pairs-image}
use Rattle.odht_raw.specs.DynParts.{bytes_coding}
use Rattle.odht_header.specs.Coding.{value_for}
use Rattle.odht_tool_reads.specs.Diffs.{diff_of, pairs_diff, same_text, compared}
use Rattle.odht_tool_tables.specs.Wholes.{have_same_sizes}
use Rattle.odht_tool_tables.proofs.Formats.{format_is}
use Rattle.odht_tool_core.specs.AnyShapes.{any_format, any_hash, any_key, any_value}
use Rattle.odht_tool_core.specs.Endings.{IsDone, IsOutputFailure}
use Rattle.odht_tool_core.specs.ReadyShapes.{hash_of, typed_len}
use Rattle.odht_tool_core.specs.StoredTexts.{key_text, texts_of, value_text}
use Rattle.odht_tool_core.specs.declared.any.AnyShape.{AnyShape}
use Rattle.odht_tool_core.specs.declared.failure.Failure.{Failure}
use Rattle.odht_tool_core.specs.declared.forms.GivenForms.{GivenForms}
use Rattle.odht_tool_core.specs.declared.shapes.Hash.{Hash}
use Rattle.odht_tool_core.specs.declared.status.Status.TheVariants.{Done, NotDone}
use Rattle.odht_tool_core.specs.declared.typed.Texts.{Texts}

-- what leaves bytes as they are changes no value
same_option : (o : Option (List ℕ)) → option_map (λ (b : List ℕ). b) o ≡ o
same_option None = refl
same_option (Some b) = refl

module _ (F : Format) (f : IsFormat F) (B : List ℕ) (valid : IsValidBytes F B) where
  -- a lookup gives the value of the first pair with the key
  pub looked_up : (k : List ℕ) (o : Option (List ℕ)) → o ≡ value_for (bytes_coding F) valid.0 k → o ≡ value_in (decoded_pairs F B) k
  looked_up k o e = e ∙ same_option (value_in (walk valid.0) k) ∙ ap (λ ps. value_in ps k) (sym (decoded_pairs-image F valid.0 B f valid.1))

  -- which is as long as all values
  pub value_fits : (k v : List ℕ) → value_in (decoded_pairs F B) k ≡ Some v → length v ≡ F.value_len
  value_fits k v e =
      let h = value_in-Some valid.0.cells k v (ap (λ ps. value_in ps k) (sym (decoded_pairs-image F valid.0 B f valid.1)) ∙ e) in
      ap length (sym h.4) ∙ (valid.1.valid.placed.pairs h.0 h.1 h.2).value.len

-- a value that is found is as long as those of the table
pub found_fits : (o : Option (Bor (List ℕ))) (m : Option (List ℕ)) (n : ℕ) → option_copied o ≡ m → ((v : List ℕ) → m ≡ Some v → length v ≡ n) → IfSome o (λ v. length v.now ≡ n)
found_fits None m n e h = tt
found_fits (Some v) m n e h = h v.now (sym e)

-- what holds of each of a list holds of the first, and of each of the others
pub all_head : {X : Type 0} (P : X → Type 0) (x : X) (xs : List X) → All P (x ∷ xs) → P x
all_head P x xs h = h 0 x (omega arith)

pub all_tail : {X : Type 0} (P : X → Type 0) (x : X) (xs : List X) → All P (x ∷ xs) → All P xs
all_tail P x xs h k d less = h (suc k) d (omega (arith, less))

not_zero : (n : ℕ) → (suc n == 0) ≡ false
not_zero n = go (suc n == 0) refl
  where
    go : (b : Bool) → (suc n == 0) ≡ b → (suc n == 0) ≡ false
    go true e = let same = (Decides-eqb (suc n) 0).0 e in absurd (omega arith)
    go false e = e

-- lines of two parts are none exactly where those of both are
pub no_lines : (a b : List ℕ) → (length (a ++ b) == 0) ≡ ((length a == 0) && (length b == 0))
no_lines [] b = refl
no_lines (x ∷ a) b = not_zero (length (a ++ b)) ∙ sym (ap (λ t. t && (length b == 0)) (not_zero (length a)))

-- where there are none it is said whether the bytes are the same
pub compared_same : (A B lines : List ℕ) (old new : Option (List ℕ)) → (length lines == 0) ≡ true → Appends old new (lines ++ same_text A B) → IsDone (compared A B lines) old new (Ok Done)
compared_same A B [] old new e written = (refl, written)
compared_same A B (b ∷ lines) old new e written = absurd (true≢false (sym e ∙ not_zero (length lines)))

-- else they are all
pub compared_lines : (A B lines : List ℕ) (old new : Option (List ℕ)) → (length lines == 0) ≡ false → Appends old new lines → IsDone (compared A B lines) old new (Ok NotDone)
compared_lines A B [] old new e written = absurd (true≢false e)
compared_lines A B (b ∷ lines) old new e written = (refl, written)

-- unless the writer fails
pub compared_failed : (A B lines : List ℕ) (old new : Option (List ℕ)) (f : Failure) → IsOutputFailure f → IsDone (compared A B lines) old new (Err f)
compared_failed A B [] old new f is = is
compared_failed A B (b ∷ lines) old new f is = is

-- ---- of the shapes of two files
both : (a b : Bool) → (a && b) ≡ true → (a ≡ true) × (b ≡ true)
both true true e = (refl, refl)
both true false e = cc
both false b e = cc

-- keys and values are as long
same_sizes : (s u : AnyShape) → have_same_sizes s u ≡ true → (typed_len (any_key s) ≡ typed_len (any_key u)) × (typed_len (any_value s) ≡ typed_len (any_value u))
same_sizes s u e =
    let parts = both (typed_len (any_key s) == typed_len (any_key u)) (typed_len (any_value s) == typed_len (any_value u)) e in
    ((Decides-eqb (typed_len (any_key s)) (typed_len (any_key u))).0 parts.0, (Decides-eqb (typed_len (any_value s)) (typed_len (any_value u))).0 parts.1)

-- what is told of tables of these lengths is told of these shapes
pub compared_of : (s u : AnyShape) (fs : GivenForms) (A B : List ℕ) (t : Texts) (h k : Hash) → t ≡ texts_of s fs → any_hash s ≡ h → any_hash u ≡ k → have_same_sizes s u ≡ true
    → pairs_diff (key_text t) (value_text t) A B (decoded_pairs (format_of (typed_len t.key) (typed_len t.value) (hash_of h)) A) (decoded_pairs (format_of (typed_len t.key) (typed_len t.value) (hash_of k)) B)
    ≡ diff_of s fs A u B
compared_of s u fs A B t h k texts first second sizes =
    let T : Texts = texts_of s fs in
    let first' = sym first in
    let second' = sym second in
    let lens = same_sizes s u sizes in
    let beside : format_of (typed_len (any_key s)) (typed_len (any_value s)) (hash_of (any_hash u)) ≡ any_format u =
    (λ i. format_of (lens.0 i) (lens.1 i) (hash_of (any_hash u))) ∙ format_is u in
    (λ i. pairs_diff (key_text (texts i)) (value_text (texts i)) A B (decoded_pairs (format_of (typed_len (texts i).key) (typed_len (texts i).value) (hash_of (first' i))) A)
    (decoded_pairs (format_of (typed_len (texts i).key) (typed_len (texts i).value) (hash_of (second' i))) B))
    ∙ (λ i. pairs_diff (key_text T) (value_text T) A B (decoded_pairs (format_is s i) A) (decoded_pairs (beside i) B))
