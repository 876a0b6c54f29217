-- The tables that `delete` makes.
use Rattle.std.proofs.Common.{◌≡◌, ◌≤◌, ◌∙◌, ◌++◌, ◌||◌, ℕ, suc, Bool, true, false, cond, IsTrue, List, [], ◌∷◌, Option, Some, None, Result, Ok, Err, sym, ap, refl, arith, length, subst, bytes_eq, append-nil}
use Rattle.std.specs.Prelude.{◌↔◌, not, is_some, IfErr, IsSome, MatchResult, OnErr}
use Rattle.std.specs.Option.{option_or}
use Rattle.std.proofs.lemmas.List.Elements.{filter-append}
use Rattle.odht_base.specs.Format.{Format, format_of}
use Rattle.odht_base.specs.Insert.{insert_owned}
use Rattle.odht_base.specs.Load.{max_items}
use Rattle.odht_base.specs.Map.{KeysApart, map_of, value_in}
use Rattle.odht_base.specs.Table.{Pair, Table, fresh, slot_count, walk}
use Rattle.odht_base.specs.Valid.{IsImage, IsValid}
use Rattle.odht_base.proofs.lemmas.DistinctKeys.{last-apart, walk-KeysApart}
use Rattle.odht_base.proofs.lemmas.FreeSlots.{count-empty, map_of-empty, map_of-fresh, slot_count-empty}
use Rattle.odht_base.proofs.lemmas.Keys.{same_bytes}
use Rattle.odht_base.proofs.lemmas.Pairs.{value_in-cons}
use Rattle.odht.specs.Lists.{IsAfterInserts}
use Rattle.odht.specs.Plain.{HasMapWith}
use Rattle.odht.proofs.lemmas.NewRefusals.{default_fits}
use Rattle.odht_tool_writes.specs.DeleteLines.{IsDeletedBy, IsFailureBy, are_named, is_named_fault}
use Rattle.odht_tool_writes.specs.Deletes.{AreNamed, IsDeleted, IsLeft, are_keys, cleared, is_among, is_fault, without}
use Rattle.odht_tool_writes.specs.Rebuilds.{IsNewFailure}
use Rattle.odht_tool_tables.specs.Wholes.{asked_whole}
use Rattle.odht_tool_core.specs.AnyShapes.{any_format, any_hash, any_key, any_value}
use Rattle.odht_tool_core.specs.Forms.{bytes_form}
use Rattle.odht_tool_core.specs.DynTexts.{IsDynamicOf}
use Rattle.odht_tool_core.specs.ReadyShapes.{hash_of, typed_len}
use Rattle.odht_tool_core.specs.declared.any.AnyShape.{AnyShape}
use Rattle.odht_tool_core.specs.declared.arguments.Keys.{Keys}
use Rattle.odht_tool_core.specs.declared.arguments.Keys.TheVariants.{Words, Lines}
use Rattle.odht_tool_core.specs.declared.failure.Failure.{Failure}
use Rattle.odht_tool_core.specs.declared.failure.Failure.TheVariants.{Read, Write, Obstacle, NoTable, Folder, Beside, Refused, ShortKeys, NoHash, OtherKey, OtherValue, UnknownKey, UnknownValue, PastEnd, Forged, Input, Line, Output, Memory, Misread}
use Rattle.odht_tool_core.specs.declared.forms.Form.{Form}
use Rattle.odht_tool_core.specs.declared.forms.GivenForms.{GivenForms}
use Rattle.odht_tool_core.specs.declared.forms.Kinds.{Kinds}
use Rattle.odht_tool_core.specs.declared.shapes.Hash.{Hash}
use Rattle.odht_tool_core.specs.declared.status.Status.{Status}
use Rattle.odht_tool_writes.proofs.AbsentKeys.{is_there}
use Rattle.odht_tool_tables.proofs.Lines.{AllZip-length}
use Rattle.odht_tool_tables.proofs.Formats.{format_is}
use Rattle.odht_tool_writes.proofs.NewTables.{or_none}

-- ---- the pairs that are left
module _ (ks : List (List ℕ)) where
  -- a key has its value among them, except the keys ks
  pub value_in-without : (ps : List Pair) (k : List ℕ) → value_in (without ks ps) k ≡ cond (is_among ks k) None (value_in ps k)
  value_in-without [] k = go (is_among ks k)
    where
      go : (b : Bool) → ◌≡◌ {A = Option (List ℕ)} None (cond b None None)
      go true = refl
      go false = refl
  value_in-without (p ∷ ps) k =
      go (is_among ks p.key) refl (bytes_eq k p.key) refl (value_in-without ps k) ∙ ap (λ o. cond (is_among ks k) None o) (sym (value_in-cons p ps k))
    where
      among : (a : Bool) → is_among ks p.key ≡ a → bytes_eq k p.key ≡ true → is_among ks k ≡ a
      among a e same = ap (is_among ks) (same_bytes k p.key same) ∙ e

      front : (b : Bool) → bytes_eq k p.key ≡ b → value_in (p ∷ without ks ps) k ≡ cond b (Some p.value) (value_in (without ks ps) k)
      front b e = value_in-cons p (without ks ps) k ∙ ap (λ c. cond c (Some p.value) (value_in (without ks ps) k)) e

      go : (a : Bool) → is_among ks p.key ≡ a → (b : Bool) → bytes_eq k p.key ≡ b → value_in (without ks ps) k ≡ cond (is_among ks k) None (value_in ps k)
          → value_in (cond (not a) (p ∷ without ks ps) (without ks ps)) k ≡ cond (is_among ks k) None (cond b (Some p.value) (value_in ps k))
      go true e true same rest =
          rest ∙ ap (λ c. cond c None (value_in ps k)) (among true e same) ∙ sym (ap (λ c. cond c None (Some p.value)) (among true e same))
      go true e false other rest = rest
      go false e true same rest = front true same ∙ sym (ap (λ c. cond c None (Some p.value)) (among false e same))
      go false e false other rest = front false other ∙ rest

  -- of different keys they have different keys
  pub KeysApart-without : (ps : List Pair) → KeysApart ps → KeysApart (without ks ps)
  KeysApart-without [] apart = tt
  KeysApart-without (p ∷ ps) apart = go (is_among ks p.key) refl (KeysApart-without ps apart.1)
    where
      go : (b : Bool) → is_among ks p.key ≡ b → KeysApart (without ks ps) → KeysApart (cond (not b) (p ∷ without ks ps) (without ks ps))
      go true e rest = rest
      go false e rest = (value_in-without ps p.key ∙ ap (λ c. cond c None (value_in ps p.key)) e ∙ apart.0, rest)

  -- and they are no more
  pub length-without : (ps : List Pair) → length (without ks ps) ≤ length ps
  length-without [] = omega arith
  length-without (p ∷ ps) = go (is_among ks p.key) (length-without ps)
    where
      go : (b : Bool) → length (without ks ps) ≤ length ps → length (cond (not b) (p ∷ without ks ps) (without ks ps)) ≤ suc (length ps)
      go true few = omega arith
      go false few = omega arith

  -- one more pair, of one of the keys, or of another
  pub without-named : (ps : List Pair) (p : Pair) → is_among ks p.key ≡ true → without ks (ps ++ p ∷ []) ≡ without ks ps
  without-named ps p e =
      filter-append (λ (q : Pair). not (is_among ks q.key)) ps (p ∷ [])
      ∙ ap (λ b. without ks ps ++ cond (not b) (p ∷ []) []) e
      ∙ append-nil (without ks ps)

  pub without-other : (ps : List Pair) (p : Pair) → is_among ks p.key ≡ false → without ks (ps ++ p ∷ []) ≡ without ks ps ++ p ∷ []
  without-other ps p e =
      filter-append (λ (q : Pair). not (is_among ks q.key)) ps (p ∷ [])
      ∙ ap (λ b. without ks ps ++ cond (not b) (p ∷ []) []) e

-- ---- the new table
pub deleted_from : (F : Format) (ks : List (List ℕ)) (P : Table) (B : List ℕ) → IsValid F P
    → IsAfterInserts F (insert_owned F) (cleared P) (without ks (walk P)) B → IsDeleted F ks P B
deleted_from F ks P B valid inserted =
    let slots = slot_count-empty (slot_count P) P.factor in
    let none = count-empty (slot_count P) P.factor in
    let few = length-without ks (walk P) in
    let most : max_items (slot_count (cleared P)) P.factor ≡ max_items (slot_count P) P.factor = ap (λ s. max_items s P.factor) slots in
    let stays = inserted.stays (omega (arith, valid.room, none, few, most)) in
    let apart = KeysApart-without ks (walk P) (walk-KeysApart F P valid.placed) in
    record {
      inserted = inserted;
      never_grown = (stays.0.0 ∙ slots, stays.0.1);
      maps = λ k. (
          inserted.maps k
          ∙ ap (λ o. option_or o (map_of (cleared P) k)) (last-apart (without ks (walk P)) apart k)
          ∙ ap (option_or (value_in (without ks (walk P)) k)) (map_of-empty (slot_count P) P.factor k)
          ∙ or_none (value_in (without ks (walk P)) k)
          ∙ value_in-without ks (walk P) k);
    }

-- ---- the table of the keys
-- one key more
is_among-push : (ks : List (List ℕ)) (k q : List ℕ) → is_among (ks ++ k ∷ []) q ≡ (is_among ks q || bytes_eq q k)
is_among-push [] k q = go (bytes_eq q k)
  where
    go : (b : Bool) → (b || false) ≡ b
    go true = refl
    go false = refl
is_among-push (x ∷ ks) k q = go (bytes_eq q x) (is_among-push ks k q)
  where
    go : (b : Bool) → is_among (ks ++ k ∷ []) q ≡ (is_among ks q || bytes_eq q k) → (b || is_among (ks ++ k ∷ []) q) ≡ ((b || is_among ks q) || bytes_eq q k)
    go true rest = refl
    go false rest = rest

-- a fresh table has none
pub named_none : (P : Table) → fresh 12 87 ≡ Some P → AreNamed [] P
named_none P new k = ap is_some (map_of-fresh 12 87 P new k)

-- an insert adds its key
pub named_more : (P Q : Table) (ks : List (List ℕ)) (k : List ℕ) → AreNamed ks P → HasMapWith P (record { key = k; value = [] }) Q → AreNamed (ks ++ k ∷ []) Q
named_more P Q ks k named maps q =
    ap is_some (maps q) ∙ go (map_of P q) (bytes_eq q k) ∙ ap (λ b. b || bytes_eq q k) (named q) ∙ sym (is_among-push ks k q)
  where
    go : (o : Option (List ℕ)) (b : Bool) → is_some (cond b (Some []) o) ≡ (is_some o || b)
    go None true = refl
    go None false = refl
    go (Some v) true = refl
    go (Some v) false = refl

-- whether a key is one of them
pub known : (ks : List (List ℕ)) (P : Table) (k : List ℕ) (b : Bool) → AreNamed ks P → (IsTrue b ↔ IsSome (map_of P k)) → is_among ks k ≡ b
known ks P k b named is = sym (named k) ∙ is_there (map_of P k) b is

-- ---- failures
-- a table for few items fails for want of memory alone
pub memory_alone : {X : Type 0} (r : Result X Failure) (ml : ℕ) (F : Format) → ml ≤ F.key_len → F.key_len ≤ 255 → F.value_len ≤ 255 → IfErr r (IsNewFailure ml F 12 87) → OnErr r (r ≡ Err Memory)
memory_alone {X = X} (Ok x) ml F long key value h = tt
memory_alone {X = X} (Err failure) ml F long key value h = go failure h
  where
    go : (f : Failure) → IsNewFailure ml F 12 87 f → ◌≡◌ {A = Result X Failure} (Err f) (Err Memory)
    go (ShortKeys k) h = absurd (omega (arith, long, h.0))
    go (Refused error) h = absurd (default_fits F key value h.1)
    go Memory h = refl
    go (Read e) h = absurd h
    go (Write e) h = absurd h
    go (Obstacle o) h = absurd h
    go NoTable h = absurd h
    go (Folder e) h = absurd h
    go (Beside name) h = absurd h
    go (NoHash k v) h = absurd h
    go (OtherKey p) h = absurd h
    go (OtherValue p) h = absurd h
    go (UnknownKey n) h = absurd h
    go (UnknownValue n) h = absurd h
    go (PastEnd o n) h = absurd h
    go Forged h = absurd h
    go (Input e) h = absurd h
    go (Line n f) h = absurd h
    go (Output e) h = absurd h
    go (Misread m) h = absurd h

-- ---- the keys of the words
-- there are as many as words
pub as_many : (f : Form) (ws : List (List ℕ)) (s : AnyShape) (ks : List (List ℕ)) → are_keys f ws s ks → length ws ≡ length ks
as_many f ws s ks are = AllZip-length (IsDynamicOf (bytes_form f (any_key s))) ws ks are

-- ---- of a file
-- the format of a shape
pub format_as : (s : AnyShape) (k v : ℕ) (t : Hash) → k ≡ typed_len (any_key s) → v ≡ typed_len (any_value s) → any_hash s ≡ t → format_of k v (hash_of t) ≡ any_format s
format_as s k v t key value hash =
    let hash' = sym hash in
    let lengths : format_of k v (hash_of t) ≡ format_of (typed_len (any_key s)) (typed_len (any_value s)) (hash_of (any_hash s)) = λ i. format_of (key i) (value i) (hash_of (hash' i)) in
    lengths ∙ format_is s

-- what is left of a table in which no rule is broken, for the keys that are named
pub deleted_of : (B : List ℕ) (h : Option Hash) (ks : Kinds) (o : Option ℕ) (input : Option (List ℕ)) (named : Keys) (s : AnyShape) (forms : GivenForms)
    → asked_whole B h ks o ≡ Ok (s, forms) → (P : Table) → IsImage (any_format s) P B → (ws keys : List (List ℕ)) → are_named forms.key input s ws keys named
    → (B' : List ℕ) (status : Status) → IsLeft (any_format s) keys P B' status → IsDeletedBy B h ks o input B' status named
deleted_of B h ks o input named s forms whole P image ws keys texts B' status left = record {
  shape = s;
  forms = forms;
  whole = whole;
  table = P;
  image = image;
  words = ws;
  keys = keys;
  texts = texts;
  left = left;
}

-- a failure of keys, or of memory, where nothing failed before
pub failed_later : (B : List ℕ) (h : Option Hash) (ks : Kinds) (o : Option ℕ) (input : Option (List ℕ)) (named : Keys) (s : AnyShape) (forms : GivenForms)
    → asked_whole B h ks o ≡ Ok (s, forms) → (f : Failure) → is_named_fault forms.key input s f named → IsFailureBy B h ks o input f named
failed_later B h ks o input named s forms found f fault =
    subst (λ r. MatchResult r (λ x. is_named_fault x.1.key input x.0 f named) (λ e. f ≡ e)) (sym found) fault

-- or that of the shape, or the first rule that the bytes break
pub failed_whole : (B : List ℕ) (h : Option Hash) (ks : Kinds) (o : Option ℕ) (input : Option (List ℕ)) (named : Keys) (f : Failure) → asked_whole B h ks o ≡ Err f → IsFailureBy B h ks o input f named
failed_whole B h ks o input named f found =
    subst (λ r. MatchResult r (λ x. is_named_fault x.1.key input x.0 f named) (λ e. f ≡ e)) (sym found) refl

-- no memory is a failure of keys that are named so
pub no_memory_named : (f : Form) (input : Option (List ℕ)) (s : AnyShape) (named : Keys) → is_named_fault f input s Memory named
no_memory_named f input s (Words words) = tt
no_memory_named f input s Lines = tt

-- no memory is a failure of keys
pub no_memory : (f : Form) (ws : List (List ℕ)) (s : AnyShape) → is_fault f ws s Memory
no_memory f ws s = tt

-- what holds of the failure of no memory holds where there is no other
pub failed_memory : {X : Type 0} (r : Result X Failure) (S : Failure → Type 0) → S Memory → OnErr r (r ≡ Err Memory) → IfErr r S
failed_memory (Ok x) S s e = tt
failed_memory {X = X} (Err f) S s e = subst S (sym (same_error f e)) s
  where
    same_error : (f : Failure) → ◌≡◌ {A = Result X Failure} (Err f) (Err Memory) → f ≡ Memory
    same_error f e = cc
