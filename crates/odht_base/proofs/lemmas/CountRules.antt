-- Both rules of inserts make the same tables, but where a pair overwrites in a full table.
use Rattle.std.proofs.Common.{◌≡◌, ◌∙◌, ◌++◌, ℕ, Bool, true, false, true≢false, cond, sym, ap, refl, List, [], ◌∷◌, Option, Some, None, IfSome, bytes_eq, All}
use Rattle.std.specs.Prelude.{is_none, option_and_then, IsSome, IsTrue, ◌&&◌}
use Rattle.std.specs.Option.{option_or}
use Rattle.std.proofs.lemmas.List.Elements.{All-head, All-tail}
use Rattle.std.proofs.lemmas.Option.{none-some}
use Rattle.odht_base.specs.CountRule.{insert_owned_by_count, insert_view_by_count, OverwritesFull, NoneOverwritesFull}
use Rattle.odht_base.specs.Format.{Format}
use Rattle.odht_base.specs.Insert.{place, grown, run, is_full, insert_owned, insert_view}
use Rattle.odht_base.specs.Map.{map_of, value_in, KeysApart}
use Rattle.odht_base.specs.Table.{Pair, Table, walk}
use Rattle.odht_base.specs.Valid.{IsPairOf, IsValid}
use Rattle.odht_base.proofs.lemmas.Grown.{AreNew, new-head, new-tail}
use Rattle.odht_base.proofs.lemmas.Keys.{same_bytes}
use Rattle.odht_base.proofs.lemmas.Pairs.{value_in-cons}
use Rattle.odht_base.proofs.lemmas.InsertRuns.{IsInsert, value_in-append}

-- ---- one insert
-- a test of the key does not matter where no pair overwrites in a full table
same_branch : {X : Type 0} (b : Bool) (o : Option (List ℕ)) (x y : X) → (IsTrue b × IsSome o → ⊥) → cond (b && is_none o) x y ≡ cond b x y
same_branch true None x y other = refl
same_branch true (Some v) x y other = absurd (other (refl, refl))
same_branch false o x y other = refl

-- two inserts agree where no pair overwrites in a full table
abbrev pub AgreeElsewhere : (Table → Pair → Option Table) → (Table → Pair → Option Table) → Type 0
AgreeElsewhere insert by_count = (P : Table) (p : Pair) → (OverwritesFull P p → ⊥) → insert P p ≡ by_count P p

-- those of the owned table
pub insert_owned-agrees : (F : Format) → AgreeElsewhere (insert_owned F) (insert_owned_by_count F)
unfolding insert_owned
insert_owned-agrees F P p other = same_branch (is_full P) (map_of P p.key) (option_and_then (λ Q. place F Q p) (grown F P)) (place F P p) other

-- and those of a view
pub insert_view-agrees : (F : Format) → AgreeElsewhere (insert_view F) (insert_view_by_count F)
unfolding insert_view
insert_view-agrees F P p other = same_branch (is_full P) (map_of P p.key) None (place F P p) other

-- ---- inserts in turn
-- a list of which no pair does so makes the same table
pub run-agrees : (insert by_count : Table → Pair → Option Table) → AgreeElsewhere insert by_count → (P : Table) (ps : List Pair) → NoneOverwritesFull insert P ps → run insert P ps ≡ run by_count P ps
run-agrees insert by_count agree P [] none = refl
run-agrees insert by_count agree P (p ∷ ps) none = go (insert P p) none.1 (λ Q. run-agrees insert by_count agree Q ps) ∙ ap (option_and_then (λ Q. run by_count Q ps)) (agree P p none.0)
  where
    go : (o : Option Table) → IfSome o (λ Q. NoneOverwritesFull insert Q ps) → ((Q : Table) → NoneOverwritesFull insert Q ps → run insert Q ps ≡ run by_count Q ps)
        → option_and_then (λ Q. run insert Q ps) o ≡ option_and_then (λ Q. run by_count Q ps) o
    go None rest ih = refl
    go (Some Q) rest ih = ih Q rest

-- ---- different keys, none of them in the table
-- of lists whose keys are all different, the second has no key of the first
apart-new : (qs ps : List Pair) → KeysApart (qs ++ ps) → KeysApart ps × ((k v : List ℕ) → value_in ps k ≡ Some v → value_in qs k ≡ None)
apart-new [] ps apart = (apart, λ k v e. refl)
apart-new (q ∷ qs) ps apart =
    let rest = apart-new qs ps apart.1 in
    (rest.0, λ k v e. value_in-cons q qs k ∙ go rest.1 k v e (bytes_eq k q.key) refl)
  where
    -- of two answers with none between them the second is none
    neither : (a b : Option (List ℕ)) (v : List ℕ) → option_or a b ≡ None → b ≡ Some v → ⊥
    neither None b v e h = none-some v (sym e ∙ h)
    neither (Some w) b v e h = none-some w (sym e)

    go : ((k v : List ℕ) → value_in ps k ≡ Some v → value_in qs k ≡ None) → (k v : List ℕ) → value_in ps k ≡ Some v → (b : Bool) → bytes_eq k q.key ≡ b → cond b (Some q.value) (value_in qs k) ≡ None
    go rest k v e true t =
        let same = same_bytes k q.key t in
        absurd (neither (value_in qs q.key) (value_in ps q.key) v (sym (value_in-append qs ps q.key) ∙ apart.0) (ap (value_in ps) (sym same) ∙ e))
    go rest k v e false t = rest k v e

-- such pairs never overwrite
module _ (F : Format) (insert : Table → Pair → Option Table) (is : IsInsert F (IsValid F) insert) where
  new-none_overwrite : (P : Table) (ps : List Pair) → IsValid F P → All (IsPairOf F) ps → KeysApart ps → AreNew P ps → NoneOverwritesFull insert P ps
  new-none_overwrite P [] ok fit apart new = tt
  new-none_overwrite P (p ∷ ps) ok fit apart new = (
    (λ both. absent (map_of P p.key) (new-head P p ps new) both.1),
    go (insert P p) refl (λ Q e. new-none_overwrite Q ps (is.keeps P Q p ok (All-head (IsPairOf F) p ps fit) e) (All-tail (IsPairOf F) p ps fit) apart.1 (new-tail P Q p ps apart new (is.maps P Q p ok e))),
  )
    where
      absent : (o : Option (List ℕ)) → o ≡ None → IsSome o → ⊥
      absent None e some = true≢false (sym some)
      absent (Some v) e some = none-some v (sym e)

      go : (o : Option Table) → insert P p ≡ o → ((Q : Table) → insert P p ≡ Some Q → NoneOverwritesFull insert Q ps) → IfSome o (λ Q. NoneOverwritesFull insert Q ps)
      go None answer ih = tt
      go (Some Q) answer ih = ih Q answer

  -- so both rules make the same table of them
  pub run-apart : (by_count : Table → Pair → Option Table) → AgreeElsewhere insert by_count → (P : Table) (ps : List Pair) → IsValid F P → All (IsPairOf F) ps → KeysApart (walk P ++ ps)
      → run insert P ps ≡ run by_count P ps
  run-apart by_count agree P ps ok fit apart =
      let new = apart-new (walk P) ps apart in
      run-agrees insert by_count agree P ps (new-none_overwrite P ps ok fit new.0 new.1)
