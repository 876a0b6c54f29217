-- The tables that `rebuild` makes, and their failures.
use Rattle.std.proofs.Common.{◌≡◌, ◌≤◌, ◌∙◌, ◌++◌, ℕ, length, false, List, [], ◌∷◌, Option, Some, None, Result, Ok, Err, sym, ap, refl, subst, arith}
use Rattle.std.specs.Prelude.{IfErr, IfOk, OnOk, is_err}
use Rattle.std.specs.Option.{option_or}
use Rattle.odht_base.specs.Decoded.{header_count}
use Rattle.odht_base.specs.Format.{Format, format_of}
use Rattle.odht_base.specs.Insert.{insert_owned}
use Rattle.odht_base.specs.Load.{max_items, factor_of}
use Rattle.odht_base.specs.Map.{map_of}
use Rattle.odht_base.specs.Table.{Pair, Table, count, slot_count, fresh, walk}
use Rattle.odht_base.specs.Valid.{IsPlaced, IsValidBytes}
use Rattle.odht_base.proofs.lemmas.DistinctKeys.{last-apart, walk-KeysApart}
use Rattle.odht_base.proofs.lemmas.Fits.{IsSized-IsPlaced}
use Rattle.odht_base.proofs.lemmas.Image.{length-image}
use Rattle.odht_base.proofs.lemmas.FreeSlots.{fresh-slots, slot_count-empty, count-fresh, map_of-fresh, max_items-holds}
use Rattle.odht_header.specs.Refusals.{check_refusal_by}
use Rattle.odht_header.specs.Coding.{encoded}
use Rattle.odht.specs.Dynamic.{DynStore, dyn_coding, dyn_format, dyn_store}
use Rattle.odht.specs.Lists.{IsAfterInserts}
use Rattle.odht.specs.Plain.{HasMapWith, IsRunOf, KeepsSize}
use Rattle.odht.specs.declared.dynamic.DynError.{DynError}
use Rattle.odht.proofs.lemmas.PlainRuns.{run_more}
use Rattle.odht_tool_tables.proofs.Formats.{format_is}
use Rattle.odht_tool_writes.specs.Rebuilds.{IsNewFailure, IsRebuilt, IsLateFailure, IsRebuildFailure, is_failure, new_hash, rebuild_refusal, refusal_of_hash, refusal_of_shape, refused_by, rehashed}
use Rattle.odht_tool_core.specs.AnyShapes.{any_format, any_hash, any_key, any_value, found_any}
use Rattle.odht_tool_core.specs.InfoNumbers.{least_key_len}
use Rattle.odht_tool_core.specs.ReadyShapes.{hash_of, typed_len}
use Rattle.odht_tool_core.specs.declared.any.AnyShape.{AnyShape}
use Rattle.odht_tool_core.specs.declared.failure.Failure.{Failure}
use Rattle.odht_tool_core.specs.declared.shapes.Hash.{Hash}

-- a table has its header
pub long_valid : (F : Format) (B : List ℕ) → IsValidBytes F B → 32 ≤ length B
long_valid F B h = omega (arith, ap length h.1.bytes ∙ length-image F h.0 (IsSized-IsPlaced F h.0 h.1.valid.placed))

-- a value, or else none
pub or_none : {X : Type 0} (o : Option X) → option_or o None ≡ o
or_none None = refl
or_none (Some x) = refl

-- the fresh table for the pairs of a placed one, after these are inserted, has its map, and has not grown
pub made_anew : (F G : Format) (percent : ℕ) (P start : Table) (B : List ℕ) → IsPlaced G P → fresh (count P) percent ≡ Some start
    → IsAfterInserts F (insert_owned F) start (walk P) B → IsRebuilt F percent P B
made_anew F G percent P start B placed new inserted =
    let s = fresh-slots (count P) percent start new in
    let holds = max_items-holds (count P) s.0 (factor_of percent) s.1.holds in
    let none = count-fresh (count P) percent start new in
    let slots : slot_count start ≡ s.0 = ap slot_count (sym s.2) ∙ slot_count-empty s.0 (factor_of percent) in
    let factor : start.factor ≡ factor_of percent = ap (λ (Q : Table). Q.factor) (sym s.2) in
    let most : max_items (slot_count start) start.factor ≡ max_items s.0 (factor_of percent) = λ i. max_items (slots i) (factor i) in
    record {
      start = start;
      new = new;
      inserted = inserted;
      never_grown = (inserted.stays (omega (arith, holds, none, most))).0;
      same_map = λ k. (
          inserted.maps k
          ∙ ap (λ o. option_or o (map_of start k)) (last-apart (walk P) (walk-KeysApart G P placed) k)
          ∙ ap (option_or (map_of P k)) (map_of-fresh (count P) percent start new k)
          ∙ or_none (map_of P k));
    }

-- ---- one more pair
-- an insert that was accepted, into a table of the lengths of another
pub one_inserted : (h : List ℕ → ℕ) (before t t' : DynStore Table) → t ≡ dyn_store before.key_len before.value_len t.store → (ps : List Pair) (k v : List ℕ)
    → (r : Result (Option (List ℕ)) DynError) (o : Option (List ℕ)) → r ≡ Ok o → (let F = dyn_format before h in IsRunOf F before.store ps t.store)
    → OnOk r (insert_owned (dyn_format t h) t.store (encoded (dyn_coding t h) k v) ≡ Some t'.store) → OnOk r (HasMapWith t.store (encoded (dyn_coding t h) k v) t'.store)
    → OnOk r (KeepsSize t.store 1 t'.store) → (let F = dyn_format before h in IsRunOf F before.store (ps ++ record { key = k; value = v } ∷ []) t'.store)
one_inserted h before t t' same ps k v (Err x) o was so_far inserted maps stays = absurd cc
one_inserted h before t t' same ps k v (Ok x) o was so_far inserted maps stays =
    let formats : dyn_format t h ≡ dyn_format before h = ap (λ (s : DynStore Table). dyn_format s h) same in
    let p : Pair = record { key = k; value = v } in
    run_more (dyn_format before h) before.store ps p t.store t'.store so_far (subst (λ (X : Format). insert_owned X t.store p ≡ Some t'.store) formats inserted) maps stays

-- a result that is no error is a value
pub ok_of : {X E : Type 0} (r : Result X E) → is_err r ≡ false → (x : X) × (r ≡ Ok x)
ok_of (Ok x) e = (x, refl)
ok_of (Err x) e = cc

-- ---- formats and failures
-- the lengths of a shape with its hash function, and with that of the new table
pub both_formats : (s : AnyShape) (k v : ℕ) (t u hash : Hash) → k ≡ typed_len (any_key s) → v ≡ typed_len (any_value s) → any_hash s ≡ t → hash ≡ u
    → ◌≡◌ {A = Format × (Hash × Format)} (format_of k v (hash_of t), (u, format_of k v (hash_of u))) (any_format s, (hash, rehashed (any_format s) hash))
both_formats s k v t u hash key value old new =
    let old' = sym old in
    let new' = sym new in
    let both : ◌≡◌ {A = Format × (Hash × Format)} (format_of k v (hash_of t), (u, format_of k v (hash_of u)))
    (format_of (typed_len (any_key s)) (typed_len (any_value s)) (hash_of (any_hash s)), (hash, format_of (typed_len (any_key s)) (typed_len (any_value s)) (hash_of hash))) =
    λ i. (format_of (key i) (value i) (hash_of (old' i)), (new' i, format_of (key i) (value i) (hash_of (new' i)))) in
    both ∙ ap (λ (F : Format). (F, (hash, rehashed F hash))) (format_is s)

-- what holds of each failure
pub on_failure : {X : Type 0} (r : Result X Failure) (S T : Failure → Type 0) → ((f : Failure) → S f → T f) → IfErr r S → IfErr r T
on_failure (Ok x) S T f h = tt
on_failure (Err e) S T f h = f e h

-- and of each value
pub on_value : {X : Type 0} (r : Result X Failure) (S T : X → Type 0) → ((x : X) → S x → T x) → IfOk r S → IfOk r T
on_value (Ok x) S T f h = f x h
on_value (Err e) S T f h = tt

-- a failure of a new table, where nothing failed before
pub late_failure : (B : List ℕ) (h : Option Hash) (o : Option ℕ) (percent : ℕ) (s : AnyShape) (t : Hash) → found_any B None ≡ Ok s → new_hash B s h ≡ Ok t
    → check_refusal_by (any_format s) o B ≡ None → (f : Failure) → IsNewFailure (least_key_len t) (rehashed (any_format s) t) (header_count B) percent f → IsRebuildFailure B h o percent f
late_failure B h o percent s t found named checked f fails =
    let refusal : rebuild_refusal B h o ≡ None =
    ap (refusal_of_shape B h o) found ∙ ap (λ r. refusal_of_hash r (refused_by (check_refusal_by (any_format s) o B))) named ∙ ap refused_by checked in
    subst (λ r. is_failure r (IsLateFailure B h percent) f) (sym refusal) (s, t, found, named, fails)
