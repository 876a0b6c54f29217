-- Pairs that are inserted in turn into an owned table whose lengths are known only at run time.
use Rattle.std.proofs.Common.{◌≡◌, ◌∙◌, List, [], ◌∷◌, ◌++◌, ℕ, Some, sym, ap, subst, refl}
use Rattle.std.proofs.lemmas.List.{map-append}
use Rattle.odht_base.specs.Format.{Format}
use Rattle.odht_base.specs.Insert.{insert_owned}
use Rattle.odht_base.specs.Table.{Pair, Table}
use Rattle.odht_header.specs.Coding.{encoded}
use Rattle.odht.specs.Dynamic.{DynStore, dyn_coding, dyn_format, dyn_store}
use Rattle.odht.specs.Lists.{encoded_all}
use Rattle.odht.specs.Plain.{HasMapWith, IsRunOf, KeepsSize}
use Rattle.odht.proofs.lemmas.PlainRuns.{run_none, run_more}
use Rattle.odht_tool_writes.specs.Inserted.{AreInserted, IsAfterRun}

module _ (h : List ℕ → ℕ) where
  -- the table `after` is `before` with these pairs
  pub record AreRun (before after : DynStore Table) (items : List (List ℕ × List ℕ)) : Type 0 where
    pub lengths : after ≡ dyn_store before.key_len before.value_len after.store
    pub ran : IsRunOf (dyn_format before h) before.store (encoded_all (dyn_coding before h) items) after.store

  -- none at first
  pub none_run : (t : DynStore Table) → AreRun t t []
  none_run t = record { lengths = refl; ran = run_none (dyn_format t h) t.store }

  -- and one more
  pub more_run : (before t t' : DynStore Table) (items : List (List ℕ × List ℕ)) (k v : List ℕ) → AreRun before t items
      → insert_owned (dyn_format t h) t.store (encoded (dyn_coding t h) k v) ≡ Some t'.store → HasMapWith t.store (encoded (dyn_coding t h) k v) t'.store → KeepsSize t.store 1 t'.store
      → t' ≡ dyn_store t.key_len t.value_len t'.store → AreRun before t' (items ++ ((k, v) ∷ []))
  more_run before t t' items k v so_far one maps stays same =
      let c = dyn_coding before h in
      let F = dyn_format before h in
      let lengths : dyn_store t.key_len t.value_len t'.store ≡ dyn_store before.key_len before.value_len t'.store = ap (λ (s : DynStore Table). dyn_store s.key_len s.value_len t'.store) so_far.lengths in
      let formats : dyn_format t h ≡ F = ap (λ (s : DynStore Table). dyn_format s h) so_far.lengths in
      let here : insert_owned F t.store (encoded c k v) ≡ Some t'.store = subst (λ (X : Format). insert_owned X t.store (encoded c k v) ≡ Some t'.store) formats one in
      let pairs : encoded_all c (items ++ ((k, v) ∷ [])) ≡ encoded_all c items ++ (encoded c k v ∷ []) = map-append (λ (i : List ℕ × List ℕ). encoded c i.0 i.1) items ((k, v) ∷ []) in
      record {
        lengths = same ∙ lengths;
        ran = subst (λ (ps : List Pair). IsRunOf F before.store ps t'.store) (sym pairs) (run_more F before.store (encoded_all c items) (encoded c k v) t.store t'.store so_far.ran here maps stays);
      }

  -- so they are inserted
  pub run_inserted : (before after : DynStore Table) (items : List (List ℕ × List ℕ)) → AreRun before after items
      → AreInserted (dyn_coding before h) (λ P. before.store ≡ P) items (λ P. after.store ≡ P)
  run_inserted before after items done P same =
      subst (λ (Q : Table). IsAfterRun (dyn_format before h) Q (encoded_all (dyn_coding before h) items) (λ R. after.store ≡ R)) same
      (record { table = after.store; runs = done.ran.runs; holds = refl; maps = done.ran.maps; stays = done.ran.stays })
