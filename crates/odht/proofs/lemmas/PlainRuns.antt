-- Inserts in turn into the plain table of an owned table.
use Rattle.std.proofs.Common.{◌≡◌, ◌∙◌, ◌++◌, ℕ, Bool, true, false, cond, List, [], ◌∷◌, Some, None, refl, sym, ap, subst, arith, length, length-append, bytes_eq}
use Rattle.std.specs.Prelude.{option_and_then}
use Rattle.std.specs.Option.{option_or}
use Rattle.odht_raw.specs.Words.{Format, IsImage, map_of, max_items, Pair, slot_count, Table}
use Rattle.odht_base.specs.Insert.{insert_owned, run}
use Rattle.odht_base.specs.Map.{last, overwritten}
use Rattle.odht_base.proofs.lemmas.FreshRuns.{insert_owned-PlacesBelow}
use Rattle.odht_base.proofs.lemmas.InsertRuns.{run-push, last-append, last-cons}
use Rattle.odht_base.proofs.lemmas.Options.{some_same}
use Rattle.odht_base.proofs.lemmas.TableInserts.{insert_owned-IsInsert}
use Rattle.odht.specs.Lists.{IsAfterInserts}
use Rattle.odht.specs.Plain.{HasMapWith, IsRunOf, KeepsSize}
use Rattle.odht.proofs.lemmas.ListInserts.{inserted_more}

module _ (F : Format) (P : Table) where
  -- none at first
  pub run_none : IsRunOf F P [] P
  run_none = record { runs = refl; maps = λ k. refl; stays = λ room. ((refl, refl), omega arith) }

  -- one insert keeps the size where there is room for a pair
  pub one_stays : (p : Pair) (Q : Table) (A B : List ℕ) → IsImage F P A → insert_owned F P p ≡ Some Q → IsImage F Q B → KeepsSize P 1 Q
  one_stays p Q A B before e after =
      let start : IsAfterInserts F (insert_owned F) P [] A = record { table = P; runs = refl; image = before; maps = λ k. refl; stays = λ room. ((refl, refl), omega arith) } in
      let more = inserted_more F (insert_owned F) (insert_owned-IsInsert F) (insert_owned-PlacesBelow F) P [] p A B start Q e after in
      let same : more.table ≡ Q = some_same more.table Q (sym more.runs ∙ ap (option_and_then (λ R. run (insert_owned F) R [])) e) in
      subst (KeepsSize P 1) same more.stays

  -- the same of the bytes afterwards
  pub run_bytes : (ps : List Pair) (Q : Table) (B : List ℕ) → IsRunOf F P ps Q → IsImage F Q B → IsAfterInserts F (insert_owned F) P ps B
  run_bytes ps Q B ran is = record { table = Q; runs = ran.runs; image = is; maps = ran.maps; stays = ran.stays }

  -- one more pair
  pub run_more : (ps : List Pair) (p : Pair) (Q R : Table) → IsRunOf F P ps Q → insert_owned F Q p ≡ Some R → HasMapWith Q p R → KeepsSize Q 1 R → IsRunOf F P (ps ++ p ∷ []) R
  run_more ps p Q R ran e maps stays = record {
    runs = run-push (insert_owned F) P ps p ∙ ap (option_and_then (λ T. insert_owned F T p)) ran.runs ∙ e;
    maps = λ k. (maps k ∙ over k (bytes_eq k p.key) refl);
    stays = stay;
  }
    where
      -- the last value of a key, by whether it is the last pair's
      latest : (k : List ℕ) (b : Bool) → bytes_eq k p.key ≡ b → last (ps ++ p ∷ []) k ≡ option_or (cond b (Some p.value) None) (last ps k)
      latest k b t = last-append ps (p ∷ []) k ∙ ap (λ o. option_or o (last ps k)) (last-cons p [] k ∙ ap (λ c. cond c (Some p.value) None) t)

      over : (k : List ℕ) (b : Bool) → bytes_eq k p.key ≡ b → cond (bytes_eq k p.key) (Some p.value) (map_of Q k) ≡ overwritten (map_of P) (last (ps ++ p ∷ [])) k
      over k true t = ap (λ c. cond c (Some p.value) (map_of Q k)) t ∙ sym (ap (λ o. option_or o (map_of P k)) (latest k true t))
      over k false t = ap (λ c. cond c (Some p.value) (map_of Q k)) t ∙ ran.maps k ∙ sym (ap (λ o. option_or o (map_of P k)) (latest k false t))

      stay : KeepsSize P (length (ps ++ p ∷ [])) R
      stay room =
          let long = length-append ps (p ∷ []) in
          let so_far = ran.stays (omega (arith, room, long)) in
          let most : max_items (slot_count Q) Q.factor ≡ max_items (slot_count P) P.factor = λ i. max_items (so_far.0.0 i) (so_far.0.1 i) in
          let one = stays (omega (arith, so_far.1, room, long, most)) in
          ((one.0.0 ∙ so_far.0.0, one.0.1 ∙ so_far.0.1), omega (arith, one.1, so_far.1, long))
