use Rattle.std.proofs.Common.{◌≡◌, ◌∙◌, ◌<◌, ℕ, List, Option, Some, None, sym, ap, subst, true≢false}
use Rattle.std.specs.Prelude.{◌↔◌, option_map, IfSome, IsSome, IsTrue}
use Rattle.std.specs.Option.{is_some}
use Rattle.odht_raw.specs.Parts.{TableParts}
use Rattle.odht_raw.specs.Words.{entries_of, Format, format_of, header_slots, map_of, slot_key}
use Rattle.odht_base.specs.Decoded.{HoldsKey}
use Rattle.odht_raw.specs.Parts.{EntryBytes}
use Rattle.odht_raw.specs.SearchEnds.{IsBesideKey}
use Rattle.odht.proofs.hash_table.HashTable.contains_key.Goals as goal

-- a mapped option is Some exactly where the option is
there : {V : Type 0} (f : List ℕ → V) (m : Option (List ℕ)) → IsTrue (is_some (option_map f m)) ↔ IsSome m
there f None = (λ h. h, λ h. h)
there f (Some b) = (λ h. h, λ h. h)

-- and where it is a value that is stored with the key, the bytes hold the key
held : {V : Type 0} (F : Format) (B : List ℕ) (f : List ℕ → V) (E : EntryBytes) (k : List ℕ) (r : Option V)
    → E.bytes ≡ entries_of F B → E.slots ≡ header_slots B → IfSome r (IsBesideKey F f E k) → IsTrue (is_some r)
    → HoldsKey F B k
held F B f E k None entries slots h t = absurd (true≢false (sym t))
held F B f E k (Some v) entries slots h t =
    (h.0, subst (λ n. h.0 < n) slots h.1, ap (λ e. slot_key F e h.0) (sym entries) ∙ h.2)

pub returns : goal.returns
returns g c =
    let key = g.C.EncodedKey.ByteArray in
    let f = g.C.EncodedValue.ByteArray.of_bytes in
    let F = format_of key.LEN g.C.EncodedValue.ByteArray.LEN g.C.H.HashFn.hash in
    let B = g.D.ByteStore.bytes c.args.self.now in
    let found = c.find_counted_by-value.ensures in
    record {
      on_valid = λ P is.
          let m = map_of P (key.bytes (g.C.Config.encode_key c.args.key.now)) in
          let same = found.on_placed P (c.as_raw-table.ensures.parts P is) ∙ ap (λ a. option_map f (map_of P (key.bytes a))) c.encode_key-key.ensures in
          subst (λ b. IsTrue b ↔ IsSome m) (sym (c.is_some.ensures ∙ ap is_some same)) (there f m);
      on_any = λ t.
          subst (λ a. HoldsKey F B (key.bytes a)) c.encode_key-key.ensures
          (held F B f _ _ c.find_counted_by-value.result.0 (ap (λ (T : TableParts). T.entries.bytes) c.as_raw-table.ensures.bytes) (ap (λ (T : TableParts). T.entries.slots) c.as_raw-table.ensures.bytes) found.on_any (subst IsTrue c.is_some.ensures t));
    }
