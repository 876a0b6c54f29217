-- A table that grows while pairs are inserted into it, of keys and values that are bytes.
use Rattle.std.proofs.Common.{◌≡◌, ◌∙◌, ◌++◌, ℕ, sym, subst, List, [], ◌∷◌, Some}
use Rattle.std.proofs.lemmas.List.{map-append}
use Rattle.odht_base.specs.Format.{Format, format_of}
use Rattle.odht_base.specs.Insert.{insert_owned}
use Rattle.odht_base.specs.Table.{Pair, Table, fresh}
use Rattle.odht_base.specs.Valid.{IsImage}
use Rattle.odht_base.proofs.lemmas.Options.{some_same}
use Rattle.odht_header.specs.Coding.{Coding, encoded}
use Rattle.odht_raw.specs.DynParts.{bytes_coding}
use Rattle.odht.specs.Dynamic.{DynStore, dyn_coding, dyn_format}
use Rattle.odht.specs.Lists.{encoded_all}
use Rattle.odht.specs.Plain.{HasMapWith, IsRunOf, KeepsSize}
use Rattle.odht.proofs.lemmas.PlainRuns.{run_none, run_more, run_bytes}
use Rattle.odht_calls.specs.Builds.{IsGrownAfterInserts}

-- Q is the table that starts with sixteen slots at 87 percent, after the items are inserted
abbrev pub IsGrownTable : {K V : Type 0} → Coding K V → List (K × V) → Table → Type 0
IsGrownTable c items Q = (P : Table) → fresh 12 87 ≡ Some P → IsRunOf c.format P (encoded_all c items) Q

-- a new one has no pairs
pub none_grown : {K V : Type 0} (c : Coding K V) (Q : Table) → fresh 12 87 ≡ Some Q → IsGrownTable c [] Q
none_grown c Q start P new = subst (λ R. IsRunOf c.format R [] Q) (some_same Q P (sym start ∙ new)) (run_none c.format Q)

-- and one more pair
pub one_more_grown : (kl vl : ℕ) (h : List ℕ → ℕ) (t : DynStore Table) (items : List (List ℕ × List ℕ)) (k v : List ℕ) (R : Table) → t.key_len ≡ kl → t.value_len ≡ vl
    → IsGrownTable (bytes_coding (format_of kl vl h)) items t.store → insert_owned (dyn_format t h) t.store (encoded (dyn_coding t h) k v) ≡ Some R
    → HasMapWith t.store (encoded (dyn_coding t h) k v) R → KeepsSize t.store 1 R → IsGrownTable (bytes_coding (format_of kl vl h)) (items ++ (k, v) ∷ []) R
one_more_grown kl vl h t items k v R key value so_far one maps stays P new =
    let F : Format = format_of kl vl h in
    let c = bytes_coding F in
    let here : insert_owned F t.store (encoded c k v) ≡ Some R = subst (λ (G : Format). insert_owned G t.store (encoded c k v) ≡ Some R) (λ i. format_of (key i) (value i) h) one in
    let pairs : encoded_all c (items ++ (k, v) ∷ []) ≡ encoded_all c items ++ encoded c k v ∷ [] = map-append (λ (i : List ℕ × List ℕ). encoded c i.0 i.1) items ((k, v) ∷ []) in
    subst (λ (ps : List Pair). IsRunOf F P ps R) (sym pairs) (run_more F P (encoded_all c items) (encoded c k v) t.store R (so_far P new) here maps stays)

-- so much of its bytes
pub grown_bytes : {K V : Type 0} (c : Coding K V) (items : List (K × V)) (Q : Table) (B : List ℕ) → IsGrownTable c items Q → IsImage c.format Q B → IsGrownAfterInserts c items B
grown_bytes c items Q B grown is P new = run_bytes c.format P (encoded_all c items) Q B (grown P new) is
