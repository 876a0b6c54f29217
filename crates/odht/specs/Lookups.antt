-- Lookups of many keys in the parts T of a table, each of them a first look and the search that continues it.
--     IsFirstLookAt c T ks i l     l is the first look of the search for key i of ks
--     IsLookup c T k o        o is the result of the lookup of the key k: in a placed table the value for k, and in any
--                             parts only one that is stored with this very key
--     IsLookupAt c T ks i o   o is the result of the lookup of key i of ks
--     ManyLookups K V S       lookups of keys, whose results go to places of the type S: `put s i o` is s after the result
--                             o was put at index i
--     lookups_of c T ks put   the lookups of the keys ks in the parts T, whose results go to places by `put`
--     ArePut l s s' n         s' is s after the results of the first n of the lookups l were put, each at its index
--     PutsOn l s s' n m       where s is after the results of the first n, s' is after those of the first m
--     HaveStored c B ks os    each value of os is stored in the bytes B with the key of ks at its index
use Rattle.std.specs.Prelude.{◌≡◌, ℕ, zero, suc, List, Option, Some, IfSome, slice_get}
use Rattle.odht_raw.specs.Words.{Coding, IsPartsOf, Table, value_for}
use Rattle.odht_header.specs.Coding.{HasStored}
use Rattle.odht_raw.specs.FirstLooks.{FirstLookOf, first_look_of}
use Rattle.odht_raw.specs.Parts.{TableParts}
use Rattle.odht_raw.specs.SearchEnds.{IsBesideKey}

abbrev pub IsFirstLookAt : {K V : Type 0} → Coding K V → TableParts → List K → ℕ → FirstLookOf → Type 0
IsFirstLookAt {K = K} c T ks i l = (k : K) → slice_get ks i ≡ Some k → l ≡ first_look_of c.format T (c.key_bytes k)

pub record IsLookup {K V : Type 0} (c : Coding K V) (T : TableParts) (k : K) (o : Option V) : Type 0 where
  pub on_placed : (P : Table) → IsPartsOf c.format P T.entries.bytes T.control → o ≡ value_for c P k
  pub on_any : IfSome o (IsBesideKey c.format c.value_of T.entries (c.key_bytes k))

abbrev pub IsLookupAt : {K V : Type 0} → Coding K V → TableParts → List K → ℕ → Option V → Type 0
IsLookupAt {K = K} c T ks i o = (k : K) → slice_get ks i ≡ Some k → IsLookup c T k o

pub record ManyLookups (K V S : Type 0) : Type 0 where
  pub coding : Coding K V
  pub parts : TableParts
  pub keys : List K
  pub put : S → ℕ → Option V → S

abbrev pub lookups_of : {K V S : Type 0} → Coding K V → TableParts → List K → (S → ℕ → Option V → S) → ManyLookups K V S
lookups_of c T ks put = record { coding = c; parts = T; keys = ks; put = put }

abbrev pub ArePut : {K V S : Type 0} → ManyLookups K V S → S → S → ℕ → Type 0
ArePut l s s' zero = s' ≡ s
ArePut {V = V} {S = S} l s s' (suc n) =
    (r : S) × (o : Option V) × ArePut l s r n × IsLookupAt l.coding l.parts l.keys n o × (s' ≡ l.put r n o)

abbrev pub PutsOn : {K V S : Type 0} → ManyLookups K V S → S → S → ℕ → ℕ → Type 0
PutsOn {S = S} l s s' n m = (first : S) → ArePut l first s n → ArePut l first s' m

abbrev pub HaveStored : {K V : Type 0} → Coding K V → List ℕ → List K → List (Option V) → Type 0
HaveStored {K = K} {V = V} c B ks os =
    (i : ℕ) (k : K) (v : V) → slice_get ks i ≡ Some k → slice_get os i ≡ Some (Some v) → HasStored c B k v
