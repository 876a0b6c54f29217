-- A table of lengths that are known only at run time, at the front of longer bytes B.
--     IsDynCut F B t front rest  t has the lengths of the format F; front and rest are B in turn, and front is a table of
--                          this format, by its header and its length
--     dyn_front_refusal ml F B   the error of opening the table at the front of B: a key length below ml, then those of
--                          such a table
--     stated_front_refusal ml h B  the same of the lengths that the header of B states, and of the hash h: the errors of
--                          header and length come first
use Rattle.std.specs.Prelude.{◌≡◌, ℕ, nat_lt, List, Option, option_map}
use Rattle.std.specs.Bool.{then_some}
use Rattle.std.specs.Option.{option_or}
use Rattle.odht_raw.specs.Words.{Format, prefix_refusal}
use Rattle.odht_raw.specs.Prefixes.{IsCut, front_refusal}
use Rattle.odht.specs.Dynamic.{DynStore, stated_format}
use Rattle.odht.specs.declared.dynamic.DynError.{DynError}
use Rattle.odht.specs.declared.dynamic.DynError.TheVariants.{KeyTooShort, Rejected}

pub record IsDynCut {D : Type 0} (F : Format) (B : List ℕ) (t : DynStore D) (front rest : List ℕ) : Type 0 where
  pub key : t.key_len ≡ F.key_len
  pub value : t.value_len ≡ F.value_len
  pub cut : IsCut F B front rest

abbrev pub dyn_front_refusal : ℕ → Format → List ℕ → Option DynError
dyn_front_refusal ml F B = option_or (then_some (nat_lt F.key_len ml) (KeyTooShort F.key_len ml)) (option_map Rejected (front_refusal F B))

abbrev pub stated_front_refusal : ℕ → (List ℕ → ℕ) → List ℕ → Option DynError
stated_front_refusal ml h B = option_or (option_map Rejected (prefix_refusal (stated_format h B) B)) (dyn_front_refusal ml (stated_format h B) B)
