-- The owned dynamic table. A contract sees it as its lengths and the
-- plain table whose image its bytes are.
--     IsDynWith kl vl S t  the table t has these lengths, and S holds of its store: its bytes, or its plain table
--     IsRejecting S r      r is a result of which S holds, with its error as a `Rejected`
use Rattle.std.specs.Prelude.{◌≡◌, ℕ, Result}
use Rattle.std.specs.Result.{result_map_both}
use Rattle.odht_raw.specs.Words.{Error}
use Rattle.odht.specs.declared.dynamic.DynError.{DynError}
use Rattle.odht.specs.declared.dynamic.DynError.TheVariants.{Rejected}
use Rattle.odht.specs.Dynamic.{DynStore}

pub record IsDynWith {D : Type 0} (kl vl : ℕ) (S : D → Type 0) (t : DynStore D) : Type 0 where
  pub key_len : t.key_len ≡ kl
  pub value_len : t.value_len ≡ vl
  pub store : S t.store

pub record IsRejecting {T : Type 0} (S : Result T Error → Type 0) (r : Result T DynError) : Type 0 where
  pub answer : Result T Error
  pub is : r ≡ result_map_both (λ t. t) Rejected answer
  pub holds : S answer
