-- Answers that are there or not.
use Rattle.std.proofs.Common.{◌≡◌, refl, Option, Some, None, option_and_then}
use Rattle.std.proofs.lemmas.Option.{none-some}
use Rattle.std.specs.Option.{option_or}

-- one answer is one value
pub some_same : {X : Type 0} (x y : X) → Some x ≡ Some y → x ≡ y
some_same x y e = cc

-- an answer of two steps is that of the second at that of the first
pub and_then_some : {X Y : Type 0} (f : X → Option Y) (o : Option X) (y : Y) → option_and_then f o ≡ Some y → (x : X) × (o ≡ Some x) × (f x ≡ Some y)
and_then_some f None y e = absurd (none-some y e)
and_then_some f (Some x) y e = (x, refl, e)

-- a missing second answer changes nothing
pub option_or-none_right : {X : Type 0} (o : Option X) → option_or o None ≡ o
option_or-none_right None = refl
option_or-none_right (Some x) = refl
