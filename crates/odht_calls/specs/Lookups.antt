-- What the answer o of a lookup, None or Some value, leaves in the arrays of the caller.
--     with_found vs i o   the values vs after the answer o of key i: its value at i, or where there is none vs itself
--     flag_of o           what says whether the key was found: 1 or 0
use Rattle.std.specs.Prelude.{ℕ, List, Option, Some, None, set}

abbrev pub with_found : {V : Type 0} → List V → ℕ → Option V → List V
with_found vs i None = vs
with_found vs i (Some v) = set vs i v

abbrev pub flag_of : {V : Type 0} → Option V → ℕ
flag_of None = 0
flag_of (Some v) = 1
