use Rattle.std.proofs.Common.{◌≡◌, ◌∙◌, ap, subst, Bor, List, ℕ, Option}
use Rattle.std.specs.Option.{option_copied}
use Rattle.odht_raw.specs.Words.{map_of, Table}
use Rattle.odht.specs.Dynamic.{DynStore}
use Rattle.odht.proofs.lemmas.DynPlain.{same_value, value_of_length}
use Rattle.odht.proofs.dynamic.owned.DynTableOwned.get_counted.Goals as goal

pub returns-clause-value : goal.returns-clause-value
returns-clause-value g c =
    subst (λ (t : DynStore Table). option_copied c.get_counted.result.0 ≡ map_of t.store c.args.key.now) c.self.view_is
    (value_of_length _ _ _ c.self.invariant.image _ _
    (λ same. (c.get_counted.ensures.counted same).on_valid _ c.self.invariant.image ∙ same_value _)
    (λ other. ap (λ (r : Option (Bor (List ℕ)) × ℕ). option_copied r.0) (c.get_counted.ensures.other other)))
