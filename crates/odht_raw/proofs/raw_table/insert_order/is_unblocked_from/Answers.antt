use Rattle.std.proofs.Common.{◌≡◌, ◌∙◌, ◌+◌, ◌*◌, ◌/◌, ◌%◌, ◌^◌, ◌↔◌, sym, subst, refl, arith, IsTrue}
use Rattle.std.proofs.lemmas.List.Elements.{All-set}
use Rattle.odht_raw.specs.Waiting.{IsFrontier, IsUnblocked}
use Rattle.odht_raw.specs.declared.raw_table.insert_order.Frontier.{Frontier}
use Rattle.odht_raw.proofs.lemmas.Frontiers.{frontier_home}
use Rattle.odht_raw.proofs.raw_table.insert_order.is_unblocked_from.Goals.{Joined-frontier-home, then-frontier-home, else-frontier-home}
use Rattle.odht_raw.proofs.raw_table.insert_order.is_unblocked_from.Goals as goal

-- the frontier that is kept is that of the home, or else a new one
module _ (c : Joined-frontier-home) where
  abbrev IsBegun : Frontier → Type 0
  IsBegun f = IsFrontier c.args.slots.now (c.args.mask + 1) f.home f.base f.position × (f.home ≡ c.args.home)

  begun : IsBegun c.if-frontier-home.frontier
  begun = elim c.if-frontier-home.branch [
    | then-frontier-home w ↦
        subst IsBegun (sym (w.frontier-is ∙ w.at-frontier.ensures)) (frontier_home c.args.slots.now c.args.mask c.args.home c.requires.slots c.requires.home, refl)
    | else-frontier-home w ↦
        subst IsBegun (sym w.frontier-is)
        (c.requires.frontiers (c.args.home * 11400714819323198485 % 2 ^ 64 / 2 ^ 58) (record { home = 0; base = 0; position = 0 }) (omega (arith, c.told-frontiers)), w.if-frontier-home.false)
  ]

pub is_unblocked-result-requires-clause-frontier : goal.is_unblocked-result-requires-clause-frontier
is_unblocked-result-requires-clause-frontier c = (begun (goal.at.is_unblocked-result-requires-clause-frontier c).Joined-frontier-home).0

pub returns-clause-frontiers : goal.returns-clause-frontiers
returns-clause-frontiers c =
    All-set (λ (f : Frontier). IsFrontier c.args.slots.now (c.args.mask + 1) f.home f.base f.position) _ _ _ c.is_unblocked-result.ensures.frontier c.requires.frontiers

pub returns-clause-unblocked : goal.returns-clause-unblocked
returns-clause-unblocked c =
    subst (λ h. IsTrue c.is_unblocked-result.result ↔ IsUnblocked c.args.slots.now h (c.args.mask + 1) c.args.slot)
    (begun (goal.at.returns-clause-unblocked c).Joined-frontier-home).1 c.is_unblocked-result.ensures.unblocked
