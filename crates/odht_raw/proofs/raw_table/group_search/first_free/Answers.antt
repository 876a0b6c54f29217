use Rattle.std.proofs.Common.{◌-◌, ◌∙◌, ℕ, inl, sym, subst, length}
use Rattle.odht_base.proofs.lemmas.SlotCounts.{bit_and-slots}
use Rattle.odht_raw.specs.Frame.{CountsAsFree}
use Rattle.odht_raw.proofs.lemmas.FreeSearches.{first_at_home}
use Rattle.odht_raw.proofs.raw_table.group_search.first_free.Goals as goal

pub returns-then-is_empty_or_deleted : goal.returns-then-is_empty_or_deleted
returns-then-is_empty_or_deleted g c =
    let s : ℕ = length c.args.control.now - 16 in
    let home = bit_and-slots c.args.hash s c.requires in
    rw home (first_at_home c.args.control.now c.args.hash s c.requires (subst (CountsAsFree c.args.control.now) home (inl (sym c.is_empty_or_deleted.ensures ∙ c.if-is_empty_or_deleted.true))))
