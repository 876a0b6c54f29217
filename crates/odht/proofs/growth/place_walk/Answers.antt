use Rattle.std.proofs.Common.{List, ◌∷◌, All, ◌∙◌, ◌≡◌, sym, ap, subst, Some}
use Rattle.std.proofs.lemmas.List.Elements.{All-head, All-tail}
use Rattle.odht_raw.specs.Words.{Format, format_of, IsPartsOf, Pair, place_all}
use Rattle.odht_base.proofs.lemmas.Options.{some_same}
use Rattle.odht_raw.specs.DynParts.{HasLengthsOf}
use Rattle.odht_raw.specs.PartsInserts.{ArePartsPlaced}
use Rattle.odht.specs.Growths.{IsPlacing}
use Rattle.odht.proofs.lemmas.Growths.{accepted_holds, all_new, LeadsTo, leads_new, leads_fits, leads_on}
use Rattle.odht.proofs.growth.place_walk.Given.{Over}
use Rattle.odht.proofs.growth.place_walk.Goals.{In-Some}
use Rattle.odht.proofs.growth.place_walk.Goals as goal

pub loop-key-init : goal.loop-key-init
loop-key-init g c = record {
  fitting = subst (All (HasLengthsOf (g.L.Lengths.key_len c.args.lengths) (g.L.Lengths.value_len c.args.lengths))) (sym c.into_iter-key-iterator.ensures.into_iter_gives) c.requires.lengths;
  placed = λ P Q placing parts. record { table = P; parts = parts; apart = placing.apart; new = all_new P _ placing.new; placed = placing.placed };
}

-- the pair that comes next has the lengths of the table
next_fits : (g : Over) (c : In-Some g) → HasLengthsOf (g.L.Lengths.key_len c.args.lengths) (g.L.Lengths.value_len c.args.lengths) (record { key = c.in-Some.key.now; value = c.in-Some.value.now })
next_fits g c =
    let lengths : Pair → Type 0 = HasLengthsOf (g.L.Lengths.key_len c.args.lengths) (g.L.Lengths.value_len c.args.lengths) in
    let here : Pair = record { key = c.in-Some.key.now; value = c.in-Some.value.now } in
    All-head lengths here c.next.new.self (subst (All lengths) c.in-Some.ensures.steps c.loop-key.invariant.fitting)

pub write_new-requires-clause-key : goal.write_new-requires-clause-key
write_new-requires-clause-key g c = (next_fits g (goal.at.write_new-requires-clause-key g c).In-Some).key

pub write_new-requires-clause-value : goal.write_new-requires-clause-value
write_new-requires-clause-value g c = (next_fits g (goal.at.write_new-requires-clause-value g c).In-Some).value

pub loop-key-preserved : goal.loop-key-preserved
loop-key-preserved g c =
    let F : Format = format_of (g.L.Lengths.key_len c.args.lengths) (g.L.Lengths.value_len c.args.lengths) g.H.HashFn.hash in
    let lengths : Pair → Type 0 = HasLengthsOf (g.L.Lengths.key_len c.args.lengths) (g.L.Lengths.value_len c.args.lengths) in
    let here : Pair = record { key = c.in-Some.key.now; value = c.in-Some.value.now } in
    let left : List Pair = c.next.new.self in
    let es = c.loop-key.entries in
    let ctrl = c.loop-key.control in
    let es' = c.write_new.new.entries in
    let ctrl' = c.write_new.new.control in
    let written = c.write_new.ensures in
    record {
      fitting = All-tail lengths here left (subst (All lengths) c.in-Some.ensures.steps c.loop-key.invariant.fitting);
      placed = λ P Q placing parts. (
          let at : LeadsTo F Q (here ∷ left) es ctrl = subst (λ xs. LeadsTo F Q xs es ctrl) c.in-Some.ensures.steps (c.loop-key.invariant.placed P Q placing parts) in
          let fresh = leads_new F Q here left es ctrl at in
          let fits = leads_fits F Q here left es ctrl at in
          let insert = accepted_holds (ArePartsPlaced F at.table here es' ctrl') c.write_new.result written.change.errors.only_full
          (λ full. fits ((written.placed at.table at.parts fresh).full.0 full)) (written.placed at.table at.parts fresh).ok in
          leads_on F Q here left es ctrl at _ _ insert);
    }

pub returns : goal.returns
returns g c P Q placing parts =
    let F : Format = format_of (g.L.Lengths.key_len c.args.lengths) (g.L.Lengths.value_len c.args.lengths) g.H.HashFn.hash in
    let same = c.into_iter-key-iterator.ensures.into_iter_gives in
    let h = c.loop-key.invariant.placed P Q (subst (λ xs. IsPlacing F P xs Q) (sym same) placing) parts in
    let end : Some h.table ≡ Some Q = ap (place_all F h.table) (sym c.in-None.ensures.steps.0) ∙ h.placed in
    subst (λ R. IsPartsOf F R c.loop-key.entries c.loop-key.control) (some_same h.table Q end) h.parts
