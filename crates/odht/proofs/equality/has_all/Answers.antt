use Rattle.std.proofs.Common.{refl, ℕ, List, ◌∷◌, map, ◌∙◌, ◌≡◌, sym, ap, subst, Some}
use Rattle.std.proofs.lemmas.List.Elements.{All-nil, All-cons, All-head, All-tail}
use Rattle.odht_raw.specs.Words.{Format, format_of, IsPartsOf, map_of, Pair, Table}
use Rattle.odht_raw.specs.Walks.{Item, stored}
use Rattle.odht.specs.Equality.{HasAll}
use Rattle.odht.proofs.lemmas.SameMaps.{Holds, not_true, absent_value, other_value, same_value, value_long}
use Rattle.odht.proofs.equality.has_all.Given.{Over}
use Rattle.odht.proofs.equality.has_all.Goals.{After-find}
use Rattle.odht.proofs.equality.has_all.Goals as goal

abbrev format : Over → Format
format g = format_of g.K.ByteArray.LEN g.V.ByteArray.LEN g.H.HashFn.hash

abbrev pair : (g : Over) → Item g.row.K.Denot g.row.V.Denot → Pair
pair g = stored g.K.ByteArray.bytes g.V.ByteArray.bytes

abbrev here : (g : Over) → After-find g → Item g.row.K.Denot g.row.V.Denot
here g c = (c.in-Some.field-0-0, c.in-Some.entry)

-- the items that were left are this one and those behind it
left : (g : Over) (c : After-find g) → map (pair g) c.loop-entry.entry-iterator ≡ pair g (here g c) ∷ map (pair g) c.next.new.self
left g c = ap (map (pair g)) c.in-Some.ensures.steps

-- so a table that has all items has this one
head : (g : Over) (c : After-find g) (Q : Table) → IsPartsOf (format g) Q c.args.table.now.entries.bytes c.args.table.now.control
    → HasAll Q (map (pair g) c.args.walk) → Holds Q (pair g (here g c))
head g c Q parts all =
    let begun : HasAll Q (map (pair g) c.into_iter-entry-iterator.result) = subst (λ xs. HasAll Q (map (pair g) xs)) (sym c.into_iter-entry-iterator.ensures.into_iter_gives) all in
    let there : HasAll Q (pair g (here g c) ∷ map (pair g) c.next.new.self) = subst (HasAll Q) (left g c) (c.loop-entry.invariant.left Q parts begun) in
    All-head (Holds Q) (pair g (here g c)) (map (pair g) c.next.new.self) there

pub returns-in_default : goal.returns-in_default
returns-in_default g c Q parts =
    let at = (goal.at.returns-in_default g c).After-find in
    (λ t. absurd (not_true t), λ all. absurd (absent_value g.V.ByteArray.of_bytes Q (pair g (here g at)) (c.in_default.ensures.on_placed Q parts) (head g at Q parts all)))

pub returns-then-not-equals : goal.returns-then-not-equals
returns-then-not-equals g c Q parts =
    let at = (goal.at.returns-then-not-equals g c).After-find in
    let kept = ap g.V.ByteArray.bytes (g.met.V.ByteArray.determined c.in-Some.entry.value) in
    let differs : g.V.ByteArray.bytes c.in-Some-find.value ≡ g.V.ByteArray.bytes c.in-Some.entry.value → ⊥ = λ e. not_true (sym c.if-not-equals.true ∙ c.equals.ensures.1 e) in
    (λ t. absurd (not_true t), λ all. absurd (other_value g.V.ByteArray.of_bytes g.V.ByteArray.bytes Q (pair g (here g at)) c.in-Some-find.value (c.in-Some-find.ensures.on_placed Q parts) kept differs (head g at Q parts all)))

pub loop-entry-preserved : goal.loop-entry-preserved
loop-entry-preserved g c =
    let at = (goal.at.loop-entry-preserved g c).After-find in
    let p = pair g (here g at) in
    let rest = map (pair g) c.next.new.self in
    record {
      left = λ Q parts all. All-tail (Holds Q) p rest (subst (HasAll Q) (left g at) (c.loop-entry.invariant.left Q parts all));
      whole = λ Q parts later. (
          let kept : (w : List ℕ) → map_of Q p.key ≡ Some w → g.V.ByteArray.bytes (g.V.ByteArray.of_bytes w) ≡ w = λ w e. g.met.V.ByteArray.kept w (value_long (format g) Q parts.placed p.key w e) in
          let same = same_value g.V.ByteArray.of_bytes g.V.ByteArray.bytes Q p c.in-Some-find.value (c.in-Some-find.ensures.on_placed Q parts) kept (c.equals.ensures.0 c.if-not-equals.false) in
          c.loop-entry.invariant.whole Q parts (subst (HasAll Q) (sym (left g at)) (All-cons (Holds Q) p rest same later)));
    }

pub returns : goal.returns
returns g c Q parts =
    let pairs = map (pair g) in
    let none : HasAll Q (pairs c.loop-entry.entry-iterator) = subst (λ xs. HasAll Q (pairs xs)) (sym c.in-None.ensures.steps.0) (All-nil (Holds Q)) in
    (λ t. subst (λ xs. HasAll Q (pairs xs)) c.into_iter-entry-iterator.ensures.into_iter_gives (c.loop-entry.invariant.whole Q parts none), λ all. refl)
