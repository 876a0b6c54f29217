use Rattle.std.proofs.Common.{rules, arith, ◌∙◌, ℕ, ◌+◌, ◌<◌, sym, ap, subst, refl, inl, true≢false, length, List}
use Rattle.odht_raw.proofs.lemmas.Below.{bit_and-slots, few_slots, position-Some}
use Rattle.odht_raw.specs.Words.{counts_as_free, Format, format_of, IsReport, slot_key}
use Rattle.odht_raw.specs.Reads.{read_entries, read_key}
use Rattle.odht_raw.specs.SearchEnds.{IsOtherAmong}
use Rattle.odht_raw.specs.SearchSteps.{EndsWithin, Passed}
use Rattle.odht_raw.specs.declared.raw_table.read_search.ReadPlace.{ReadPlace}
use Rattle.odht_raw.specs.declared.raw_table.search_result.Search.TheVariants.{Found, Free}
use Rattle.odht_raw.proofs.lemmas.GroupLooks.{taken-first, taken-next, taken-all, position-None, rising-rest, other-before, look_found, look_free, look_on}
use Rattle.odht_raw.proofs.raw_table.read_search.look_at_read.Given.{Over}
use Rattle.odht_raw.proofs.raw_table.read_search.look_at_read.Goals as goal
use Rattle.odht_raw.proofs.raw_table.read_search.look_at_read.Goals.{After-first_empty}

-- the format of the place's lengths
abbrev F : Over → ReadPlace → Format
F g p = format_of p.layout.key_len p.layout.value_len g.H.HashFn.hash

pub overflow_add-slot : goal.overflow_add-slot
overflow_add-slot g c =
    let few = few_slots c.args.place.now.slots c.requires.at.slots in
    let match = taken-first _ _ _ c.in-Some.index c.matches.invariant.part c.in-Some.ensures in
    let low = (c.of-group.ensures.matches.occupied c.in-Some.index match).0 in
    omega (arith, few, low, c.requires.len, c.requires.at.start)

pub matches-init : goal.matches-init
matches-init g c = record {
  rising = c.of-group.ensures.matches.rising;
  same = refl;
  part = record { part = λ i m. m; others = λ i m. inl m };
  taken = λ B h. record { part = λ i m. m; others = λ i m. inl m };
}

pub matches-preserved : goal.matches-preserved
matches-preserved g c =
    let masked = bit_and-slots (c.args.start + c.in-Some.index) c.args.place.now.slots c.requires.at.slots in
    record {
      rising = rising-rest _ _ c.drop_match.ensures.rest c.matches.invariant.rising;
      same = c.drop_match.ensures.free ∙ c.matches.invariant.same;
      part = taken-next _ _ _ _ c.in-Some.index c.matches.invariant.part c.in-Some.ensures c.drop_match.ensures.rest tt;
      taken = λ B h. taken-next _ _ _ _ c.in-Some.index (c.matches.invariant.taken B h) c.in-Some.ensures c.drop_match.ensures.rest
          (λ e. true≢false (sym ((c.in_ok-is_read_key.ensures.given B h).1 (ap (read_key c.args.place.now B) masked ∙ e)) ∙ c.if-branch.false));
    }

pub returns-then-branch : goal.returns-then-branch
returns-then-branch g c = record {
  given = λ B h. (
      let F : Format = F g c.args.place.now in
      let E = read_entries c.args.place.now B in
      let k : List ℕ = c.args.key.now in
      let report = subst (λ t. IsReport c.args.bytes.now t (g.Q.Group.matches c.of-group.result)) c.requires.at.tag.is c.of-group.ensures.matches in
      let match = taken-first _ _ _ c.in-Some.index c.matches.invariant.part c.in-Some.ensures in
      let masked = bit_and-slots (c.args.start + c.in-Some.index) c.args.place.now.slots c.requires.at.slots in
      let key = (c.in_ok-is_read_key.ensures.given B h).0 c.if-branch.true in
      record {
        slot = (
          c.in-Some.index,
          omega (arith, (report.occupied c.in-Some.index match).0, c.requires.len),
          masked,
          key,
          other-before F E c.args.bytes.now c.args.start k _ _ c.in-Some.index report (c.matches.invariant.taken B h) c.matches.invariant.rising c.in-Some.ensures,
        );
        none = search rules;
        on_placed = λ P p at. (
            let found = look_found F P E k p c.args.start c.args.bytes.now c.requires.at.format at _ report c.in-Some.index match (ap (slot_key F E.bytes) (sym masked) ∙ key) in
            (ap Found masked ∙ found.0, subst (EndsWithin F P k p) c.requires.len found.1));
      });
  failed = λ B h held. tt;
  found = search rules;
}

-- once all matches are taken no byte is the tag with the key in its slot
unmatched : (g : Over) (c : After-first_empty g) (B : List ℕ) → g.S.ReadAt.gives c.args.source.now B
    → IsOtherAmong (F g c.args.place.now) (read_entries c.args.place.now B) c.args.bytes.now c.args.start c.args.key.now (length c.args.bytes.now)
unmatched g c B h j l is same =
    let report = subst (λ t. IsReport c.args.bytes.now t (g.Q.Group.matches c.of-group.result)) c.requires.at.tag.is c.of-group.ensures.matches in
    taken-all _ _ _ (c.matches.invariant.taken B h) c.in_default.ensures j (report.complete j l is) same

pub returns-in-Some-first_empty : goal.returns-in-Some-first_empty
returns-in-Some-first_empty g c = record {
  given = λ B h. (
      let F : Format = F g c.args.place.now in
      let E = read_entries c.args.place.now B in
      let k : List ℕ = c.args.key.now in
      let report = subst (λ t. IsReport c.args.bytes.now t (g.Q.Group.matches c.of-group.result)) c.requires.at.tag.is c.of-group.ensures.matches in
      let first = sym (c.in-Some-first_empty.ensures ∙ c.matches.invariant.same ∙ c.of-group.ensures.free) in
      let q = position-Some counts_as_free c.args.bytes.now c.in-Some-first_empty.index 0 first in
      let masked = bit_and-slots (c.args.start + c.in-Some-first_empty.index) c.args.place.now.slots c.requires.at.slots in
      let at = (goal.at.returns-in-Some-first_empty g c).After-first_empty in
      record {
        slot = (c.in-Some-first_empty.index, omega (arith, q.0, c.requires.len), masked, q.1, λ j l. (q.2 j l, unmatched g at B h j (omega (arith, l, q.0))));
        none = search rules;
        on_placed = λ P p there. (
            let free = look_free F P E k p c.args.start c.args.bytes.now c.requires.at.format there _ report (taken-all _ _ _ (c.matches.invariant.taken B h) c.in_default.ensures) c.in-Some-first_empty.index first in
            (ap Free masked ∙ free.0, subst (EndsWithin F P k p) c.requires.len free.1));
      });
  failed = λ B h held. tt;
  found = search rules;
}

pub returns : goal.returns
returns g c = record {
  given = λ B h. (
      let F : Format = F g c.args.place.now in
      let E = read_entries c.args.place.now B in
      let k : List ℕ = c.args.key.now in
      let report = subst (λ t. IsReport c.args.bytes.now t (g.Q.Group.matches c.of-group.result)) c.requires.at.tag.is c.of-group.ensures.matches in
      let first = sym (c.in-None.ensures ∙ c.matches.invariant.same ∙ c.of-group.ensures.free) in
      let at = (goal.at.returns g c).After-first_empty in
      record {
        slot = tt;
        none = λ e i l. (
            let within : i < length c.args.bytes.now = omega (arith, l, c.requires.len) in
            (position-None counts_as_free c.args.bytes.now 0 first i within, unmatched g at B h i within));
        on_placed = λ P p there. subst (λ n. Passed F P k (p + n)) c.requires.len (look_on F P E k p c.args.start c.args.bytes.now c.requires.at.format there _ report (taken-all _ _ _ (c.matches.invariant.taken B h) c.in_default.ensures) first);
      });
  failed = λ B h held. tt;
  found = tt;
}
