use Rattle.std.proofs.Common.{rules, arith, ◌∙◌, ℕ, ◌+◌, ◌-◌, ◌<◌, sym, ap, subst, refl, inl, true≢false, bit_and, length, List}
use Rattle.odht_raw.proofs.lemmas.Below.{bit_and-slots, few_slots, position-Some}
use Rattle.odht_raw.specs.Words.{counts_as_free, Format, IsReport, slot_key}
use Rattle.odht_raw.specs.Parts.{hashed_by}
use Rattle.odht_raw.specs.SearchEnds.{IsOtherAmong}
use Rattle.odht_raw.specs.SearchSteps.{EndsWithin, Passed}
use Rattle.odht_raw.specs.declared.raw_table.search_result.Search.TheVariants.{Found, Free}
use Rattle.odht_raw.proofs.lemmas.GroupLooks.{taken-first, taken-next, taken-all, position-None, rising-rest, other-before, look_found, look_free, look_on}
use Rattle.odht_raw.specs.Stored.{stored_format}
use Rattle.odht_raw.proofs.raw_table.group_search.search_piece.Given.{Over}
use Rattle.odht_raw.proofs.raw_table.group_search.search_piece.Goals as goal
use Rattle.odht_raw.proofs.raw_table.group_search.search_piece.Goals.{After-first_empty}

pub overflow_add-slot : goal.overflow_add-slot
overflow_add-slot g c =
    let few = few_slots c.args.stored.now.entries.slots c.requires.slots in
    let match = taken-first _ _ _ c.in-Some.index c.matches.invariant.taken c.in-Some.ensures in
    let low = (c.of-group.ensures.matches.occupied c.in-Some.index match).0 in
    let n = c.requires.len in
    let l = c.requires.start in
    search rules

pub returns-then-has_key : goal.returns-then-has_key
returns-then-has_key g c =
    let F : Format = hashed_by g.H.HashFn.hash (stored_format c.args.stored.now) in
    let k : List ℕ = c.args.key.now in
    let report = subst (λ h. IsReport c.args.bytes.now h (g.Q.Group.matches c.of-group.result)) c.requires.tag.is c.of-group.ensures.matches in
    let match = taken-first _ _ _ c.in-Some.index c.matches.invariant.taken c.in-Some.ensures in
    let masked = ap (λ n. bit_and (c.args.start + c.in-Some.index) (n - 1)) c.slots-mask.ensures ∙ bit_and-slots (c.args.start + c.in-Some.index) c.args.stored.now.entries.slots c.requires.slots in
    let key = c.has_key.ensures.0 c.if-has_key.true in
    record {
      slot = (
        c.in-Some.index,
        omega (arith, (report.occupied c.in-Some.index match).0, c.requires.len),
        masked,
        key,
        other-before F c.args.stored.now.entries c.args.bytes.now c.args.start k _ _ c.in-Some.index report c.matches.invariant.taken c.matches.invariant.rising c.in-Some.ensures,
      );
      none = search rules;
      on_placed = λ P p at. (
          let same = ap (slot_key F c.args.stored.now.entries.bytes) (sym masked) ∙ key in
          let found = look_found F P c.args.stored.now.entries k p c.args.start c.args.bytes.now c.requires.sought.format at _ report c.in-Some.index match same in
          (ap Found masked ∙ found.0, subst (EndsWithin F P k p) c.requires.len found.1));
    }

pub matches-init : goal.matches-init
matches-init g c = record {
  rising = c.of-group.ensures.matches.rising;
  same = refl;
  taken = record { part = λ i m. m; others = λ i m. inl m };
}

pub matches-preserved : goal.matches-preserved
matches-preserved g c =
    let F : Format = hashed_by g.H.HashFn.hash (stored_format c.args.stored.now) in
    let masked = ap (λ n. bit_and (c.args.start + c.in-Some.index) (n - 1)) c.slots-mask.ensures ∙ bit_and-slots (c.args.start + c.in-Some.index) c.args.stored.now.entries.slots c.requires.slots in
    record {
      rising = rising-rest _ _ c.drop_match.ensures.rest c.matches.invariant.rising;
      same = c.drop_match.ensures.free ∙ c.matches.invariant.same;
      taken = taken-next _ _ _ _ c.in-Some.index c.matches.invariant.taken c.in-Some.ensures c.drop_match.ensures.rest
          (λ e. true≢false (sym (c.has_key.ensures.1 (ap (slot_key F c.args.stored.now.entries.bytes) masked ∙ e)) ∙ c.if-has_key.false));
    }

pub overflow_add-result : goal.overflow_add-result
overflow_add-result g c =
    let few = few_slots c.args.stored.now.entries.slots c.requires.slots in
    let first = sym (c.in-Some-first_empty.ensures ∙ c.matches.invariant.same ∙ c.of-group.ensures.free) in
    let low = (position-Some counts_as_free c.args.bytes.now c.in-Some-first_empty.index 0 first).0 in
    let n = c.requires.len in
    let l = c.requires.start in
    search rules

-- once all matches are taken no byte is the tag with the key in its slot
unmatched : (g : Over) (c : After-first_empty g) → IsOtherAmong (hashed_by g.H.HashFn.hash (stored_format c.args.stored.now)) c.args.stored.now.entries c.args.bytes.now c.args.start
    c.args.key.now (length c.args.bytes.now)
unmatched g c j l is same =
    let report = subst (λ h. IsReport c.args.bytes.now h (g.Q.Group.matches c.of-group.result)) c.requires.tag.is c.of-group.ensures.matches in
    taken-all _ _ _ c.matches.invariant.taken c.in_default.ensures j (report.complete j l is) same

pub returns-in-Some-first_empty : goal.returns-in-Some-first_empty
returns-in-Some-first_empty g c =
    let F : Format = hashed_by g.H.HashFn.hash (stored_format c.args.stored.now) in
    let k : List ℕ = c.args.key.now in
    let report = subst (λ h. IsReport c.args.bytes.now h (g.Q.Group.matches c.of-group.result)) c.requires.tag.is c.of-group.ensures.matches in
    let first = sym (c.in-Some-first_empty.ensures ∙ c.matches.invariant.same ∙ c.of-group.ensures.free) in
    let q = position-Some counts_as_free c.args.bytes.now c.in-Some-first_empty.index 0 first in
    let masked = ap (λ n. bit_and (c.args.start + c.in-Some-first_empty.index) (n - 1)) c.slots-mask.ensures ∙ bit_and-slots (c.args.start + c.in-Some-first_empty.index) c.args.stored.now.entries.slots c.requires.slots in
    record {
      slot = (c.in-Some-first_empty.index, omega (arith, q.0, c.requires.len), masked, q.1, λ j l. (q.2 j l, unmatched g (goal.at.returns-in-Some-first_empty g c).After-first_empty j (omega (arith, l, q.0))));
      none = search rules;
      on_placed = λ P p at. (
          let free = look_free F P c.args.stored.now.entries k p c.args.start c.args.bytes.now c.requires.sought.format at _ report (taken-all _ _ _ c.matches.invariant.taken c.in_default.ensures) c.in-Some-first_empty.index first in
          (ap Free masked ∙ free.0, subst (EndsWithin F P k p) c.requires.len free.1));
    }

pub returns : goal.returns
returns g c =
    let F : Format = hashed_by g.H.HashFn.hash (stored_format c.args.stored.now) in
    let k : List ℕ = c.args.key.now in
    let report = subst (λ h. IsReport c.args.bytes.now h (g.Q.Group.matches c.of-group.result)) c.requires.tag.is c.of-group.ensures.matches in
    let first = sym (c.in-None.ensures ∙ c.matches.invariant.same ∙ c.of-group.ensures.free) in
    record {
      slot = tt;
      none = λ none i l. (
          let within : i < length c.args.bytes.now = omega (arith, l, c.requires.len) in
          (position-None counts_as_free c.args.bytes.now 0 first i within, unmatched g (goal.at.returns g c).After-first_empty i within));
      on_placed = λ P p at. (
          subst (λ n. Passed F P k (p + n)) c.requires.len
          (look_on F P c.args.stored.now.entries k p c.args.start c.args.bytes.now c.requires.sought.format at _ report (taken-all _ _ _ c.matches.invariant.taken c.in_default.ensures) first));
    }
