use Rattle.std.proofs.Common.{rules, arith, true≢false, ◌≡◌, ◌∙◌, ℕ, ◌+◌, ◌*◌, ◌/◌, ◌%◌, sym, ap, subst, List}
use Rattle.odht_raw.specs.Words.{bytes_at, counts_as_free, Format}
use Rattle.odht_raw.specs.Parts.{hashed_by}
use Rattle.odht_base.proofs.lemmas.SlotCounts.{few_slots}
use Rattle.std.specs.Prelude.{IsFalse}
use Rattle.odht_raw.specs.ControlBytes.{IsOther}
use Rattle.odht_raw.specs.SearchEnds.{GoesOnAmong}
use Rattle.odht_raw.specs.SearchSteps.{IsLook, Passed}
use Rattle.odht_raw.proofs.lemmas.GroupLooks.{piece-fits, pieces-all, IsGroupAt-piece, look-piece, look-none, end-piece, among-pieces}
use Rattle.odht_raw.specs.Stored.{stored_format}
use Rattle.odht_raw.proofs.raw_table.group_search.search_group.Goals as goal

pub overflow_add-start : goal.overflow_add-start
overflow_add-start g c =
    let few = few_slots c.args.stored.now.entries.slots c.requires.slots in
    let fits = piece-fits g.Q.Group.SIZE c.loop-piece.piece (omega (arith, c.loop-piece-test.true, ap (λ n. 16 / n) c.SIZE-piece-end.ensures)) in
    let l = c.requires.start in
    rw c.SIZE-in-loop-piece.ensures (search rules)

pub returns-then-is_some : goal.returns-then-is_some
returns-then-is_some g c =
    let F : Format = hashed_by g.H.HashFn.hash (stored_format c.args.stored.now) in
    let k : List ℕ = c.args.key.now in
    let n : ℕ = c.loop-piece.piece * g.Q.Group.SIZE in
    let fits = piece-fits g.Q.Group.SIZE c.loop-piece.piece (omega (arith, c.loop-piece-test.true, ap (λ n. 16 / n) c.SIZE-piece-end.ensures)) in
    let some = sym c.is_some.ensures ∙ c.if-is_some.true in
    record {
      slot = end-piece F c.args.stored.now.entries c.args.bytes.now c.args.start n g.Q.Group.SIZE k c.search_piece-end.result fits c.loop-piece.invariant.on
          (rw (c.SIZE-in-loop-piece.ensures, c.SIZE-in-loop-piece-2.ensures) at c.search_piece-end.ensures.slot);
      none = λ none. absurd (true≢false (sym some ∙ none));
      on_placed = λ P p at. (
          let there = IsGroupAt-piece F P c.args.stored.now.entries k p c.args.start c.args.bytes.now n g.Q.Group.SIZE (omega (arith, c.requires.len, fits)) at (c.loop-piece.invariant.passed P p at) in
          let known : IsLook F P k (p + n) g.Q.Group.SIZE c.search_piece-end.result = c.search_piece-end.ensures.on_placed P (p + n) (rw (c.SIZE-in-loop-piece.ensures, c.SIZE-in-loop-piece-2.ensures) there) in
          look-piece F P k p n g.Q.Group.SIZE c.search_piece-end.result fits some known);
    }

pub loop-piece-init : goal.loop-piece-init
loop-piece-init g c =
    let F : Format = hashed_by g.H.HashFn.hash (stored_format c.args.stored.now) in
    let k : List ℕ = c.args.key.now in
    record {
      on = λ i l. absurd (omega (arith, l));
      passed = λ P p at. (let same : p ≡ p + 0 * g.Q.Group.SIZE = omega arith in subst (Passed F P k) same at.passed);
    }

pub loop-piece-preserved : goal.loop-piece-preserved
loop-piece-preserved g c =
    let F : Format = hashed_by g.H.HashFn.hash (stored_format c.args.stored.now) in
    let k : List ℕ = c.args.key.now in
    let n : ℕ = c.loop-piece.piece * g.Q.Group.SIZE in
    let fits = piece-fits g.Q.Group.SIZE c.loop-piece.piece (omega (arith, c.loop-piece-test.true, ap (λ n. 16 / n) c.SIZE-piece-end.ensures)) in
    let missed = sym c.is_some.ensures ∙ c.if-is_some.false in
    let bytes = c.args.bytes.now in
    let on : GoesOnAmong F c.args.stored.now.entries (bytes_at bytes n g.Q.Group.SIZE) (c.args.start + n) k g.Q.Group.SIZE =
    rw (c.SIZE-in-loop-piece.ensures, c.SIZE-in-loop-piece-2.ensures) at c.search_piece-end.ensures.none missed in
    record {
      on = among-pieces (λ x b. IsFalse (counts_as_free b) × IsOther F c.args.stored.now.entries k (x % c.args.stored.now.entries.slots) b) bytes c.args.start c.loop-piece.piece g.Q.Group.SIZE c.loop-piece.invariant.on on;
      passed = λ P p at. (
          let there = IsGroupAt-piece F P c.args.stored.now.entries k p c.args.start c.args.bytes.now n g.Q.Group.SIZE (omega (arith, c.requires.len, fits)) at (c.loop-piece.invariant.passed P p at) in
          let known : IsLook F P k (p + n) g.Q.Group.SIZE c.search_piece-end.result = c.search_piece-end.ensures.on_placed P (p + n) (rw (c.SIZE-in-loop-piece.ensures, c.SIZE-in-loop-piece-2.ensures) there) in
          let passed = look-none F P k (p + n) g.Q.Group.SIZE c.search_piece-end.result missed known in
          let sum : p + n + g.Q.Group.SIZE ≡ p + (c.loop-piece.piece + 1) * g.Q.Group.SIZE = omega arith in
          subst (Passed F P k) sum passed);
    }

pub returns : goal.returns
returns g c =
    let F : Format = hashed_by g.H.HashFn.hash (stored_format c.args.stored.now) in
    let k : List ℕ = c.args.key.now in
    let all = pieces-all g.Q.Group.SIZE c.loop-piece.piece g.met.Q.Group.divides (omega (arith, c.loop-piece-test.false, c.loop-piece.auto.piece-end, ap (λ n. 16 / n) c.SIZE-piece-end.ensures)) in
    record {
      slot = tt;
      none = λ none. subst (GoesOnAmong F c.args.stored.now.entries c.args.bytes.now c.args.start k) all c.loop-piece.invariant.on;
      on_placed = λ P p at. subst (λ n. Passed F P k (p + n)) all (c.loop-piece.invariant.passed P p at);
    }
