use Rattle.std.proofs.Common.{◌≡◌, ◌+◌, ◌*◌, ◌/◌, ◌≤◌, ◌∙◌, sym, ap, arith, length}
use Rattle.odht_raw.specs.Words.{bytes_at, first_free}
use Rattle.odht_raw.proofs.lemmas.FreeSearches.{first_byte, no_byte}
use Rattle.odht_raw.proofs.lemmas.GroupLooks.{piece-fits}
use Rattle.odht_raw.proofs.raw_table.group_search.first_free_of_group.Given.{Over}
use Rattle.odht_raw.proofs.raw_table.group_search.first_free_of_group.Goals as goal
use Rattle.odht_raw.proofs.raw_table.group_search.first_free_of_group.Goals.{After-first_empty}

-- the piece lies within the group
within : (g : Over) (c : After-first_empty g) → c.loop-piece.piece * g.Q.Group.SIZE + g.Q.Group.SIZE ≤ length c.args.bytes.now
within g c =
    let fits = piece-fits g.Q.Group.SIZE c.loop-piece.piece (omega (arith, c.loop-piece-test.true, ap (λ n. 16 / n) c.SIZE-piece-end.ensures)) in
    omega (arith, c.requires.len, fits)

-- what is asked of it
asked : (g : Over) (c : After-first_empty g) → g.Q.Group.free c.of-group.result ≡ first_free (bytes_at c.args.bytes.now (c.loop-piece.piece * g.Q.Group.SIZE) g.Q.Group.SIZE)
asked g c = c.of-group.ensures.free ∙ (λ i. first_free (bytes_at c.args.bytes.now (c.loop-piece.piece * c.SIZE.ensures i) (c.SIZE-in-loop-piece.ensures i)))

pub returns-in-Some : goal.returns-in-Some
returns-in-Some g c =
    let here = (goal.at.returns-in-Some g c).After-first_empty in
    rw c.SIZE.ensures (first_byte c.args.bytes.now c.loop-piece.piece g.Q.Group.SIZE (within g here) c.loop-piece.invariant c.in-Some.index (sym (c.in-Some.ensures ∙ asked g here)))

pub loop-piece-preserved : goal.loop-piece-preserved
loop-piece-preserved g c =
    let here = (goal.at.loop-piece-preserved g c).After-first_empty in
    no_byte c.args.bytes.now c.loop-piece.piece g.Q.Group.SIZE (within g here) c.loop-piece.invariant (sym (c.in_default.ensures ∙ asked g here))
