use Rattle.std.proofs.Common.{rules, ◌≡◌, ◌∙◌, ◌+◌, ◌%◌, ◌<◌, ℕ, sym, ap, subst, arith, List}
use Rattle.odht_base.specs.Format.{Format}
use Rattle.odht_raw.proofs.lemmas.Below.{IsFormat-format_of, sixteens}
use Rattle.odht_raw.specs.Searches.{IsPassed}
use Rattle.odht_raw.proofs.lemmas.PassedSearches.{none-ends}
use Rattle.odht_raw.specs.Parts.{hashed_by}
use Rattle.odht_raw.specs.Stored.{stored_format}
use Rattle.odht_raw.proofs.raw_table.group_search.search_next_groups.Goals as goal

-- where there is no second group all positions were passed
pub returns-then-is_last : goal.returns-then-is_last
returns-then-is_last g c =
    let F : Format = hashed_by g.H.HashFn.hash (stored_format c.args.stored.now) in
    let k : List ℕ = c.args.key.now in
    let pair = c.requires.lengths.pair in
    let f = IsFormat-format_of _ _ _ _ pair.key pair.value pair.hashes g.met.H.HashFn.fits in
    let first : c.new-probe.result.position ≡ 0 = ap (λ q. q.position) c.new-probe.ensures in
    let all : 16 ≡ c.args.stored.now.entries.slots = omega (arith, first, c.is_last.ensures.0 c.if-is_last.true, ap (λ q. q.mask) c.new-probe.ensures, c.slots-mask.ensures, c.requires.slots.least) in
    none-ends F c.args.stored.now.entries c.args.control.now k f c.requires.lengths.mirrored c.requires.slots (subst (IsPassed F c.args.stored.now.entries c.args.control.now k) all c.requires.first)

-- else there is a whole second group, since the slot count is a multiple of sixteen
pub search_from-requires-clause-within : goal.search_from-requires-clause-within
search_from-requires-clause-within g c =
    let first : c.new-probe.result.position ≡ 0 = ap (λ q. q.position) c.new-probe.ensures in
    let second : c.advance.new.self.position ≡ c.new-probe.result.position + 16 = ap (λ q. q.position) c.advance.ensures in
    let more : c.new-probe.result.position + 16 < c.new-probe.result.mask + 1 = search rules in
    let sixteen = sixteens c.args.stored.now.entries.slots c.requires.slots in
    omega (arith, first, second, more, sixteen.2, ap (λ q. q.mask) c.new-probe.ensures, c.slots-mask.ensures, c.requires.slots.least)

-- and the first one was passed
pub search_from-requires-clause-at : goal.search_from-requires-clause-at
search_from-requires-clause-at g c =
    let F : Format = hashed_by g.H.HashFn.hash (stored_format c.args.stored.now) in
    let k : List ℕ = c.args.key.now in
    let second : c.advance.new.self.position ≡ 16 = ap (λ q. q.position) c.advance.ensures ∙ ap (λ q. q.position + 16) c.new-probe.ensures in
    let control : c.new-scan.result.control ≡ c.args.control.now = ap (λ s. s.control) c.new-scan.ensures in
    let same : c.new-probe.result.mask + 1 ≡ c.args.stored.now.entries.slots = omega (arith, ap (λ q. q.mask) c.new-probe.ensures, c.slots-mask.ensures, c.requires.slots.least) in
    let counted = ap (λ q. q.mask + 1) c.new-probe.ensures in
    record {
      home = ap (λ q. q.home) c.advance.ensures ∙ ap (λ q. q.home) c.new-probe.ensures ∙ (λ i. c.requires.hash i % (sym counted ∙ same) i);
      aligned = omega (arith, second);
      passed = subst (λ (x : List ℕ × ℕ). IsPassed F c.args.stored.now.entries x.0 k x.1) (λ i. (sym control i, sym second i)) c.requires.first;
    }
