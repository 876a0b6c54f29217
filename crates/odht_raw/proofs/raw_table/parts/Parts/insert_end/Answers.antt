use Rattle.std.proofs.Common.{◌∙◌, ℕ, List, length, sym, ap, arith, subst}
use Rattle.odht_raw.proofs.lemmas.Below.{take_all}
use Rattle.odht_base.specs.Format.{tag as key_tag}
use Rattle.odht_raw.specs.Searches.{IsSearchEnd}
use Rattle.odht_raw.specs.DynParts.{parts_format}
use Rattle.odht_raw.proofs.raw_table.parts.Parts.insert_end.Goals as goal

pub slice_bounds-search_end-end-in-32 : goal.slice_bounds-search_end-end-in-32
slice_bounds-search_end-end-in-32 g c = sym (ap length (take_all 32 c.args.key.now (omega (arith, c.in-32.is))) ∙ c.in-32.is)

pub search_end-requires-in-32 : goal.search_end-requires-in-32
search_end-requires-in-32 g c = ap length (take_all 32 c.args.key.now (omega (arith, c.in-32.is))) ∙ c.requires

pub returns-in-32-clause-end : goal.returns-in-32-clause-end
returns-in-32-clause-end g c =
    subst (λ (k : List ℕ). IsSearchEnd (parts_format c.args.self.now g.H.HashFn.hash) c.args.self.now.parts.entries c.args.self.now.parts.control k c.search_end-in-32.result.0)
    (take_all 32 c.args.key.now (omega (arith, c.in-32.is))) c.search_end-in-32.ensures.end

pub returns-in-32-clause-tag : goal.returns-in-32-clause-tag
returns-in-32-clause-tag g c =
    c.search_end-in-32.ensures.tag ∙ ap (key_tag (parts_format c.args.self.now g.H.HashFn.hash)) (take_all 32 c.args.key.now (omega (arith, c.in-32.is)))

pub returns-in-4-clause-end : goal.returns-in-4-clause-end
returns-in-4-clause-end g c =
    subst (λ (k : List ℕ). IsSearchEnd (parts_format c.args.self.now g.H.HashFn.hash) c.args.self.now.parts.entries c.args.self.now.parts.control k c.search_end.result.0)
    (take_all 4 c.args.key.now (omega (arith, c.in-4.is))) c.search_end.ensures.end

pub returns-in-8-clause-end : goal.returns-in-8-clause-end
returns-in-8-clause-end g c =
    subst (λ (k : List ℕ). IsSearchEnd (parts_format c.args.self.now g.H.HashFn.hash) c.args.self.now.parts.entries c.args.self.now.parts.control k c.search_end-in-8.result.0)
    (take_all 8 c.args.key.now (omega (arith, c.in-8.is))) c.search_end-in-8.ensures.end

pub returns-in-16-clause-end : goal.returns-in-16-clause-end
returns-in-16-clause-end g c =
    subst (λ (k : List ℕ). IsSearchEnd (parts_format c.args.self.now g.H.HashFn.hash) c.args.self.now.parts.entries c.args.self.now.parts.control k c.search_end-in-16.result.0)
    (take_all 16 c.args.key.now (omega (arith, c.in-16.is))) c.search_end-in-16.ensures.end

pub returns-in-20-clause-end : goal.returns-in-20-clause-end
returns-in-20-clause-end g c =
    subst (λ (k : List ℕ). IsSearchEnd (parts_format c.args.self.now g.H.HashFn.hash) c.args.self.now.parts.entries c.args.self.now.parts.control k c.search_end-in-20.result.0)
    (take_all 20 c.args.key.now (omega (arith, c.in-20.is))) c.search_end-in-20.ensures.end
