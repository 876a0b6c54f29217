use Rattle.std.proofs.Common.{◌≡◌, List, ℕ, length, sym, ap, ◌∙◌, take, arith}
use Rattle.std.proofs.Math.Seq.{take-length}
use Rattle.std.specs.Prelude.{slice_get}
use Rattle.odht_base.specs.Groups.{equal, first_free}
use Rattle.odht_base.specs.Masks.{set_bits}
use Rattle.odht_base.proofs.lemmas.LaneBits.{equal_lanes, equal_lanes_fit, first_set}
use Rattle.odht_base.proofs.lemmas.MarkedPositions.{report_from_equal}
use Rattle.odht_base.proofs.swisstable_group_query.lanes.GroupQueryGroup.of.Goals.{After-of_bits-2}
use Rattle.odht_base.proofs.swisstable_group_query.lanes.GroupQueryGroup.of.Goals as goal

-- the lanes are all sixteen bytes
whole : (b : List ℕ) → length b ≡ 16 → take 16 b ≡ b
whole b long = ap (λ n. take n b) (sym long) ∙ take-length b

-- sixteen lanes give sixteen bits
pub of_bits-requires : goal.of_bits-requires
of_bits-requires c = equal_lanes_fit (take 16 c.args.bytes.now) c.args.h2 (ap length (whole c.args.bytes.now c.requires.size) ∙ c.requires.size)

-- the first set is that of the lanes that equal the tag
matches : (c : After-of_bits-2) → c.of_bits.result ≡ equal c.args.bytes.now c.args.h2
matches c =
    let b : List ℕ = c.args.bytes.now in
    c.of_bits.ensures ∙ equal_lanes (take 16 b) c.args.h2 (ap length (whole b c.requires.size) ∙ c.requires.size) ∙ ap (λ g. equal g c.args.h2) (whole b c.requires.size)

pub returns-clause-matches : goal.returns-clause-matches
returns-clause-matches c = report_from_equal c.args.bytes.now c.args.h2 _ c.requires.tag (matches c)

pub returns-clause-equal : goal.returns-clause-equal
returns-clause-equal c = matches c

pub returns-clause-free : goal.returns-clause-free
returns-clause-free c =
    let b : List ℕ = c.args.bytes.now in
    let long : length (take 16 b) ≡ 16 = ap length (whole b c.requires.size) ∙ c.requires.size in
    ap (λ xs. slice_get xs 0) (c.of_bits-2.ensures ∙ ap set_bits c.free_bits.ensures.bits) ∙ first_set (take 16 b) (omega (arith, long)) ∙ ap first_free (whole b c.requires.size)
