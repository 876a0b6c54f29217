use Rattle.std.proofs.Common.{sym, subst}
use Rattle.std.specs.Io.KnownBytes.{Appends}
use Rattle.std.proofs.KnownBytes.{Appends-trans}
use Rattle.odht_tool_core.specs.InfoTexts.{count_item}
use Rattle.std.specs.List.{flat_map, range_with_len}
use Rattle.odht_tool_core.proofs.Counting.{written_more}
use Rattle.odht_tool_core.proofs.histogram.write_counts.Goals as goal

pub loop-index-preserved : goal.loop-index-preserved
loop-index-preserved g c =
    let item = count_item c.args.counts.now in
    let n = c.loop-index.index in
    let old = g.W.Write.contents c.args.output.now in
    let new = g.W.Write.contents c.write_count.new.output in
    subst (Appends old new) (sym (written_more item n))
    (Appends-trans old (g.W.Write.contents c.loop-index.output) new (flat_map item (range_with_len 0 n)) (item n) c.loop-index.invariant c.in_ok-write_count.ensures)
