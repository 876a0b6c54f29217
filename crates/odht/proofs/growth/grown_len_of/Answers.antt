use Rattle.std.proofs.Common.{◌≡◌, ◌∙◌, sym, None}
use Rattle.odht_raw.specs.Words.{format_of}
use Rattle.odht.specs.Growths.{grown_len}
use Rattle.odht.proofs.lemmas.GrownBytes.{grown_len-layout, grown_len-image}
use Rattle.odht.proofs.growth.grown_len_of.Goals as goal

pub returns-in-None-clause-by_header : goal.returns-in-None-clause-by_header
returns-in-None-clause-by_header g c =
    let none : grown_len (format_of (g.L.Lengths.key_len c.args.lengths) (g.L.Lengths.value_len c.args.lengths) g.H.HashFn.hash) c.args.bytes.now ≡ None = c.in-None.ensures in
    sym none

pub returns-in-None-clause-on_valid : goal.returns-in-None-clause-on_valid
returns-in-None-clause-on_valid g c P is = returns-in-None-clause-by_header g c ∙ grown_len-image _ P _ is

pub returns-in-Some-clause-by_header : goal.returns-in-Some-clause-by_header
returns-in-Some-clause-by_header g c = sym (grown_len-layout _ c.args.bytes.now _ c.in-Some.len c.in-Some.ensures)

pub returns-in-Some-clause-on_valid : goal.returns-in-Some-clause-on_valid
returns-in-Some-clause-on_valid g c P is = returns-in-Some-clause-by_header g c ∙ grown_len-image _ P _ is
