use Rattle.std.proofs.Common.{◌≡◌, length}
use Rattle.odht_raw.specs.DynParts.{parts_format}
use Rattle.odht_raw.proofs.lemmas.Expected.{AreAheadBefore}
use Rattle.odht_raw.proofs.raw_table.runs.look_ahead.Given as goal

-- the keys so far were looked up
abbrev pub invariant-loop-offset : goal.invariant-loop-offset
invariant-loop-offset g l =
    record {
      long : length l.ahead ≡ 8;
      looked_up : AreAheadBefore (g.I.EncodedItems.fits l.items) (parts_format l.parts g.H.HashFn.hash) l.parts.parts.control (g.I.EncodedItems.items l.items) l.from l.offset l.ahead;
    }
