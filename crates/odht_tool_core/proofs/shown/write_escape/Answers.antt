use Rattle.std.proofs.Common.{◌++◌, codes, false, ap, rules}
use Rattle.std.proofs.Output.{has_written_of_eq}
use Rattle.std.proofs.lemmas.Fmt.{hex_byte}
use Rattle.odht_tool_core.proofs.shown.write_escape.Goals as goal

pub returns : goal.returns
returns g c plain ok = has_written_of_eq _ _ _ _ _ (ap (λ digits. codes "\\x" ++ digits) (hex_byte false c.args.byte c.ranges.byte.fits)) (search rules)
