use Rattle.odht_tool_core.proofs.JsonTexts.{hex_simple}
use Rattle.odht_tool_core.proofs.hexadecimal.no_plain_bytes.Goals as goal

pub returns-clause-digits : goal.returns-clause-digits
returns-clause-digits c = hex_simple c.args.bytes.now (λ k. (c.type_inv.bytes k).fits)
