use Rattle.std.proofs.Common.{◌≡◌, IfSome, sym, subst}
use Rattle.odht_tool_core.specs.Forms.{bytes_text}
use Rattle.odht_tool_core.proofs.JsonTexts.{bytes_simple}
use Rattle.odht_tool_core.proofs.written.ArrayU8Written.plain_bytes.Goals as goal

-- digits stand for themselves
pub returns-in_default : goal.returns-in_default
returns-in_default g c = record {
  some = subst (λ o. IfSome o (λ t. t.now ≡ bytes_text c.args.form c.args.self.now)) (sym c.no_plain_bytes.ensures.none) tt;
  none = λ none. bytes_simple c.args.form c.args.self.now c.in_default.not-Plain c.no_plain_bytes.ensures.digits;
}
