use Rattle.std.proofs.Common.{rules}
use Rattle.odht_tool_core.proofs.Displayed.{of_text, on_both, took_whole}
use Rattle.odht_tool_core.proofs.json.displayed.write_inside.Goals as goal

-- the parts together, where no write of one failed
pub returns : goal.returns
returns g c =
    let held = g.O.Write.contents in
    on_both c.first_error.result c.write_shown-written.result _ _ _ c.first_error.ensures c.write_shown-written.ensures
    (of_text (g.D.Display.output c.args.shown) _ _
    (λ bs k. let (same, appended) = took_whole (λ s. s.output.ghost_name) (λ s. held s.output.now) _ bs _ k in search rules))
