-- One name that opens every definition, for facts on literals.
use Rattle.odht_base.proofs.examples.Opened.{opened as base_opened}
use Rattle.odht_header.specs.Refusals.{field_refusal, header_refusal, opening_refusal, front_header_refusal, prefix_refusal, hashes_refusal, view_refusal, slots_refusal, mirror_refusal, reach_refusal, late_refusal_by, check_refusal_by}

unfoldable pub opened : Type 1
unfolding base_opened field_refusal header_refusal opening_refusal front_header_refusal prefix_refusal hashes_refusal view_refusal slots_refusal mirror_refusal reach_refusal late_refusal_by check_refusal_by
opened = Type 0
