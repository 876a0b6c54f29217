use Rattle.std.proofs.Common.{rules, Err, arith, ◌≡◌, ◌∙◌, ◌+◌, ◌≤◌, ℕ, List, None, Option, sym, ap, subst, length}
use Rattle.std.specs.Prelude.{⊤, option_map}
use Rattle.odht_raw.specs.Words.{bytes_at, controls_of, entries_of, Error, Format, format_of, hashes_refusal, header_count, header_slots, opening_refusal, view_refusal}
use Rattle.odht_raw.specs.Frame.{IsAccepted}
use Rattle.odht_raw.specs.Reads.{read_entries, read_controls, IsHeldBy}
use Rattle.odht_raw.specs.declared.raw_table.read_search.ReadPlace.{ReadPlace}
use Rattle.odht_raw.proofs.lemmas.Openings.{view_refusal-slots}
use Rattle.odht.specs.Files.{IsFileResult}
use Rattle.odht.specs.declared.dynamic.DynError.TheVariants.{Rejected}
use Rattle.odht.proofs.lemmas.Files.{none_rejected, place_held, read_entries_of, read_controls_of, refused_by_header, refused_by_slots}
use Rattle.odht.proofs.dynamic.file.reads.open_header.Given.{Over}
use Rattle.odht.proofs.dynamic.file.reads.open_header.Goals.{After-check_first}
use Rattle.odht.proofs.dynamic.file.reads.open_header.Goals as goal

-- what is known where the header passed
module _ (g : Over) (c : After-check_first g) (B : List ℕ) (h : g.S.ReadAt.gives c.args.source.now B) (held : c.args.at + c.args.len ≤ length B) where
  abbrev F : Format
  F = format_of c.args.layout.key_len c.args.layout.value_len g.H.HashFn.hash

  abbrev T : List ℕ
  T = bytes_at B c.args.at c.args.len

  header : (option_map Rejected (opening_refusal F T) ≡ None) × (header_slots T ≡ c.in_ok-slots.slots)
  header = let all = c.in_ok-slots.ensures.given g.H.HashFn.hash B h held in (all.0, all.1.0)

  accepted : IsAccepted F T
  accepted = none_rejected (opening_refusal F T) header.0

  has : IsHeldBy c.place_of-place.result B
  has =
      subst (λ p. IsHeldBy p B) (sym c.place_of-place.ensures)
      (place_held c.args.at c.in_ok-slots.slots c.args.layout.key_len c.args.layout.value_len B (omega (arith, held, c.in_ok-slots.ensures.long)))

  -- the error of the slots that were read
  abbrev read : Option Error
  read =
      let p : ReadPlace = c.place_of-place.result in
      hashes_refusal (format_of p.layout.key_len p.layout.value_len g.H.HashFn.hash) (read_entries p B).bytes (read_controls p B) 10

  -- is that of the table's first slots
  slots : read ≡ hashes_refusal F (entries_of F T) (controls_of F T) 10
  slots =
      ap (λ (p : ReadPlace). hashes_refusal (format_of p.layout.key_len p.layout.value_len g.H.HashFn.hash) (read_entries p B).bytes (read_controls p B) 10) c.place_of-place.ensures
      ∙ (λ i. hashes_refusal F (read_entries_of F B c.args.at c.args.len held c.in_ok-slots.slots header.1 c.in_ok-slots.ensures.long i) (read_controls_of F B c.args.at c.args.len held c.in_ok-slots.slots header.1 c.in_ok-slots.ensures.long i) 10)

-- the counts that the header of B states
abbrev Counts : List ℕ → ℕ × ℕ → Type 0
Counts B r = (header_slots B ≡ r.0) × (header_count B ≡ r.1)

pub returns-clause-given : goal.returns-clause-given
returns-clause-given g c B h held =
    let at = (goal.at.returns-clause-given g c).After-check_first in
    let first = c.in_ok-check_first.ensures.given B h (has g at B h held) in
    let all = c.in_ok-slots.ensures.given g.H.HashFn.hash B h held in
    (ap (option_map Rejected) (view_refusal-slots (F g at B h held) (T g at B h held) (accepted g at B h held) ∙ sym (slots g at B h held)) ∙ first.0, all.1)

pub returns-in_err-check_first-clause-given : goal.returns-in_err-check_first-clause-given
returns-in_err-check_first-clause-given g c B h held =
    let at = (goal.at.returns-in_err-check_first-clause-given g c).After-check_first in
    let T = T g at B h held in
    let refusal : c.from_residual-in_err-check_first.result ≡ Err c.in_err-check_first.field-0.0 = search rules in
    subst (IsFileResult (g.S.ReadAt.fails c.args.source.now) (option_map Rejected (view_refusal (F g at B h held) T)) (Counts T)) (sym refusal)
    (refused_by_slots (g.S.ReadAt.fails c.args.source.now) (F g at B h held) T (λ (u : Unit {0}). ⊤) (Counts T) c.in_err-check_first.field-0.0 (read g at B h held) (slots g at B h held) (accepted g at B h held)
    (c.in_err-check_first.ensures.given B h (has g at B h held)))

pub returns-in_err-slots-clause-given : goal.returns-in_err-slots-clause-given
returns-in_err-slots-clause-given g c B h held =
    let F : Format = format_of c.args.layout.key_len c.args.layout.value_len g.H.HashFn.hash in
    let T = bytes_at B c.args.at c.args.len in
    let refusal : c.from_residual.result ≡ Err c.in_err-slots.field-0.0 = search rules in
    subst (IsFileResult (g.S.ReadAt.fails c.args.source.now) (option_map Rejected (view_refusal F T)) (Counts T)) (sym refusal)
    (refused_by_header (g.S.ReadAt.fails c.args.source.now) F T (Counts T) (Counts T) c.in_err-slots.field-0.0 (c.in_err-slots.ensures.given g.H.HashFn.hash B h held))
