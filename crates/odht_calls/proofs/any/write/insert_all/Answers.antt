use Rattle.std.proofs.Common.{rules, ◌≡◌, ◌∙◌, ◌<◌, ℕ, List, sym, ap, subst, refl, arith, length, take}
use Rattle.std.specs.Prelude.{⊤}
use Rattle.std.specs.List.{zip}
use Rattle.std.proofs.lemmas.List.{length-take}
use Rattle.std.proofs.lemmas.Slice.Zip.{length-zip}
use Rattle.odht_base.specs.Format.{format_of}
use Rattle.odht_header.proofs.lemmas.Formats.{IsFormat-format_of}
use Rattle.odht_raw.specs.DynParts.{bytes_coding}
use Rattle.odht_raw.specs.Runs.{IsEncodedRun}
use Rattle.odht_calls.specs.Pieces.{pieces}
use Rattle.odht_calls.specs.Writes.{InsertAllAnswers}
use Rattle.odht_calls.proofs.lemmas.EqualPairs.{decided_framed, decided_inserted}
use Rattle.odht_calls.proofs.lemmas.Inserted.{list_of, listed}
use Rattle.odht_calls.proofs.lemmas.Layouts.{of_long}
use Rattle.odht_calls.proofs.lemmas.Pieces.{first_pairs, have_pieces, length-pieces}
use Rattle.odht_calls.proofs.lemmas.Refused.{refused_insert_all}
use Rattle.odht_calls.proofs.any.write.insert_all.Given.{Over}
use Rattle.odht_calls.proofs.any.write.insert_all.Goals.{After-insert_items-status}
use Rattle.odht_calls.proofs.any.write.insert_all.Goals as goal

pub returns-in-Err-clause-answers : goal.returns-in-Err-clause-answers
returns-in-Err-clause-answers g c =
    of_long (c.are_pieces.ensures.0 c.if-not-are_pieces.false)
    (refused_insert_all _ _ c.in-Err.refused _ c.in-Err.ensures.err c.status_of.ensures _ _ _
    (length-pieces c.args.layout.value_len c.args.count c.args.values.now ∙ sym (length-pieces c.args.layout.key_len c.args.count c.args.keys.now)))

pub invariant_of-items : goal.invariant_of-items
invariant_of-items g c = have_pieces c.args.layout.key_len c.args.layout.value_len c.deciding_pairs-deciding.result c.args.count c.args.keys.now c.args.values.now c.deciding_pairs-deciding.ensures.most (c.are_pieces.ensures.0 c.if-not-are_pieces.false)

-- what the inserts answer, when the call reports n' pairs
module _ (g : Over) (c : After-insert_items-status g) (n' : ℕ) where
  answered : (c.insert_items-status.new.accepted < c.deciding_pairs-deciding.result → n' ≡ c.insert_items-status.new.accepted) → (c.insert_items-status.new.accepted ≡ c.deciding_pairs-deciding.result → n' ≡ c.args.count)
      → InsertAllAnswers (bytes_coding (format_of c.args.layout.key_len c.args.layout.value_len g.H.HashFn.hash)) c.args.bytes.now (pieces c.args.layout.key_len c.args.count c.args.keys.now) (pieces c.args.layout.value_len c.args.count c.args.values.now) c.args.accepted.now c.insert_items-status.result c.insert_items-status.new.bytes n'
  answered some all =
      let kl = c.args.layout.key_len in
      let vl = c.args.layout.value_len in
      let h = g.H.HashFn.hash in
      let K = bytes_coding (format_of kl vl h) in
      let n = c.args.count in
      let d = c.deciding_pairs-deciding.result in
      let most = c.deciding_pairs-deciding.ensures.most in
      let decide = c.deciding_pairs-deciding.ensures.cut in
      let B = c.args.bytes.now in
      let C = c.insert_items-status.new.bytes in
      let m = c.insert_items-status.new.accepted in
      let keys = pieces kl n c.args.keys.now in
      let values = pieces vl n c.args.values.now in
      let long : length keys ≡ n = length-pieces kl n c.args.keys.now in
      let equal : length values ≡ length keys = length-pieces vl n c.args.values.now ∙ sym long in
      let first : zip (pieces kl d c.args.keys.now) (pieces vl d c.args.values.now) ≡ take d (zip keys values) = first_pairs kl vl d n c.args.keys.now c.args.values.now most in
      let count : length (zip (pieces kl d c.args.keys.now) (pieces vl d c.args.values.now)) ≡ d = ap length first ∙ omega (arith, length-take d (zip keys values), length-zip keys values, long, equal, most) in
      let answers = c.insert_items-status.ensures in
      let run = list_of K B (take d (zip keys values)) m C (subst (λ (xs : List (List ℕ × List ℕ)). IsEncodedRun (λ _. ⊤) K B xs 0 m C) first answers.run) in
      listed K B C (zip keys values) d m run keys values refl equal n (sym long) most
      (IsFormat-format_of _ _ _ _ (search rules) (search rules) c.requires g.met.H.HashFn.fits) c.in_default.ensures.err c.args.accepted.now c.insert_items-status.result n'
      (λ low. (some low, answers.some (omega (arith, low, count)))) (λ e. (all e, answers.all (omega (arith, e, count))))
      (decided_framed kl vl n d c.args.keys.now c.args.values.now h most decide B C (search rules)) (λ P. decided_inserted kl vl n d c.args.keys.now c.args.values.now h most decide P C)

pub returns-then-inserted-deciding-clause-answers : goal.returns-then-inserted-deciding-clause-answers
returns-then-inserted-deciding-clause-answers g c =
    of_long (c.are_pieces.ensures.0 c.if-not-are_pieces.false)
    (answered g (goal.at.returns-then-inserted-deciding-clause-answers g c).After-insert_items-status _ (λ low. refl) (λ e. absurd (omega (arith, e, c.if-inserted-deciding.true))))

pub returns-else-inserted-deciding-clause-answers : goal.returns-else-inserted-deciding-clause-answers
returns-else-inserted-deciding-clause-answers g c =
    of_long (c.are_pieces.ensures.0 c.if-not-are_pieces.false)
    (answered g (goal.at.returns-else-inserted-deciding-clause-answers g c).After-insert_items-status _ (λ low. absurd (omega (arith, low, c.if-inserted-deciding.false))) (λ e. refl))
