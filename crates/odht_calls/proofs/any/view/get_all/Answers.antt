use Rattle.std.proofs.Common.{◌≡◌, ◌∙◌, ◌+◌, ◌<◌, sym, subst, arith, length}
use Rattle.std.specs.Option.{option_copied}
use Rattle.odht_base.specs.Format.{format_of}
use Rattle.odht_raw.specs.DynParts.{bytes_coding}
use Rattle.odht_calls.specs.Lookups.{with_found}
use Rattle.odht_calls.specs.Pieces.{pieces}
use Rattle.odht_calls.proofs.lemmas.AnyLists.{AreGotUpTo, none_got, one_more_got, all_got}
use Rattle.odht_calls.proofs.lemmas.Layouts.{of_long}
use Rattle.odht_calls.proofs.lemmas.Pieces.{ends_within, length-pieces}
use Rattle.odht_calls.proofs.any.view.get_all.Goals as goal

pub loop-index-init : goal.loop-index-init
loop-index-init g c =
    none_got (bytes_coding (format_of c.args.layout.key_len c.args.layout.value_len g.H.HashFn.hash)) c.args.bytes.now
    (pieces c.args.layout.key_len c.args.count c.args.keys.now) (pieces c.args.layout.value_len c.args.count c.args.values.now) c.args.found.now

pub piece-requires : goal.piece-requires
piece-requires g c =
    ends_within c.loop-index.index c.args.count c.args.layout.key_len (length c.args.keys.now) c.loop-index-test.true (c.are_pieces.ensures.0 c.if-not-are_pieces.false).keys

pub put_answer-requires-clause-room : goal.put_answer-requires-clause-room
put_answer-requires-clause-room g c =
    ends_within c.loop-index.index c.args.count c.args.layout.value_len (length c.loop-index.values) c.loop-index-test.true (c.loop-index.auto.values ∙ (c.are_pieces.ensures.0 c.if-not-are_pieces.false).values)

pub put_answer-requires-clause-flags : goal.put_answer-requires-clause-flags
put_answer-requires-clause-flags g c = omega (arith, c.loop-index-test.true, c.loop-index.auto.found, c.if-found-count.false)

pub loop-index-preserved : goal.loop-index-preserved
loop-index-preserved g c =
    let kl = c.args.layout.key_len in
    let vl = c.args.layout.value_len in
    let n = c.args.count in
    let i = c.loop-index.index in
    let K = bytes_coding (format_of kl vl g.H.HashFn.hash) in
    let low : i < n = c.loop-index-test.true in
    let o = option_copied c.find-answer.result in
    let values : pieces vl n c.put_answer.new.values ≡ with_found (pieces vl n c.loop-index.values) i o =
    c.put_answer.ensures.values n low (omega (arith, c.loop-index.auto.values, (c.are_pieces.ensures.0 c.if-not-are_pieces.false).values)) in
    subst (λ x. AreGotUpTo K c.args.bytes.now (pieces kl n c.args.keys.now) (pieces vl n c.args.values.now) (i + 1) x c.put_answer.new.found) (sym values)
    (subst (AreGotUpTo K c.args.bytes.now (pieces kl n c.args.keys.now) (pieces vl n c.args.values.now) (i + 1) (with_found (pieces vl n c.loop-index.values) i o)) (sym c.put_answer.ensures.found)
    (one_more_got K c.args.bytes.now (pieces kl n c.args.keys.now) (pieces vl n c.args.values.now) i (pieces vl n c.loop-index.values) c.loop-index.found c.piece.result.now o c.loop-index.invariant
    (omega (arith, low, length-pieces vl n c.loop-index.values)) (omega (arith, low, c.loop-index.auto.found, c.if-found-count.false)) (c.piece.ensures.value n low) c.find-answer.ensures.found))

pub returns : goal.returns
returns g c =
    let keys = length-pieces c.args.layout.key_len c.args.count c.args.keys.now in
    let last : c.loop-index.index ≡ length (pieces c.args.layout.key_len c.args.count c.args.keys.now) = omega (arith, c.loop-index-test.false, c.loop-index.auto.index-end, keys) in
    of_long (c.are_pieces.ensures.0 c.if-not-are_pieces.false, c.if-found-count.false)
    (all_got (bytes_coding (format_of c.args.layout.key_len c.args.layout.value_len g.H.HashFn.hash)) c.args.bytes.now (pieces c.args.layout.key_len c.args.count c.args.keys.now) (pieces c.args.layout.value_len c.args.count c.args.values.now)
    c.args.found.now _ _ (length-pieces c.args.layout.value_len c.args.count c.args.values.now ∙ sym keys, c.if-found-count.false ∙ sym keys)
    (subst (λ i. AreGotUpTo (bytes_coding (format_of c.args.layout.key_len c.args.layout.value_len g.H.HashFn.hash)) c.args.bytes.now (pieces c.args.layout.key_len c.args.count c.args.keys.now)
    (pieces c.args.layout.value_len c.args.count c.args.values.now) i (pieces c.args.layout.value_len c.args.count c.loop-index.values) c.loop-index.found) last c.loop-index.invariant))
