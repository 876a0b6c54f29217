use Rattle.std.proofs.Common.{◌≡◌, ◌<◌, ◌∙◌, ℕ, List, sym, ap, subst, refl, arith, length, take, Some, Err, Result, slice_get}
use Rattle.std.specs.List.{zip}
use Rattle.std.proofs.lemmas.List.{take_all}
use Rattle.std.proofs.lemmas.Slice.Zip.{length-zip}
use Rattle.odht_base.specs.Format.{Format, format_of}
use Rattle.odht_base.specs.Table.{Table}
use Rattle.odht_base.specs.Valid.{IsImage}
use Rattle.odht_header.specs.declared.error.Error.{Error}
use Rattle.odht_header.specs.declared.error.Error.TheVariants.{Memory}
use Rattle.odht_raw.specs.DynParts.{bytes_coding}
use Rattle.odht.specs.Dynamic.{DynStore, dyn_format}
use Rattle.odht.proofs.lemmas.DynLists.{take_next}
use Rattle.odht_calls.specs.Builds.{IsGrownAfterInserts}
use Rattle.odht_calls.specs.Pieces.{pieces}
use Rattle.odht_calls.proofs.lemmas.EqualPairs.{decided_grown}
use Rattle.odht_calls.proofs.lemmas.GrownBuilds.{IsGrownTable, none_grown, one_more_grown, grown_bytes}
use Rattle.odht_calls.proofs.lemmas.HandedOut.{refused_growing, handed_growing}
use Rattle.odht_calls.proofs.lemmas.Layouts.{of_long}
use Rattle.odht_calls.proofs.lemmas.Pieces.{ends_within, length-pieces, zip_at}
use Rattle.odht_calls.proofs.any.build.build_growing.Goals as goal

-- no memory
abbrev failed : Result (Unit {0}) Error
failed = Err Memory

-- as many keys as values
module _ (kl vl n : ℕ) (ks vs : List ℕ) where
  equal : length (pieces vl n vs) ≡ length (pieces kl n ks)
  equal = length-pieces vl n vs ∙ sym (length-pieces kl n ks)

pub returns-in-Err : goal.returns-in-Err
returns-in-Err g c =
    let l = c.args.layout in
    of_long (c.are_pieces.ensures.0 c.if-not-are_pieces.false)
    (refused_growing (bytes_coding (format_of l.key_len l.value_len g.H.HashFn.hash)) _ _ (equal l.key_len l.value_len c.args.count c.args.keys.now c.args.values.now) _ _ _ failed Memory refl refl refl)

pub loop-index-init : goal.loop-index-init
loop-index-init g c =
    let made = c.in-Ok.ensures.ok in
    record {
      key_len = made.key_len;
      value_len = made.value_len;
      store = none_grown (bytes_coding (format_of c.args.layout.key_len c.args.layout.value_len g.H.HashFn.hash)) _ made.store;
    }

pub piece-key-requires : goal.piece-key-requires
piece-key-requires g c =
    ends_within c.loop-index.index c.args.count c.args.layout.key_len (length c.args.keys.now) (omega (arith, c.loop-index-test.true, c.deciding_pairs-deciding.ensures.most)) (c.are_pieces.ensures.0 c.if-not-are_pieces.false).keys

pub piece-value-requires : goal.piece-value-requires
piece-value-requires g c =
    ends_within c.loop-index.index c.args.count c.args.layout.value_len (length c.args.values.now) (omega (arith, c.loop-index-test.true, c.deciding_pairs-deciding.ensures.most)) (c.are_pieces.ensures.0 c.if-not-are_pieces.false).values

pub returns-in-Err-insert : goal.returns-in-Err-insert
returns-in-Err-insert g c =
    let l = c.args.layout in
    of_long (c.are_pieces.ensures.0 c.if-not-are_pieces.false)
    (refused_growing (bytes_coding (format_of l.key_len l.value_len g.H.HashFn.hash)) _ _ (equal l.key_len l.value_len c.args.count c.args.keys.now c.args.values.now) _ _ _ failed Memory refl refl refl)

pub loop-index-preserved : goal.loop-index-preserved
loop-index-preserved g c =
    let kl = c.args.layout.key_len in
    let vl = c.args.layout.value_len in
    let n = c.args.count in
    let i = c.loop-index.index in
    let k = c.piece-key.result.now in
    let v = c.piece-value.result.now in
    let keys = pieces kl n c.args.keys.now in
    let values = pieces vl n c.args.values.now in
    let was = c.loop-index.invariant in
    let low : i < n = omega (arith, c.loop-index-test.true, c.deciding_pairs-deciding.ensures.most) in
    let here : slice_get (zip keys values) i ≡ Some (k, v) = zip_at keys values i k v (c.piece-key.ensures.value n low) (c.piece-value.ensures.value n low) in
    let one = c.in_default.ensures in
    let lengths = c.insert.ensures.layout in
    record {
      key_len = ap (λ (t : DynStore Table). t.key_len) lengths ∙ was.key_len;
      value_len = ap (λ (t : DynStore Table). t.value_len) lengths ∙ was.value_len;
      store = subst (λ xs. IsGrownTable (bytes_coding (format_of kl vl g.H.HashFn.hash)) xs c.insert.new.self.store) (sym (take_next (zip keys values) i (k, v) here))
          (one_more_grown kl vl g.H.HashFn.hash c.loop-index.table (take i (zip keys values)) k v _ was.key_len was.value_len was.store one.inserted one.maps one.stays);
    }

pub returns : goal.returns
returns g c =
    let kl = c.args.layout.key_len in
    let vl = c.args.layout.value_len in
    let n = c.args.count in
    let keys = pieces kl n c.args.keys.now in
    let values = pieces vl n c.args.values.now in
    let K = bytes_coding (format_of kl vl g.H.HashFn.hash) in
    let same = equal kl vl n c.args.keys.now c.args.values.now in
    let many = length-pieces kl n c.args.keys.now in
    let t = c.loop-index.table in
    let was = c.loop-index.invariant in
    let T = c.raw_bytes.result.now in
    let formats : dyn_format t g.H.HashFn.hash ≡ format_of kl vl g.H.HashFn.hash = λ i. format_of (was.key_len i) (was.value_len i) g.H.HashFn.hash in
    let is : IsImage K.format t.store T = subst (λ (F : Format). IsImage F t.store T) formats c.raw_bytes.ensures in
    let long : length (zip keys values) ≡ n = omega (arith, length-zip keys values, many, same) in
    let d = c.deciding_pairs-deciding.result in
    let last : c.loop-index.index ≡ d = omega (arith, c.loop-index-test.false, c.loop-index.auto.index-end) in
    let so_far : IsGrownTable K (take d (zip keys values)) t.store = subst (λ m. IsGrownTable K (take m (zip keys values)) t.store) last was.store in
    let first : IsGrownAfterInserts K (take d (zip keys values)) T = grown_bytes K (take d (zip keys values)) t.store T so_far is in
    let all = decided_grown kl vl n d c.args.keys.now c.args.values.now g.H.HashFn.hash c.deciding_pairs-deciding.ensures.most c.deciding_pairs-deciding.ensures.cut T first in
    let grown = subst (λ xs. IsGrownAfterInserts K xs T) (take_all n (zip keys values) (omega (arith, long))) all in
    of_long (c.are_pieces.ensures.0 c.if-not-are_pieces.false)
    (handed_growing K keys values same T c.args.out.now c.args.len.now c.hand_out.result c.hand_out.new.out c.hand_out.new.len grown c.hand_out.ensures.copied c.hand_out.ensures.status)
