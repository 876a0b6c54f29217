use Rattle.std.proofs.Common.{rules, ◌≡◌, ◌∙◌, ◌+◌, ◌++◌, ◌<◌, ℕ, List, [], ◌∷◌, All, Bor, sym, ap, subst, refl, arith, length, map, drop, append_assoc}
use Rattle.std.proofs.lemmas.List.{map-append, length_push}
use Rattle.std.proofs.lemmas.List.Elements.{All-head, All-tail}
use Rattle.odht_base.specs.Format.{format_of}
use Rattle.odht_base.specs.Decoded.{header_slots}
use Rattle.odht_base.specs.SlotWalks.{numbered, slots_from}
use Rattle.odht_base.specs.Table.{Pair, Table, slot_count}
use Rattle.odht_header.specs.Coding.{Coding}
use Rattle.odht_header.proofs.lemmas.Formats.{IsFormat-format_of}
use Rattle.odht_raw.specs.Checks.{cells_of}
use Rattle.odht_raw.specs.DynParts.{DynParts, HasLengthsOf, bytes_coding, parts_format}
use Rattle.odht_raw.proofs.lemmas.Walks.{slots-image}
use Rattle.odht_raw.specs.Walks.{decoded_slots}
use Rattle.odht.specs.Walks.{AreSlots}
use Rattle.odht_calls.specs.Pieces.{pieces}
use Rattle.odht_calls.specs.Statuses.{done, too_small}
use Rattle.odht_calls.specs.Walks.{IsWalked, WalkAnswers}
use Rattle.odht_calls.proofs.lemmas.AnyLists.{read, slots_dynamic, one_more_piece}
use Rattle.odht_calls.proofs.lemmas.Layouts.{of_long}
use Rattle.odht_calls.proofs.lemmas.Pieces.{ends_within, length-pieces}
use Rattle.odht_calls.proofs.lemmas.Refused.{refused_walk}
use Rattle.odht_calls.proofs.lemmas.Walked.{walked_all, walked_full, accepted_walk}
use Rattle.odht_calls.proofs.any.read.walk.Given.{Over}
use Rattle.odht_calls.proofs.any.read.walk.Goals.{After-iter_from-slot-items, In-Some}
use Rattle.odht_calls.proofs.any.read.walk.Goals as goal

pub returns-in-Err : goal.returns-in-Err
returns-in-Err g c =
    of_long (c.are_pieces.ensures.0 c.if-not-are_pieces.false)
    (refused_walk _ _ c.in-Err.refused _ c.in-Err.ensures.err c.status_of.ensures _ _ _ _
    (length-pieces c.args.layout.value_len c.args.room c.args.values.now ∙ sym (length-pieces c.args.layout.key_len c.args.room c.args.keys.now)))

-- what the walk gives, of the bytes
slots_here : (g : Over) (c : After-iter_from-slot-items g) → AreSlots (format_of c.args.layout.key_len c.args.layout.value_len g.H.HashFn.hash) c.args.bytes.now c.args.cursor.now c.iter_from-slot-items.result
slots_here g c =
    let at = c.args.cursor.now in
    let fits = IsFormat-format_of _ _ _ _ (search rules) (search rules) c.requires g.met.H.HashFn.fits in
    let slots = c.iter_from-slot-items.ensures.items ∙ ap (λ (S : DynParts). numbered at (drop at (cells_of (parts_format S g.H.HashFn.hash) S.parts))) c.parts_in.ensures.parts in
    record { on_valid = λ P is. slots ∙ slots-image _ P _ at fits is; on_any = slots }

pub loop-slot-init : goal.loop-slot-init
loop-slot-init g c =
    let kl = c.args.layout.key_len in
    let vl = c.args.layout.value_len in
    let lengths : ℕ × Pair → Type 0 = λ x. HasLengthsOf kl vl x.1 in
    let slots = slots_here g (goal.at.loop-slot-init g c).After-iter_from-slot-items in
    record {
      walk = refl;
      written = refl;
      within = omega arith;
      lengths = subst (All lengths) (sym (c.into_iter-slot-iterator.ensures.into_iter_gives ∙ slots.on_any)) (slots_dynamic kl vl g.H.HashFn.hash c.args.bytes.now c.args.cursor.now (sym c.in-Ok.ensures.err));
      keys = refl;
      values = refl;
    }

-- the pair that comes next has the lengths of the table
next_fits : (g : Over) (c : In-Some g) → HasLengthsOf c.args.layout.key_len c.args.layout.value_len (record { key = c.in-Some.key.now; value = c.in-Some.value.now })
next_fits g c =
    All-head (λ (x : ℕ × Pair). HasLengthsOf c.args.layout.key_len c.args.layout.value_len x.1) (c.in-Some.slot, record { key = c.in-Some.key.now; value = c.in-Some.value.now }) c.next.new.self
    (subst (All (λ (x : ℕ × Pair). HasLengthsOf c.args.layout.key_len c.args.layout.value_len x.1)) c.in-Some.ensures.steps c.loop-slot.invariant.lengths)

pub put_piece-requires-clause-room : goal.put_piece-requires-clause-room
put_piece-requires-clause-room g c =
    ends_within c.loop-slot.written c.args.room c.args.layout.key_len (length c.loop-slot.keys) c.if-written-room.false (c.loop-slot.auto.keys ∙ (c.are_pieces.ensures.0 c.if-not-are_pieces.false).keys)

pub put_piece-requires-clause-len : goal.put_piece-requires-clause-len
put_piece-requires-clause-len g c = (next_fits g (goal.at.put_piece-requires-clause-len g c).In-Some).key

pub put_piece-requires-in-loop-slot-clause-room : goal.put_piece-requires-in-loop-slot-clause-room
put_piece-requires-in-loop-slot-clause-room g c =
    ends_within c.loop-slot.written c.args.room c.args.layout.value_len (length c.loop-slot.values) c.if-written-room.false (c.loop-slot.auto.values ∙ (c.are_pieces.ensures.0 c.if-not-are_pieces.false).values)

pub put_piece-requires-in-loop-slot-clause-len : goal.put_piece-requires-in-loop-slot-clause-len
put_piece-requires-in-loop-slot-clause-len g c = (next_fits g (goal.at.put_piece-requires-in-loop-slot-clause-len g c).In-Some).value

pub loop-slot-preserved : goal.loop-slot-preserved
loop-slot-preserved g c =
    let v = c.loop-slot.invariant in
    let kl = c.args.layout.key_len in
    let vl = c.args.layout.value_len in
    let K = bytes_coding (format_of kl vl g.H.HashFn.hash) in
    let n = c.args.room in
    let w = c.loop-slot.written in
    let room : w < n = c.if-written-room.false in
    let yielded = c.loop-slot.yielded in
    let item : ℕ × (Bor (List ℕ) × Bor (List ℕ)) = (c.in-Some.slot, (c.in-Some.key, c.in-Some.value)) in
    let more : map read (yielded ++ item ∷ []) ≡ map read yielded ++ read item ∷ [] = map-append read yielded (item ∷ []) in
    let keys = one_more_piece kl n w (λ x. x.1.0) (map read yielded) (read item) c.args.keys.now c.loop-slot.keys _ v.written room v.keys
    (c.put_piece.ensures n room (omega (arith, c.loop-slot.auto.keys, (c.are_pieces.ensures.0 c.if-not-are_pieces.false).keys))) in
    let values = one_more_piece vl n w (λ x. x.1.1) (map read yielded) (read item) c.args.values.now c.loop-slot.values _ v.written room v.values
    (c.put_piece-in-loop-slot.ensures n room (omega (arith, c.loop-slot.auto.values, (c.are_pieces.ensures.0 c.if-not-are_pieces.false).values))) in
    record {
      walk = v.walk ∙ ap (λ r. map read yielded ++ decoded_slots K r) c.in-Some.ensures.steps
          ∙ sym (append_assoc (map read yielded) (read item ∷ []) (decoded_slots K c.next.new.self)) ∙ ap (λ xs. xs ++ decoded_slots K c.next.new.self) (sym more);
      written = ap (λ k. k + 1) v.written ∙ sym (ap length more ∙ length_push (map read yielded) (read item));
      within = omega (arith, room);
      lengths = All-tail (λ (x : ℕ × Pair). HasLengthsOf kl vl x.1) (c.in-Some.slot, record { key = c.in-Some.key.now; value = c.in-Some.value.now }) c.next.new.self
          (subst (All (λ (x : ℕ × Pair). HasLengthsOf kl vl x.1)) c.in-Some.ensures.steps v.lengths);
      keys = keys ∙ ap (λ xs. map (λ x. x.1.0) xs ++ drop (w + 1) (pieces kl n c.args.keys.now)) (sym more);
      values = values ∙ ap (λ xs. map (λ x. x.1.1) xs ++ drop (w + 1) (pieces vl n c.args.values.now)) (sym more);
    }

module _ (g : Over) (c : After-iter_from-slot-items g) (ks' vs' : List ℕ) where
  abbrev kl : ℕ
  kl = c.args.layout.key_len

  abbrev vl : ℕ
  vl = c.args.layout.value_len

  abbrev n : ℕ
  n = c.args.room

  abbrev K : Coding (List ℕ) (List ℕ)
  K = bytes_coding (format_of kl vl g.H.HashFn.hash)

  -- the walk, of keys and values
  abbrev all : List (ℕ × (List ℕ × List ℕ))
  all = decoded_slots K c.iter_from-slot-items.result

  -- what a walk of the table gives that stops there is the answer
  answered : (s at' m : ℕ)
      → ((P : Table) → all ≡ decoded_slots K (slots_from P c.args.cursor.now) → slot_count P ≡ header_slots c.args.bytes.now
      → IsWalked K P c.args.cursor.now (pieces kl n c.args.keys.now) (pieces vl n c.args.values.now) s at' (pieces kl n ks') (pieces vl n vs') m)
      → WalkAnswers K c.args.bytes.now c.args.cursor.now (pieces kl n c.args.keys.now) (pieces vl n c.args.values.now) c.args.item_count.now s at' (pieces kl n ks') (pieces vl n vs') m
  answered s at' m walked =
      let slots = slots_here g c in
      accepted_walk K c.args.bytes.now c.args.bytes.now all c.args.cursor.now _ _ _ s at' _ _ m
      (length-pieces vl n c.args.values.now ∙ sym (length-pieces kl n c.args.keys.now)) c.in-Ok.ensures.err refl
      (λ P is. ap (decoded_slots K) (slots.on_valid P is)) (ap (decoded_slots K) slots.on_any) walked

pub returns-then-written-room : goal.returns-then-written-room
returns-then-written-room g c =
    let v = c.loop-slot.invariant in
    let at = (goal.at.returns-then-written-room g c).After-iter_from-slot-items in
    let K = bytes_coding (format_of c.args.layout.key_len c.args.layout.value_len g.H.HashFn.hash) in
    let room = length-pieces c.args.layout.key_len c.args.room c.args.keys.now in
    of_long (c.are_pieces.ensures.0 c.if-not-are_pieces.false)
    (answered g at c.loop-slot.keys c.loop-slot.values too_small c.in-Some.slot c.loop-slot.written
    (λ P is slots. walked_full K P c.args.cursor.now _ (map read c.loop-slot.yielded) (decoded_slots K c.loop-slot.slot-iterator) _ _ _ _ c.loop-slot.written is
    (ap (decoded_slots K) (sym c.into_iter-slot-iterator.ensures.into_iter_gives) ∙ v.walk) v.written (omega (arith, v.within, room)) v.keys v.values
    c.in-Some.slot (c.in-Some.key.now, c.in-Some.value.now) (decoded_slots K c.next.new.self) (ap (decoded_slots K) c.in-Some.ensures.steps) (omega (arith, c.if-written-room.true, room))))

pub returns : goal.returns
returns g c =
    let v = c.loop-slot.invariant in
    let at = (goal.at.returns g c).After-iter_from-slot-items in
    let K = bytes_coding (format_of c.args.layout.key_len c.args.layout.value_len g.H.HashFn.hash) in
    let room = length-pieces c.args.layout.key_len c.args.room c.args.keys.now in
    of_long (c.are_pieces.ensures.0 c.if-not-are_pieces.false)
    (answered g at c.loop-slot.keys c.loop-slot.values done c.slot_count.result c.loop-slot.written
    (λ P is slots. walked_all K P c.args.cursor.now _ (map read c.loop-slot.yielded) (decoded_slots K c.loop-slot.slot-iterator) _ _ _ _ c.loop-slot.written is
    (ap (decoded_slots K) (sym c.into_iter-slot-iterator.ensures.into_iter_gives) ∙ v.walk) v.written (omega (arith, v.within, room)) v.keys v.values
    (ap (decoded_slots K) c.in-None.ensures.steps.0) c.slot_count.result (c.slot_count.ensures ∙ ap header_slots c.in-Ok.ensures.ok ∙ sym slots)))
