use Rattle.std.proofs.Common.{◌≡◌, ◌∙◌, ℕ, List, length, sym, ap, subst, arith}
use Rattle.std.specs.Prelude.{IfOk}
use Rattle.odht_raw.specs.Words.{Coding, coding_of, Format, format_of, IsImage}
use Rattle.odht_raw.specs.Frame.{IsAccepted, IsFramed}
use Rattle.odht_raw.specs.Runs.{IsOnePlaced}
use Rattle.odht_raw.proofs.lemmas.Accepted.{accepted_opening}
use Rattle.odht_raw.proofs.lemmas.Borrows.{borrowed-bytes, borrowed-same}
use Rattle.odht_raw.proofs.memory_layout.allocation.Allocation.insert_by.Given.{Over}
use Rattle.odht_raw.proofs.memory_layout.allocation.Allocation.insert_by.Goals as goal
use Rattle.odht_raw.proofs.memory_layout.allocation.Allocation.insert_by.Goals.{After-insert_typed}

abbrev format : Over → Format
format g = format_of g.C.EncodedKey.ByteArray.LEN g.C.EncodedValue.ByteArray.LEN g.C.H.HashFn.hash

-- the coding of the configuration
abbrev coding : (g : Over) → Coding g.row.C-Key.Denot g.row.C-Value.Denot
coding g =
    let key = g.C.EncodedKey.ByteArray in
    let value = g.C.EncodedValue.ByteArray in
    coding_of key.LEN key.bytes key.of_bytes value.LEN value.bytes value.of_bytes g.C.H.HashFn.hash
    g.C.Config.encode_key g.C.Config.encode_value g.C.Config.decode_key g.C.Config.decode_value

pub insert_typed-requires-clause-accepted : goal.insert_typed-requires-clause-accepted
insert_typed-requires-clause-accepted g c κs within = subst (IsAccepted (format g)) (sym c.bytes_mut-bytes.ensures.value) c.self.invariant.0

pub of-requires : goal.of-requires
of-requires g c = (accepted_opening (format g) c.bytes_mut-bytes.result.now (subst (IsAccepted (format g)) (sym c.bytes_mut-bytes.ensures.value) c.self.invariant.0)).long

-- the store that is left
module _ (g : Over) (c : After-insert_typed g) where
  abbrev joined : List ℕ
  joined = c.insert_typed.new.bytes

  abbrev left : g.row.M.Denot
  left = g.M.ByteStoreMut.after_borrow c.self.inside.store joined

  long : length joined ≡ length (g.M.ByteStore.bytes c.self.inside.store)
  long = c.insert_typed.ensures.len ∙ ap length c.bytes_mut-bytes.ensures.value

  -- has these bytes
  has_bytes : g.M.ByteStore.bytes left ≡ joined
  has_bytes = borrowed-bytes g.M.ByteStore.bytes g.M.ByteStoreMut.holding g.M.ByteStoreMut.after_borrow g.met.M.ByteStoreMut.held g.met.M.ByteStoreMut.after_borrow_fits c.self.inside.store joined long

  before : c.bytes_mut-bytes.result.now ≡ g.M.ByteStore.bytes c.args.self.now
  before = c.bytes_mut-bytes.ensures.value ∙ ap g.M.ByteStore.bytes c.self.view_is

  left_accepted : IsAccepted (format g) (g.M.ByteStore.bytes left)
  left_accepted = subst (IsAccepted (format g)) (sym has_bytes) c.insert_typed.ensures.accepted

pub returns-clause-placed : goal.returns-clause-placed
returns-clause-placed g c P is =
    let at = (goal.at.returns-clause-placed g c).After-insert_typed in
    subst (λ (B : List ℕ). IfOk c.insert_typed.result (λ old. IsOnePlaced (coding g) P c.args.key.now c.args.value.now old B)) (sym (has_bytes g at))
    (c.insert_typed.ensures.placed P (subst (IsImage (format g) P) (sym (before g at)) is))

pub returns-clause-framed : goal.returns-clause-framed
returns-clause-framed g c =
    let at = (goal.at.returns-clause-framed g c).After-insert_typed in
    subst (λ (B : List ℕ). IsFramed (coding g) (g.M.ByteStore.bytes c.args.self.now) c.args.key.now c.args.value.now c.insert_typed.result B) (sym (has_bytes g at))
    (subst (λ (B : List ℕ). IsFramed (coding g) B c.args.key.now c.args.value.now c.insert_typed.result c.insert_typed.new.bytes) (before g at) c.insert_typed.ensures.framed)

pub returns-clause-same_store : goal.returns-clause-same_store
returns-clause-same_store g c =
    let at = (goal.at.returns-clause-same_store g c).After-insert_typed in
    subst (λ s. left g at ≡ g.M.ByteStoreMut.holding s (g.M.ByteStore.bytes (left g at))) c.self.view_is
    (borrowed-same g.M.ByteStore.bytes g.M.ByteStoreMut.holding g.M.ByteStoreMut.after_borrow g.met.M.ByteStoreMut.held g.met.M.ByteStoreMut.after_borrow_fits c.self.inside.store (joined g at) (long g at))

pub returns-clause-accepted : goal.returns-clause-accepted
returns-clause-accepted g c = left_accepted g (goal.at.returns-clause-accepted g c).After-insert_typed

pub invariant_of-self : goal.invariant_of-self
invariant_of-self g c =
    let at = (goal.at.invariant_of-self g c).After-insert_typed in
    (left_accepted g at, omega (arith, ap length (has_bytes g at), c.insert_typed.ensures.len, c.bytes_mut-bytes.type_inv.0))
