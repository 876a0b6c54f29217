use Rattle.std.proofs.Common.{◌≡◌, ◌<◌, refl, subst, take, length, List, arith, inl, inr}
use Rattle.std.proofs.lemmas.Bool.{false≢true}
use Rattle.std.specs.List.{slice_range}
use Rattle.odht_raw.specs.Words.{Coding, coding_of, IsFormat, IsImage, Pair, Table}
use Rattle.odht_base.specs.Insert.{insert_view}
use Rattle.odht_base.proofs.lemmas.FreshRuns.{insert_view-PlacesBelow}
use Rattle.odht_base.proofs.lemmas.TableInserts.{insert_view-IsInsert}
use Rattle.odht_header.proofs.lemmas.Formats.{IsFormat-format_of}
use Rattle.odht_raw.proofs.lemmas.PartRuns.{take-range}
use Rattle.odht_raw.specs.Runs.{IsListRun}
use Rattle.odht.specs.Lists.{encoded_all, IsAfterInserts, IsFramedRun, IsStoppedAt}
use Rattle.odht.proofs.lemmas.FittingRuns.{insert_view-PlacesTaken}
use Rattle.odht.proofs.lemmas.ListInserts.{inserted_none, inserted_placed, encoded_all-range, refused_here}
use Rattle.odht.proofs.hash_table.HashTable.insert_items.Given.{Over}
use Rattle.odht.proofs.hash_table.HashTable.insert_items.Goals as goal
use Rattle.odht.proofs.hash_table.HashTable.insert_items.Goals.{After-insert_items-accepted}

-- the coding of the configuration
abbrev coding : (g : Over) → Coding g.row.C-Key.Denot g.row.C-Value.Denot
coding g =
    let key = g.C.EncodedKey.ByteArray in
    let value = g.C.EncodedValue.ByteArray in
    coding_of key.LEN key.bytes key.of_bytes value.LEN value.bytes value.of_bytes g.C.H.HashFn.hash
    g.C.Config.encode_key g.C.Config.encode_value g.C.Config.decode_key g.C.Config.decode_value

-- its format
fits : (g : Over) → IsFormat (coding g).format
fits g = IsFormat-format_of _ _ _ _ g.met.C.Config.key_fits g.met.C.Config.value_fits g.met.C.Config.key_hashes g.met.C.H.HashFn.fits

-- the run over the items
ran : (g : Over) (c : After-insert_items-accepted g) → IsListRun (coding g) (g.D.ByteStore.bytes c.args.self.now) (g.I.Items.items c.args.items.now) 0 c.insert_items-accepted.result (g.D.ByteStore.bytes c.insert_items-accepted.new.self)
ran g c = rw (← c.self.view_is) c.insert_items-accepted.ensures.run

-- and the store stays the same one
kept : (g : Over) (c : After-insert_items-accepted g) → c.insert_items-accepted.new.self ≡ g.D.ByteStoreMut.holding c.args.self.now (g.D.ByteStore.bytes c.insert_items-accepted.new.self)
kept g c = rw (← c.self.view_is) c.insert_items-accepted.ensures.same_store

-- the table after the items that were accepted
inserted_here : (g : Over) (c : After-insert_items-accepted g) (P : Table) → IsImage (coding g).format P (g.D.ByteStore.bytes c.args.self.now)
    → IsAfterInserts (coding g).format (insert_view (coding g).format) P (encoded_all (coding g) (take c.insert_items-accepted.result (g.I.Items.items c.args.items.now))) (g.D.ByteStore.bytes c.insert_items-accepted.new.self)
inserted_here g c P is =
    let K = coding g in
    let insert = insert_view K.format in
    let items = g.I.Items.items c.args.items.now in
    let n = c.insert_items-accepted.result in
    let now = g.D.ByteStore.bytes c.insert_items-accepted.new.self in
    let h = inserted_none K.format insert P (g.D.ByteStore.bytes c.args.self.now) is in
    subst (λ (ps : List Pair). IsAfterInserts K.format insert P ps now) (encoded_all-range K items 0 n (omega arith))
    (inserted_placed K.format insert (insert_view-IsInsert K.format) (insert_view-PlacesBelow K.format) P (insert_view-PlacesTaken K.format) (encoded_all K (take 0 items)) (encoded_all K (slice_range items 0 n)) _ now
    h ((ran g c).placed h.table h.image))

-- on any bytes
framed_here : (g : Over) (c : After-insert_items-accepted g)
    → IsFramedRun (coding g) (g.D.ByteStore.bytes c.args.self.now) (take c.insert_items-accepted.result (g.I.Items.items c.args.items.now)) (g.D.ByteStore.bytes c.insert_items-accepted.new.self)
framed_here g c =
    let items = g.I.Items.items c.args.items.now in
    subst (λ (xs : List (g.row.C-Key.Denot × g.row.C-Value.Denot)). IsFramedRun (coding g) (g.D.ByteStore.bytes c.args.self.now) xs (g.D.ByteStore.bytes c.insert_items-accepted.new.self))
    (take-range items 0 c.insert_items-accepted.result (omega arith)) (ran g c).framed

-- the item that failed
stopped_here : (g : Over) (c : After-insert_items-accepted g) → c.insert_items-accepted.result < length (g.I.Items.items c.args.items.now)
    → IsStoppedAt (coding g) (g.I.Items.items c.args.items.now) c.insert_items-accepted.result (g.D.ByteStore.bytes c.insert_items-accepted.new.self)
stopped_here g c low = elim (ran g c).stopped [ inl e ↦ absurd (omega (arith, e, low)) | inr stopped ↦ stopped ]

pub returns-then-accepted-count : goal.returns-then-accepted-count
returns-then-accepted-count g c =
    let at = (goal.at.returns-then-accepted-count g c).After-insert_items-accepted in
    let low : c.insert_items-accepted.result < length (g.I.Items.items c.args.items.now) = omega (arith, c.if-accepted-count.true, c.count.ensures) in
    let stopped = stopped_here g at low in
    record {
      bound = (ran g at).within;
      all = (λ e. absurd (false≢true e), λ e. absurd (omega (arith, e, low)));
      inserted = inserted_here g at;
      framed = framed_here g at;
      same_store = kept g at;
      accepted = c.insert_items-accepted.ensures.accepted;
      at_maximum = λ P is. refused_here (coding g) (fits g) P (g.I.Items.items c.args.items.now) c.insert_items-accepted.result _ is stopped;
      stopped = stopped;
      only_full = refl;
    }

pub returns : goal.returns
returns g c =
    let at = (goal.at.returns g c).After-insert_items-accepted in
    let within = (ran g at).within in
    record {
      bound = within;
      all = (λ _. omega (arith, within, c.if-accepted-count.false, c.count.ensures), λ _. refl);
      inserted = inserted_here g at;
      framed = framed_here g at;
      same_store = kept g at;
      accepted = c.insert_items-accepted.ensures.accepted;
      at_maximum = λ P is. tt;
      stopped = tt;
      only_full = tt;
    }
