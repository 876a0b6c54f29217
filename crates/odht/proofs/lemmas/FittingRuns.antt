-- Pairs that are placed in turn and end within the maximum: each insert on the way is one that its table takes.
use Rattle.std.proofs.Common.{inl, inr, ◌≡◌, ◌≤◌, ◌+◌, ◌∙◌, ℕ, Bool, true, false, cond, ap, refl, List, [], ◌∷◌, Option, Some, None, arith, All}
use Rattle.std.specs.Prelude.{is_none, option_and_then}
use Rattle.std.proofs.lemmas.List.Elements.{All-head, All-tail}
use Rattle.odht_raw.specs.Words.{count, Format, IsPairOf, IsPlaced, IsValid, map_of, max_items, Pair, place, place_all, slot_count, Table}
use Rattle.odht_base.specs.Insert.{run, insert_owned, insert_view}
use Rattle.odht_base.proofs.lemmas.Grown.{place-IsInsert, slot_count-place_all}
use Rattle.odht_base.proofs.lemmas.InsertRuns.{factor-run}
use Rattle.odht_base.proofs.lemmas.Options.{some_same, and_then_some}
use Rattle.odht_base.proofs.lemmas.Places.{count-place, place-IsPlaced}
use Rattle.odht_base.proofs.lemmas.TableInserts.{TakesKey, place-IsValid, insert_owned-takes, insert_view-takes}

-- an insert that places its pair in a table that takes the key
abbrev pub PlacesTaken : Format → (Table → Pair → Option Table) → Type 0
PlacesTaken F insert = (P : Table) (p : Pair) → TakesKey P p.key → insert P p ≡ place F P p

pub insert_owned-PlacesTaken : (F : Format) → PlacesTaken F (insert_owned F)
insert_owned-PlacesTaken F P p takes = insert_owned-takes F P p takes

pub insert_view-PlacesTaken : (F : Format) → PlacesTaken F (insert_view F)
insert_view-PlacesTaken F P p takes = insert_view-takes F P p takes

-- pairs that are placed take none away
count-place_all : (F : Format) (P Q : Table) (ps : List Pair) → IsPlaced F P → All (IsPairOf F) ps → place_all F P ps ≡ Some Q → count P ≤ count Q
count-place_all F P Q [] ok fit e = let same = ap count (some_same P Q e) in omega arith
count-place_all F P Q (p ∷ ps) ok fit e =
    let t = and_then_some (λ R. place_all F R ps) (place F P p) Q e in
    let rest = count-place_all F t.0 Q ps (place-IsPlaced F P t.0 p ok t.1 (All-head (IsPairOf F) p ps fit)) (All-tail (IsPairOf F) p ps fit) t.2 in
    go (is_none (map_of P p.key)) (count-place F P t.0 p ok t.1) rest
  where
    go : {n : ℕ} (b : Bool) → n ≡ cond b (count P + 1) (count P) → n ≤ count Q → count P ≤ count Q
    go true h l = omega arith
    go false h l = omega arith

-- a placed pair of a table that ends within the maximum is one that it takes
takes_key : (P Q : Table) (k : List ℕ) (o : Option (List ℕ)) → map_of P k ≡ o → {n : ℕ} → n ≡ cond (is_none o) (count P + 1) (count P) → n ≤ count Q → count Q ≤ max_items (slot_count Q) Q.factor
    → slot_count Q ≡ slot_count P → Q.factor ≡ P.factor → TakesKey P k
takes_key P Q k None e counted few room slots factor =
    let most : max_items (slot_count Q) Q.factor ≡ max_items (slot_count P) P.factor = λ i. max_items (slots i) (factor i) in
    inl (omega (arith, counted, few, room, most))
takes_key P Q k (Some v) e counted few room slots factor = inr (ap is_none e)

-- so the inserts place the pairs
pub run-fitting : (F : Format) (insert : Table → Pair → Option Table) → PlacesTaken F insert → (P : Table) (ps : List Pair) (Q : Table) → IsValid F P → All (IsPairOf F) ps → place_all F P ps ≡ Some Q → IsValid F Q
    → run insert P ps ≡ Some Q
run-fitting F insert places P [] Q ok fit e last = e
run-fitting F insert places P (p ∷ ps) Q ok fit e last =
    let t = and_then_some (λ R. place_all F R ps) (place F P p) Q e in
    let head = All-head (IsPairOf F) p ps fit in
    let tail = All-tail (IsPairOf F) p ps fit in
    let rest = count-place_all F t.0 Q ps (place-IsPlaced F P t.0 p ok.placed t.1 head) tail t.2 in
    let slots = slot_count-place_all F P Q (p ∷ ps) ok.placed fit e in
    let factor = factor-run F (IsPlaced F) (place F) (place-IsInsert F) P Q (p ∷ ps) ok.placed fit e in
    let takes = takes_key P Q p.key (map_of P p.key) refl (count-place F P t.0 p ok.placed t.1) rest last.room slots factor in
    ap (option_and_then (λ R. run insert R ps)) (places P p takes ∙ t.1)
    ∙ run-fitting F insert places t.0 ps Q (place-IsValid F P t.0 p ok takes head t.1) tail t.2 last
