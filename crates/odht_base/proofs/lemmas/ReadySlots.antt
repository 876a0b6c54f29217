-- Which slots are ready after those taken so far, as a walk through the probe order of a slot's key finds it.
use Rattle.std.proofs.Common.{◌≡◌, ◌<◌, ◌∙◌, ◌⊎◌, inl, inr, ℕ, Bool, true, false, true≢false, sym, ap, subst, refl, List, Contains, eqb}
use Rattle.std.specs.List.{list_any}
use Rattle.std.proofs.lemmas.Bool.{cases_order}
use Rattle.std.proofs.lemmas.Bool.Decides.{Decides-eqb}
use Rattle.std.proofs.lemmas.Map.Made.{is_member-Decides}
use Rattle.odht_base.specs.Format.{Format, home}
use Rattle.odht_base.specs.Probe.{probe_slot}
use Rattle.odht_base.specs.Ready.{IsReady, IsStuck}
use Rattle.odht_base.specs.Table.{Pair, Table, slot_count}
use Rattle.odht_base.specs.Valid.{HoldsPair}
use Rattle.odht_base.proofs.lemmas.Keys.{cell_at-within}
use Rattle.odht_base.proofs.lemmas.Options.{some_same}

-- a slot is among the slots of a list or not
pub contains_or_not : (xs : List ℕ) (i : ℕ) → Contains xs i ⊎ (Contains xs i → ⊥)
contains_or_not xs i = go (list_any (eqb i) xs) refl
  where
    go : (b : Bool) → list_any (eqb i) xs ≡ b → Contains xs i ⊎ (Contains xs i → ⊥)
    go true e = inl ((is_member-Decides Decides-eqb xs i).0 e)
    go false e = inr (λ h. true≢false (sym ((is_member-Decides Decides-eqb xs i).1 h) ∙ e))

module _ (F : Format) (P : Table) where
  -- a ready slot is one of the table
  pub ready-lt : (xs : List ℕ) (i : ℕ) → IsReady F P xs i → i < slot_count P
  ready-lt xs i r = cell_at-within P.cells i r.pair r.holds

  -- a slot stays ready when more are taken
  pub ready_later : (xs ys : List ℕ) (i : ℕ) → ((j : ℕ) → Contains xs j → Contains ys j) → IsReady F P xs i → IsReady F P ys i
  ready_later xs ys i more r = record { pair = r.pair; holds = r.holds; position = r.position; in_order = r.in_order; slot_is = r.slot_is; earlier_taken = λ q l. more _ (r.earlier_taken q l) }

  -- where no slot outside the list is ready, it is stuck
  pub stuck_if_none : (xs : List ℕ) → ((i : ℕ) → i < slot_count P → (Contains xs i → ⊥) → IsReady F P xs i → ⊥) → IsStuck F P xs
  stuck_if_none xs none i r = elim (contains_or_not xs i) [ inl here ↦ here | inr out ↦ absurd (none i (ready-lt xs i r) out r) ]

  module _ (xs : List ℕ) (i : ℕ) (p : Pair) (holds : HoldsPair P i p) where
    -- the slot at a position of the order of its key
    abbrev slot : ℕ → ℕ
    slot q = probe_slot (home F p.key (slot_count P)) (slot_count P) q

    -- the pair of a ready slot is the slot's
    ready_pair : (r : IsReady F P xs i) → r.pair ≡ p
    ready_pair r = some_same _ _ (sym r.holds ∙ holds)

    -- so the slot is at its position of that order
    ready_slot : (r : IsReady F P xs i) → slot r.position ≡ i
    ready_slot r = ap (λ (d : Pair). probe_slot (home F d.key (slot_count P)) (slot_count P) r.position) (sym (ready_pair r)) ∙ r.slot_is

    -- and each earlier position of it is taken
    ready_earlier : (r : IsReady F P xs i) (q : ℕ) → q < r.position → Contains xs (slot q)
    ready_earlier r q l = subst (λ (d : Pair). Contains xs (probe_slot (home F d.key (slot_count P)) (slot_count P) q)) (ready_pair r) (r.earlier_taken q l)

    -- a walk that meets a slot that is not taken before it meets slot i finds slot i not ready
    pub not_ready : (n : ℕ) → ((q : ℕ) → q < n → slot q ≡ i → ⊥) → (slot n ≡ i → ⊥) → (Contains xs (slot n) → ⊥) → IsReady F P xs i → ⊥
    not_ready n before other out r = elim (cases_order r.position n) [
      | inl same ↦ other (ap slot (sym same) ∙ ready_slot r)
      | inr differ ↦ elim differ [
        | inl below ↦ before r.position below (ready_slot r)
        | inr above ↦ out (ready_earlier r n above)
      ]
    ]

    -- and so does one that never meets slot i
    pub never_ready : ((q : ℕ) → q < slot_count P → slot q ≡ i → ⊥) → IsReady F P xs i → ⊥
    never_ready nowhere r = nowhere r.position r.in_order (ready_slot r)
