use Rattle.std.proofs.Common.{◌≡◌, ◌∙◌, subst, Ok, Result}
use Rattle.std.specs.Prelude.{OnOk}
use Rattle.odht.proofs.lemmas.PlainLists.{list_fresh}
use Rattle.odht_index.proofs.build.Goals as goal

-- what holds on success
at_ok : {T E P : Type 0} (r : Result T E) (x : T) → r ≡ Ok x → OnOk r P → P
at_ok {P = P} r x is holds = subst (λ q. OnOk q P) is holds

pub returns-clause-inserted : goal.returns-clause-inserted
returns-clause-inserted c =
    let same = c.in_ok-to_vec.ensures.items_if_clones_equal (λ y e h. h) in
    let said = c.insert_all.ensures in
    at_ok _ _ c.in_ok-insert_all.was (list_fresh _ _ _ _ _
    (record { bound = said.bound; all = said.all; inserted = said.inserted; maps = said.maps; stays = said.stays; last_values = said.last_values; at_maximum = said.at_maximum; memory = said.memory }) 87 _ c.in_ok-table.ensures.ok (record { valid = c.raw_bytes.ensures.valid; bytes = same ∙ c.raw_bytes.ensures.bytes }))

pub returns-clause-last_numbers : goal.returns-clause-last_numbers
returns-clause-last_numbers c =
    let same = c.in_ok-to_vec.ensures.items_if_clones_equal (λ y e h. h) in
    record {
      table = _;
      image = record { valid = c.raw_bytes.ensures.valid; bytes = same ∙ c.raw_bytes.ensures.bytes };
      maps = at_ok _ _ c.in_ok-insert_all.was (c.insert_all.ensures.last_values _ 87 c.in_ok-table.ensures.ok);
    }
