-- An insert that a view takes is the one that an owned table takes.
use Rattle.std.proofs.Common.{◌≡◌, ◌∙◌, Option, Some, Ok, List, ℕ}
use Rattle.odht_base.specs.Insert.{insert_owned}
use Rattle.odht_raw.specs.Words.{Coding, encoded, Table}
use Rattle.odht_base.proofs.lemmas.TableInserts.{insert_owned-view}
use Rattle.odht.specs.Inserts.{IsInsertInto}

pub owned_of_view : {K V : Type 0} (c : Coding K V) (P : Table) (k : K) (v : V) (o : Option V) (B : List ℕ) (into : IsInsertInto c P k v (Ok o) B)
    → insert_owned c.format P (encoded c k v) ≡ Some into.inserted.table
owned_of_view c P k v o B into = insert_owned-view c.format P (encoded c k v) (λ e. let no = into.full.1 e in cc) ∙ into.inserted.inserted
