-- Worked examples: the write of a pair where the search for its key ended, in the bytes of a table, and what it may not do.
use Rattle.std.proofs.Common.{◌≡◌, ◌∙◌, ℕ, List, Bool, true, false, true≢false, Some, IfOk, length, sym}
use Rattle.std.proofs.lemmas.Option.{none-some}
use Rattle.odht_raw.specs.Words.{Coding, controls_of, entries_of, Format, IsImage, Table, tag as key_tag, value_for}
use Rattle.odht_raw.specs.EndWrites.{IsKeyEnd, IsEndWrite, end_answer}
use Rattle.odht_raw.specs.Frame.{IsAccepted, IsFramed}
use Rattle.odht_raw.specs.Parts.{stored_in}
use Rattle.odht_raw.specs.Runs.{IsOnePlaced}
use Rattle.odht_raw.specs.Searches.{IsSearchEnd}
use Rattle.odht_raw.specs.declared.raw_table.search_result.Search.{Search}
use Rattle.odht_raw.specs.declared.raw_table.search_result.Search.TheVariants.{Found, Free}

module _ (F : Format) (B k : List ℕ) (r : Search × ℕ) where
  -- where the search ended, and the tag of the key
  pub key_end : IsSearchEnd F (stored_in (entries_of F B) (controls_of F B)) (controls_of F B) k r.0 → r.1 ≡ key_tag F k → IsKeyEnd F B k r
  key_end end tag = record { end = end; tag = tag }

  -- the end of another search, as of another key, and another tag are refused
  pub other_end_refused : (IsSearchEnd F (stored_in (entries_of F B) (controls_of F B)) (controls_of F B) k r.0 → ⊥) → IsKeyEnd F B k r → ⊥
  other_end_refused other h = other h.end

  pub other_tag_refused : (r.1 ≡ key_tag F k → ⊥) → IsKeyEnd F B k r → ⊥
  other_tag_refused other h = other h.tag

module _ (c : Coding (List ℕ) (List ℕ)) (B k v B' : List ℕ) where
  -- a new pair that is placed and counted, in accepted bytes
  pub new_pair : (i : ℕ) → ((P : Table) → IsImage c.format P B → IfOk (end_answer c.format B (Free i) true) (λ old. IsOnePlaced c P k v old B'))
      → IsFramed c B k v (end_answer c.format B (Free i) true) B' → IsAccepted c.format B' → length B' ≡ length B → IsEndWrite c B k v (Free i) true B'
  new_pair i placed framed accepted len = record { placed = placed; framed = framed; found = tt; accepted = accepted; len = len }

  -- a value of the table is not lost: a pair is new only where the table has no value for the key
  pub lost_value_refused : (P : Table) (i : ℕ) (x : List ℕ) → IsImage c.format P B → value_for c P k ≡ Some x → IsEndWrite c B k v (Free i) true B' → ⊥
  lost_value_refused P i x is there h = none-some x ((h.placed P is).0 ∙ there)

  -- a value that the search found is written
  pub unwritten_value_refused : (i : ℕ) → IsEndWrite c B k v (Found i) false B' → ⊥
  unwritten_value_refused i h = true≢false (sym h.found)

  -- no byte changes but those of an insert with this answer
  pub other_bytes_refused : (r : Search) (w : Bool) → (IsFramed c B k v (end_answer c.format B r w) B' → ⊥) → IsEndWrite c B k v r w B' → ⊥
  other_bytes_refused r w other h = other h.framed

  -- header and length still fit
  pub unaccepted_refused : (r : Search) (w : Bool) → (IsAccepted c.format B' → ⊥) → IsEndWrite c B k v r w B' → ⊥
  unaccepted_refused r w other h = other h.accepted

  pub longer_refused : (r : Search) (w : Bool) → (length B' ≡ length B → ⊥) → IsEndWrite c B k v r w B' → ⊥
  longer_refused r w other h = other h.len
