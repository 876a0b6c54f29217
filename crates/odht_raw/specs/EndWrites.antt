-- The write of a pair where the search for its key ended, in the bytes of a table.
--     IsKeyEnd F B k r     r is where the search for the key k ends in the parts of the bytes B, with the tag of k
--     end_answer F B r w   the answer of an insert whose search ended at r: the former value, read in the bytes B, in an
--                          Ok, where w says that the pair was written; else `Full`
--     IsEndWrite c B k v r w B'  the pair of k and v is written where the search for k ended, r, and w says whether. Where the
--                          search found k it is (`found`). Accepted bytes B become as many accepted bytes B': of the
--                          image of a table the image with the pair placed (`placed`), of any bytes what an insert
--                          with this answer leaves (`framed`)
use Rattle.std.specs.Prelude.{◌≡◌, ℕ, List, length, Bool, Option, Result, IfOk, IsTrue, ⊤}
use Rattle.odht_raw.specs.Words.{Coding, controls_of, entries_of, Error, Format, IsImage, Table, tag as key_tag}
use Rattle.odht_raw.specs.Formers.{answered, write_result}
use Rattle.odht_raw.specs.Frame.{IsAccepted, IsFramed}
use Rattle.odht_raw.specs.Parts.{stored_in}
use Rattle.odht_raw.specs.Runs.{IsOnePlaced}
use Rattle.odht_raw.specs.SearchResults.{MatchSearchResult}
use Rattle.odht_raw.specs.Searches.{IsSearchEnd}
use Rattle.odht_raw.specs.declared.raw_table.search_result.Search.{Search}

pub record IsKeyEnd (F : Format) (B k : List ℕ) (r : Search × ℕ) : Type 0 where
  pub end : IsSearchEnd F (stored_in (entries_of F B) (controls_of F B)) (controls_of F B) k r.0
  pub tag : r.1 ≡ key_tag F k

abbrev pub end_answer : Format → List ℕ → Search → Bool → Result (Option (List ℕ)) Error
end_answer F B r w = answered F (entries_of F B) r (write_result w)

pub record IsEndWrite (c : Coding (List ℕ) (List ℕ)) (B k v : List ℕ) (r : Search) (w : Bool) (B' : List ℕ) : Type 0 where
  pub placed : (P : Table) → IsImage c.format P B → IfOk (end_answer c.format B r w) (λ old. IsOnePlaced c P k v old B')
  pub framed : IsFramed c B k v (end_answer c.format B r w) B'
  pub found : MatchSearchResult r (λ _. IsTrue w) (λ _. ⊤) ⊤
  pub accepted : IsAccepted c.format B'
  pub len : length B' ≡ length B
