use Rattle.std.proofs.Common.{◌≡◌, ◌∙◌, ◌-◌, ◌%◌, ◌^◌, ◌/◌, ℕ, List, bit_and, ap}
use Rattle.odht_raw.specs.Words.{bytes_at, equal, first_free, Format, home, IsSlotCount, tag}
use Rattle.odht_base.proofs.lemmas.SlotCounts.{bit_and-slots}
use Rattle.odht_raw.specs.FirstLooks.{home_group}
use Rattle.odht_raw.specs.Parts.{TableParts}
use Rattle.odht_raw.specs.DynParts.{parts_format}
use Rattle.odht_raw.proofs.raw_table.parts.Parts.first_look.Goals as goal

pub returns : goal.returns
returns g c =
    let F : Format = parts_format c.args.self.now g.H.HashFn.hash in
    let T : TableParts = c.args.self.now.parts in
    let k : List ℕ = c.args.key.now in
    let s : ℕ = T.entries.slots in
    let count : IsSlotCount s = c.len-mask.ensures.whole.slots in
    let hash : c.hash-hash.result ≡ F.hash k = c.hash-hash.ensures in
    let slots : c.len-mask.result ≡ s = c.len-mask.ensures.value in
    let at_home : bit_and c.hash-hash.result (c.len-mask.result - 1) ≡ home F k s =
    ap (λ n. bit_and c.hash-hash.result (n - 1)) slots ∙ bit_and-slots c.hash-hash.result s count ∙ ap (λ x. x % s) hash in
    let bytes : bytes_at c.controls-control.result.now (bit_and c.hash-hash.result (c.len-mask.result - 1)) 16 ≡ home_group F T k =
    ap (λ (b : List ℕ). bytes_at b (bit_and c.hash-hash.result (c.len-mask.result - 1)) 16) c.controls-control.ensures.value ∙ ap (λ n. bytes_at T.control n 16) at_home in
    let byte : c.tag_of.result ≡ tag F k = c.tag_of.ensures ∙ ap (λ h. h / 2 ^ 25) hash in
    let matches : c.of.result.matches ≡ equal (home_group F T k) (tag F k) = c.of.ensures.equal ∙ ap (λ bs. equal bs c.tag_of.result) bytes ∙ ap (equal (home_group F T k)) byte in
    let free : c.of.result.free ≡ first_free (home_group F T k) = c.of.ensures.free ∙ ap first_free bytes in
    λ i. record { hash = hash i; matches = matches i; free = free i }
