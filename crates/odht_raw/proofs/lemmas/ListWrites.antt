-- The bytes of a table cut into header, entries and control bytes, and what they are once a list was inserted.
--     IsCut F B H es ctrl  the accepted bytes B are the header H, the entries es and the control bytes ctrl
use Rattle.std.proofs.Common.{◌≡◌, ◌<◌, ◌≤◌, ◌+◌, ◌-◌, ◌*◌, ◌^◌, ◌∙◌, ◌++◌, ℕ, sym, ap, ap₂, subst, List, take, drop, length, All, arith, lit≤, refl, append_assoc, length-append, length-take, length-drop, take_at, drop_at, take-append-drop, Ok, Err}
use Rattle.odht_raw.proofs.lemmas.Below.{All-take, bytes_at-between, bytes_at-take_front, header_count-image, header_factor-image, header_slots-image, IsSized-IsPlaced, length-entries, length-header_bytes, take-take}
use Rattle.odht_raw.specs.Words.{bytes_at, Coding, controls, controls_of, count, encoded, entries, entries_of, entry_len, Format, Full, header_bytes, header_count, header_factor, header_slots, image, IsImage, IsPairOf, IsPartsOf, IsSlotCount, max_items, num, Pair, slot_count, Table, with_count}
use Rattle.odht_raw.specs.EndWrites.{IsKeyEnd}
use Rattle.odht_raw.specs.Frame.{IsAccepted, InsertFrame, header_maximum}
use Rattle.odht_raw.specs.PartLengths.{ArePairLengths, ArePartLengths}
use Rattle.odht_raw.specs.Parts.{stored_in}
use Rattle.odht_raw.specs.Searches.{IsSearchEnd}
use Rattle.odht_raw.specs.declared.raw_table.search_result.Search.{Search}
use Rattle.odht_raw.specs.Steps.{StepFrame}
use Rattle.odht_raw.specs.Runs.{IsFramedRun, IsPartsRun, ArePartsOfRun, IsAllPlaced, IsRefusedIn, IsStoppedAt}
use Rattle.odht_raw.proofs.lemmas.Accepted.{accepted_len, accepted_slots}
use Rattle.odht_raw.proofs.lemmas.JoinedRuns.{joined, IsJoinedRun, run_joined, step_joined, length-with_count, with_count-by_header, accepted_joined, placed_joined}

pub record IsCut (F : Format) (B H es ctrl : List ℕ) : Type 0 where
  pub accepted : IsAccepted F B
  pub whole : B ≡ H ++ (es ++ ctrl)
  pub front : H ≡ take 32 B
  pub head : length H ≡ 32
  pub slots : header_slots H ≡ header_slots B
  pub count : header_count H ≡ header_count B
  pub factor : header_factor H ≡ header_factor B
  pub long : length es ≡ header_slots H * entry_len F
  pub mirrored : length ctrl ≡ header_slots H + 16

-- the bytes cut at the control bytes, and then behind the header
pub cut_accepted : (F : Format) (B : List ℕ) → IsAccepted F B → (at : ℕ) → at ≡ 32 + header_slots B * entry_len F
    → (T C H E : List ℕ) → T ≡ take at B → C ≡ drop at B → H ≡ take 32 T → E ≡ drop 32 T → IsCut F B H E C
cut_accepted F B is at here T C H E t c h e =
    let all = accepted_len F B is in
    let table : length T ≡ at = ap length t ∙ length-take at B ∙ omega (arith, all, here) in
    let whole : B ≡ T ++ C = sym (take-append-drop at B) ∙ ap₂ (λ x y. x ++ y) (sym t) (sym c) in
    let split : T ≡ H ++ E = sym (take-append-drop 32 T) ∙ ap₂ (λ x y. x ++ y) (sym h) (sym e) in
    let field : (from n : ℕ) → from + n ≤ 32 → bytes_at H from n ≡ bytes_at B from n = λ from n fits.
    ap (λ x. bytes_at x from n) h ∙ bytes_at-take_front T from n 32 fits ∙ ap (λ x. bytes_at x from n) t ∙ bytes_at-take_front B from n at (omega (arith, here, fits)) in
    let slots : header_slots H ≡ header_slots B = ap num (field 16 8 (lit≤ tt)) in
    record {
      accepted = is;
      whole = whole ∙ ap (λ x. x ++ C) split ∙ append_assoc H E C;
      front = h ∙ ap (take 32) t ∙ take-take 32 at B (omega (arith, here));
      head = ap length h ∙ length-take 32 T ∙ omega (arith, table, here);
      slots = slots;
      count = ap num (field 8 8 (lit≤ tt));
      factor = ap num (field 28 2 (lit≤ tt));
      long = ap length e ∙ length-drop 32 T ∙ omega (arith, table, here) ∙ ap (λ s. s * entry_len F) (sym slots);
      mirrored = ap length c ∙ length-drop at B ∙ omega (arith, all, here, slots);
    }

-- the bytes are as long as slots and entries of these numbers need
pub cut_len : (F : Format) (B : List ℕ) → IsAccepted F B → (s e : ℕ) → s ≡ header_slots B → e ≡ entry_len F → length B ≡ 32 + s * e + (s + 16)
cut_len F B is s e slots size =
    let all = accepted_len F B is in
    let same : s * e ≡ header_slots B * entry_len F = λ i. slots i * size i in
    omega (arith, all, same, slots)

module _ (F : Format) (B H es ctrl : List ℕ) (cut : IsCut F B H es ctrl) where
  -- the parts of a cut are those of the bytes
  pub cut-entries : entries_of F B ≡ es
  cut-entries =
      ap (λ b. bytes_at b 32 (header_slots B * entry_len F)) cut.whole
      ∙ bytes_at-between H es ctrl 32 (header_slots B * entry_len F) cut.head (cut.long ∙ ap (λ s. s * entry_len F) cut.slots)

  pub cut-controls : controls_of F B ≡ ctrl
  cut-controls =
      let long : length es ≡ header_slots B * entry_len F = cut.long ∙ ap (λ s. s * entry_len F) cut.slots in
      let front : length (H ++ es) ≡ 32 + header_slots B * entry_len F = length-append H es ∙ omega (arith, cut.head, long) in
      ap (drop (32 + header_slots B * entry_len F)) (cut.whole ∙ sym (append_assoc H es ctrl)) ∙ drop_at (H ++ es) ctrl (32 + header_slots B * entry_len F) front

  -- so a search in the bytes ends where it does in them
  pub cut-end : (k : List ℕ) (r : Search × ℕ) → IsKeyEnd F B k r → IsSearchEnd F (stored_in es ctrl) ctrl k r.0
  cut-end k r at = subst (λ (x : List ℕ × List ℕ). IsSearchEnd F (stored_in x.0 x.1) x.1 k r.0) (λ i. (cut-entries i, cut-controls i)) at.end

  -- with as many new entries and control bytes they are as long
  pub cut-length : (es' ctrl' : List ℕ) → length es' ≡ length es → length ctrl' ≡ length ctrl → length (H ++ es' ++ ctrl') ≡ length B
  cut-length es' ctrl' e c =
      omega (arith, length-append (H ++ es') ctrl', length-append H es', e, c, ap length cut.whole, length-append H (es ++ ctrl), length-append es ctrl)

  -- there are as many slots as the header says
  pub cut-slots : length ctrl - 16 ≡ header_slots B
  cut-slots = omega (arith, cut.mirrored, cut.slots)

  pub cut-lengths : (m kl vl : ℕ) → entry_len F ≡ kl + vl → ArePairLengths m kl vl → ArePartLengths m kl vl (length es) (length ctrl)
  cut-lengths m kl vl size pair = record {
    pair = pair;
    slots = subst IsSlotCount (sym cut-slots) (accepted_slots F B cut.accepted);
    entries = cut.long ∙ (λ i. (cut.slots ∙ sym cut-slots) i * size i);
  }

-- the header of a cut has the maximum of the bytes
pub cut-maximum : (F : Format) (B H es ctrl : List ℕ) → IsCut F B H es ctrl → header_maximum H ≡ header_maximum B
cut-maximum F B H es ctrl cut = λ i. max_items (cut.slots i) (cut.factor i)

-- a table's image is cut into its header and its parts
pub cut-image : (F : Format) (B H es ctrl : List ℕ) → IsCut F B H es ctrl → (P : Table) → IsImage F P B → (H ≡ header_bytes F (slot_count P) (count P) P.factor) × IsPartsOf F P es ctrl
unfolding image
cut-image F B H es ctrl cut P is =
    let head = header_bytes F (slot_count P) (count P) P.factor in
    let sized = IsSized-IsPlaced F P is.valid.placed in
    let long = length-header_bytes F (slot_count P) (count P) P.factor in
    let all = length-entries F P.cells sized.lengths in
    let slots : header_slots H ≡ slot_count P = cut.slots ∙ ap header_slots is.bytes ∙ header_slots-image F P sized in
    let behind : es ++ ctrl ≡ entries F P.cells ++ controls F P.cells =
    sym (drop_at H (es ++ ctrl) 32 cut.head) ∙ ap (drop 32) (sym cut.whole ∙ is.bytes) ∙ drop_at head (entries F P.cells ++ controls F P.cells) 32 long in
    let size : length (entries F P.cells) ≡ length es = all ∙ ap (λ s. s * entry_len F) (sym slots) ∙ sym cut.long in (
      cut.front ∙ ap (take 32) is.bytes ∙ take_at head (entries F P.cells ++ controls F P.cells) 32 long,
      record {
        placed = is.valid.placed;
        entries_are = sym (take_at es ctrl (length es) refl) ∙ ap (take (length es)) behind ∙ take_at (entries F P.cells) (controls F P.cells) (length es) size;
        controls_are = sym (drop_at es ctrl (length es) refl) ∙ ap (drop (length es)) behind ∙ drop_at (entries F P.cells) (controls F P.cells) (length es) size;
      },
    )

-- a header with its own count is itself
pub kept-cut : (F : Format) (B H es ctrl : List ℕ) → IsCut F B H es ctrl → All (λ x. x < 256) B → with_count H (header_count B) ≡ H
kept-cut F B H es ctrl cut bytes =
    ap (with_count H) (sym cut.count) ∙ with_count-by_header H cut.head (subst (All (λ x. x < 256)) (sym cut.front) (All-take (λ x. x < 256) 32 B bytes))

-- joined with its own count it is the bytes
pub joined-cut : (F : Format) (B H es ctrl : List ℕ) → IsCut F B H es ctrl → All (λ x. x < 256) B → joined H (header_count B) es ctrl ≡ B
joined-cut F B H es ctrl cut bytes =
    ap (λ t. t ++ (es ++ ctrl)) (kept-cut F B H es ctrl cut bytes) ∙ sym cut.whole

-- what a run of inserts into the parts leaves, with the new count in the header
module _ {K V : Type 0} (c : Coding K V) (B H es ctrl : List ℕ) (cut : IsCut c.format B H es ctrl) (items : List (K × V)) (n : ℕ) (H' es' ctrl' : List ℕ)
    (written : H' ≡ with_count H (header_count B + n)) (run : IsPartsRun c es ctrl items n es' ctrl')
    (room : n ≤ header_maximum B - header_count B) (counted : header_count B < 2 ^ 64) (small : header_maximum B < 2 ^ 64) where
  most : header_maximum H ≡ header_maximum B
  most = cut-maximum c.format B H es ctrl cut

  known : IsJoinedRun c H (header_count B) es ctrl items n es' ctrl'
  known =
      let same = most in
      run_joined c H (header_count B) es ctrl cut.head (omega (arith, small, same)) cut.long cut.mirrored items n es' ctrl' (omega (arith, room, same)) run

  now : joined H (header_count B + n) es' ctrl' ≡ H' ++ es' ++ ctrl'
  now = ap (λ t. t ++ (es' ++ ctrl')) (sym written) ∙ sym (append_assoc H' es' ctrl')

  -- is what inserts of the items in turn may leave
  pub list_framed : All (λ x. x < 256) B → IsFramedRun c B items (H' ++ es' ++ ctrl')
  list_framed bytes =
      subst (λ b. IsFramedRun c b items (H' ++ es' ++ ctrl')) (joined-cut c.format B H es ctrl cut bytes) (subst (IsFramedRun c (joined H (header_count B) es ctrl) items) now known.framed)

  -- is accepted
  pub list_accepted : IsAccepted c.format (H' ++ es' ++ ctrl')
  list_accepted =
      let same : length (es ++ ctrl) ≡ length (es' ++ ctrl') = omega (arith, length-append es ctrl, length-append es' ctrl', known.entries_len, known.control_len) in
      subst (IsAccepted c.format) now
      (accepted_joined c.format H (header_count B + n) (es ++ ctrl) (es' ++ ctrl') cut.head same (subst (IsAccepted c.format) cut.whole cut.accepted))

  -- the length stays
  pub list_length : length (H' ++ es' ++ ctrl') ≡ length B
  list_length =
      let head : length H' ≡ 32 = ap length written ∙ length-with_count H (header_count B + n) es ctrl cut.head in
      omega (arith, length-append (H' ++ es') ctrl', length-append H' es', head, known.entries_len, known.control_len, ap length cut.whole, length-append H (es ++ ctrl), length-append es ctrl, cut.head)

  -- what may be answered with Full by the parts, may be by the bytes
  pub list_stopped : (all : List (K × V)) (i : ℕ) → IsRefusedIn c (header_maximum B - header_count B - n) all i es' ctrl' → IsStoppedAt c all i (H' ++ es' ++ ctrl')
  list_stopped all i refused = record {
    item = refused.item;
    at = refused.at;
    framed = (
      Err Full,
      refl,
      subst (λ b. InsertFrame c.format b (encoded c refused.item.0 refused.item.1) (Err Full) b) now
          (step_joined c.format H cut.head (omega (arith, small, most)) (encoded c refused.item.0 refused.item.1) (header_count B + n) es' ctrl' (Err Full) es' ctrl'
          (λ o e. absurd (let both : Err Full ≡ Ok o = e in cc)) (omega (arith, counted, small, room)) (known.entries_len ∙ cut.long) (known.control_len ∙ cut.mirrored)
          (subst (λ m. StepFrame c.format m es' ctrl' (encoded c refused.item.0 refused.item.1) (Err Full) es' ctrl') left refused.frame)),
    );
  }
    where
      left : header_maximum B - header_count B - n ≡ header_maximum H - (header_count B + n)
      left = omega (arith, most)

-- new parts and a new count on the image of a table are that of the table with the pairs placed
pub list_placed : (F : Format) (B H es ctrl : List ℕ) → IsCut F B H es ctrl → (n : ℕ) (H' es' ctrl' : List ℕ) → H' ≡ with_count H (header_count B + n) → n ≤ header_maximum B - header_count B
    → (P : Table) → IsImage F P B → (ps : List Pair) → All (IsPairOf F) ps → ArePartsOfRun F P ps n es' ctrl' → IsAllPlaced F P ps (H' ++ es' ++ ctrl')
list_placed F B H es ctrl cut n H' es' ctrl' written room P is ps fits placed =
    let sized = IsSized-IsPlaced F P is.valid.placed in
    let by_header : header_count B ≡ count P = ap header_count is.bytes ∙ header_count-image F P sized in
    let most_is : header_maximum B ≡ max_items (slot_count P) P.factor =
    ap header_maximum is.bytes ∙ (λ i. max_items (header_slots-image F P sized i) (header_factor-image F P is.valid.factor_high i)) in
    subst (IsAllPlaced F P ps) (ap (λ m. joined H (m + n) es' ctrl') (sym by_header) ∙ ap (λ t. t ++ (es' ++ ctrl')) (sym written) ∙ sym (append_assoc H' es' ctrl'))
    (placed_joined F P ps n H es' ctrl' is.valid (cut-image F B H es ctrl cut P is).0 fits (omega (arith, room, by_header, most_is, is.valid.room)) placed)
