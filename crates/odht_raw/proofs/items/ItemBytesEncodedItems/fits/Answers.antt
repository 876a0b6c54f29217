use Rattle.odht_raw.proofs.lemmas.ItemBytes.{told_equal, equal_told, fits_at, lengths_at}
use Rattle.odht_raw.proofs.items.ItemBytesEncodedItems.fits.Goals as goal

pub returns-then-key-self : goal.returns-then-key-self
returns-then-key-self c =
    let kl = c.args.self.now.layout.key_len in
    let vl = c.args.self.now.layout.value_len in
    (λ e. fits_at c.args.self.now.items.now c.args.index _ c.requires kl vl c.if-key-self.true (told_equal _ _ e), λ fits. equal_told _ _ (lengths_at c.args.self.now.items.now c.args.index _ c.requires kl vl fits).value)

pub returns-else-key-self : goal.returns-else-key-self
returns-else-key-self c =
    let kl = c.args.self.now.layout.key_len in
    let vl = c.args.self.now.layout.value_len in
    (λ e. absurd (c.if-key-self.false (told_equal _ _ e)), λ fits. equal_told _ _ (lengths_at c.args.self.now.items.now c.args.index _ c.requires kl vl fits).key)
