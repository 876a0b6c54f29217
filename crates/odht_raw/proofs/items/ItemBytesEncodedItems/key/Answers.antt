use Rattle.odht_raw.proofs.lemmas.ItemBytes.{lengths_at}
use Rattle.odht_raw.proofs.items.ItemBytesEncodedItems.key.Goals as goal

pub returns-clause-len : goal.returns-clause-len
returns-clause-len c = (lengths_at c.args.self.now.items.now c.args.index _ c.requires.within c.args.self.now.layout.key_len c.args.self.now.layout.value_len c.requires.fits).key
