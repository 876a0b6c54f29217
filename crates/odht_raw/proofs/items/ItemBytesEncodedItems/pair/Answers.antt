use Rattle.odht_raw.proofs.lemmas.ItemBytes.{lengths_at}
use Rattle.odht_raw.proofs.items.ItemBytesEncodedItems.pair.Goals as goal

pub returns-clause-key : goal.returns-clause-key
returns-clause-key c = (lengths_at c.args.self.now.items.now c.args.index _ c.requires.within c.args.self.now.layout.key_len c.args.self.now.layout.value_len c.requires.fits).key

pub returns-clause-value : goal.returns-clause-value
returns-clause-value c = (lengths_at c.args.self.now.items.now c.args.index _ c.requires.within c.args.self.now.layout.key_len c.args.self.now.layout.value_len c.requires.fits).value
