-- `slider_notes::put_word` meets its contract: any word is a note. Assumes nothing.
use Rattle.slider_notes.proofs.Order.{copied}
use Rattle.slider_notes.proofs.put_word.Goals as goal

pub returns : goal.returns
returns c = copied _ _ _ _ _ c.column_of-column.ensures c.requires c.with_column-mask.ensures
