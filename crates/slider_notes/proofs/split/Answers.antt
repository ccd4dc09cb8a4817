-- `slider_notes::split` meets its contract. Assumes nothing.
use Rattle.slider_notes.proofs.Order.{split_one, split_more}
use Rattle.slider_notes.proofs.split.Goals as goal

pub returns-then-n-eq1 : goal.returns-then-n-eq1
returns-then-n-eq1 c = split_one _ _ _ _ _ _ _ c.requires.0 c.put_others-k.ensures c.put_ending-q.ensures c.if-n-eq1.true

pub returns : goal.returns
returns c = split_more _ _ _ _ _ _ _ c.requires.0 c.put_others-k.ensures c.put_ending-q.ensures c.if-n-eq1.false
