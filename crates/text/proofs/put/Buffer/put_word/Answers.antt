use Rattle.text.proofs.Placed.{puts, then}
use Rattle.text.proofs.put.Buffer.put_word.Goals as goal

pub returns : goal.returns
returns c = then (puts _ _ _ c.put_hex8.ensures) (puts _ _ _ c.put.ensures)
