-- Past the rows `set` changes nothing (`put-past`).
use Rattle.marks.specs.Rows.{put_past}
use Rattle.marks.proofs.put_named.Goals as goal

pub returns-else-i-n : goal.returns-else-i-n
returns-else-i-n c = put_past _ _ _ _ c.if-i-n.false
