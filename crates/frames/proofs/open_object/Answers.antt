-- `save` leaves the frame around the object, and `open_at` makes the open objects of it.
use mathlib.Core.Path.{refl}
use Rattle.frames.specs.Laws.{open_at}
use Rattle.frames.proofs.open_object.Goals as goal

pub returns : goal.returns
returns c =
    let v = c.save.ensures in
    let a = c.args in
    record {
      sized = c.save.ensures.0;
      stack = open_at _ _ c.args.m _ _ c.args.h _ c.less-left.ensures c.save.ensures.1;
      place = refl;
      rows = refl;
      deep = refl;
    }
