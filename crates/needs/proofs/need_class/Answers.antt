-- The details first, then the own library.
use Rattle.needs.specs.Laws.{class_needs_lem}
use Rattle.needs.proofs.need_class.Goals as goal

pub returns : goal.returns
returns c = class_needs_lem _ _ _ _ _ _ c.infos_place.ensures c.need_infos-number.ensures c.need_own.ensures
