-- The definition goes by the places, as the code does.
use Rattle.format.specs.Records.{allowed}
use Rattle.kinds.proofs.allowed.Goals as goal

pub returns-in-Start : goal.returns-in-Start
unfolding allowed
returns-in-Start c = rw c.in-Start.is

pub returns-in-Top : goal.returns-in-Top
unfolding allowed
returns-in-Top c = rw c.in-Top.is c.at_top.ensures

pub returns-in-StringSlot : goal.returns-in-StringSlot
unfolding allowed
returns-in-StringSlot c = rw c.in-StringSlot.is c.in_string_slot.ensures

pub returns-in-ObjectSlot : goal.returns-in-ObjectSlot
unfolding allowed
returns-in-ObjectSlot c = rw c.in-ObjectSlot.is c.in_object_slot.ensures

pub returns-in-ArraySlot : goal.returns-in-ArraySlot
unfolding allowed
returns-in-ArraySlot c = rw c.in-ArraySlot.is c.in_slot.ensures
