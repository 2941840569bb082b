-- One arm for each slot type.
use Rattle.binary_arrays.proofs.items_of.Goals as goal

pub returns-in-Primitive : goal.returns-in-Primitive
returns-in-Primitive c = rw c.in-Primitive.is c.with_items.ensures

pub returns-in-Text : goal.returns-in-Text
returns-in-Text c = rw c.in-Text.is c.slotted_head.ensures

pub returns-in-Object : goal.returns-in-Object
returns-in-Object c = rw c.in-Object.is c.slotted_head-in-Object.ensures

pub returns-in-SystemClass : goal.returns-in-SystemClass
returns-in-SystemClass c = rw c.in-SystemClass.is c.slotted_head-in-SystemClass.ensures

pub returns-in-Class : goal.returns-in-Class
returns-in-Class c = rw c.in-Class.is c.slotted_head-in-Class.ensures

pub returns-in-ObjectArray : goal.returns-in-ObjectArray
returns-in-ObjectArray c = rw c.in-ObjectArray.is c.slotted_head-in-ObjectArray.ensures

pub returns-in-StringArray : goal.returns-in-StringArray
returns-in-StringArray c = rw c.in-StringArray.is c.slotted_head-in-StringArray.ensures

pub returns-in-PrimitiveArray : goal.returns-in-PrimitiveArray
returns-in-PrimitiveArray c = rw c.in-PrimitiveArray.is c.slotted_head-in-PrimitiveArray.ensures
