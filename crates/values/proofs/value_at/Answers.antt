-- In each arm the definition is the callee's.
use Rattle.format.specs.Values.{value_at}
use Rattle.values.proofs.value_at.Goals as goal

pub returns-in-Boolean : goal.returns-in-Boolean
unfolding value_at
returns-in-Boolean c = rw c.in-Boolean.is c.boolean_at.ensures

pub returns-in-Byte : goal.returns-in-Byte
unfolding value_at
returns-in-Byte c = rw c.in-Byte.is c.bytes_at.ensures

pub returns-in-Char : goal.returns-in-Char
unfolding value_at
returns-in-Char c = rw c.in-Char.is c.char_at.ensures

pub returns-in-Decimal : goal.returns-in-Decimal
unfolding value_at
returns-in-Decimal c = rw c.in-Decimal.is c.decimal_at.ensures

pub returns-in-Double : goal.returns-in-Double
unfolding value_at
returns-in-Double c = rw c.in-Double.is c.bytes_at-in-Double.ensures

pub returns-in-Int16 : goal.returns-in-Int16
unfolding value_at
returns-in-Int16 c = rw c.in-Int16.is c.bytes_at-in-Int16.ensures

pub returns-in-Int32 : goal.returns-in-Int32
unfolding value_at
returns-in-Int32 c = rw c.in-Int32.is c.bytes_at-in-Int32.ensures

pub returns-in-Int64 : goal.returns-in-Int64
unfolding value_at
returns-in-Int64 c = rw c.in-Int64.is c.bytes_at-in-Int64.ensures

pub returns-in-SByte : goal.returns-in-SByte
unfolding value_at
returns-in-SByte c = rw c.in-SByte.is c.bytes_at-in-SByte.ensures

pub returns-in-Single : goal.returns-in-Single
unfolding value_at
returns-in-Single c = rw c.in-Single.is c.bytes_at-in-Single.ensures

pub returns-in-TimeSpan : goal.returns-in-TimeSpan
unfolding value_at
returns-in-TimeSpan c = rw c.in-TimeSpan.is c.bytes_at-in-TimeSpan.ensures

pub returns-in-DateTime : goal.returns-in-DateTime
unfolding value_at
returns-in-DateTime c = rw c.in-DateTime.is c.date_time_at.ensures

pub returns-in-UInt16 : goal.returns-in-UInt16
unfolding value_at
returns-in-UInt16 c = rw c.in-UInt16.is c.bytes_at-in-UInt16.ensures

pub returns-in-UInt32 : goal.returns-in-UInt32
unfolding value_at
returns-in-UInt32 c = rw c.in-UInt32.is c.bytes_at-in-UInt32.ensures

pub returns-in-UInt64 : goal.returns-in-UInt64
unfolding value_at
returns-in-UInt64 c = rw c.in-UInt64.is c.bytes_at-in-UInt64.ensures
