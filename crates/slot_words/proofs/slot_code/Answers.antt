-- Each arm computes; `code-small` bounds the sum.
use native.Mathlib.Omega.{arith}
use Rattle.slot_words.specs.Words.{code_small}
use Rattle.slot_words.proofs.slot_code.Goals as goal

pub overflow_add-result : goal.overflow_add-result
overflow_add-result c = omega (arith, c.code_number-in-PrimitiveArray.ensures, code_small c.in-PrimitiveArray.c)

pub returns-in-PrimitiveArray : goal.returns-in-PrimitiveArray
returns-in-PrimitiveArray c = rw (c.in-PrimitiveArray.is, c.code_number-in-PrimitiveArray.ensures)
