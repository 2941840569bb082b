-- The laws of Decimal text, and what its two limbs stand for.
pub mod Laws
pub mod Limbs
pub mod Run
