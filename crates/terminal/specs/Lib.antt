-- What the exported forms answer, and that their promises allow one outcome each.
pub mod Terminal
pub mod Settled
