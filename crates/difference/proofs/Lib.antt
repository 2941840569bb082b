-- Lemmas of the proofs.
mod Pairs
