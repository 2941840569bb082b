-- Lemmas of the proofs.
mod Numbers
mod Plain
