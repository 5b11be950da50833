-- What only the proofs here cite.
mod Front
