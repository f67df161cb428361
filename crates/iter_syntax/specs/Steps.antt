-- How parser and printer go. Their private contracts and the proofs cite it, and no public clause says it.
pub mod Parsers
pub mod Sets
pub mod Reads
pub mod Reading
pub mod Printing
