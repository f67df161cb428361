-- The first of the faults of each part of a program, as the checker finds it: from what is known before a part to what
-- is known after it. Proofs alone go by these: each is shown to keep the first of the part's list of faults.
pub mod Least
pub mod Expr
pub mod Stmt
pub mod Path
pub mod Index
pub mod Decl
pub mod Count
