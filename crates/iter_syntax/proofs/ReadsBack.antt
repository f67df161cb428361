-- The printed form of a text's program is a text that has that program.
pub mod Spelling
pub mod Text
pub mod Forms
pub mod Levels
pub mod Use
pub mod Expr
pub mod Stmt
pub mod Block
pub mod Decl
pub mod Program
pub mod ProgramFits
pub mod Law
