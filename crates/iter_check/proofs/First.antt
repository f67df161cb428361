pub mod Keeps
pub mod Expr
pub mod Stmt
pub mod Rest
pub mod Decl
