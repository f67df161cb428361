pub mod Fields
pub mod Decls
