pub mod DeclsLaws
