-- Laws of the grammar: its parser is exact, and a text stops being a beginning of a program at one place.
pub mod Splits
pub mod Exact
pub mod ExactMany
pub mod ExactChoice
pub mod ExactForm
pub mod ExactExpr
pub mod ExactStmt
pub mod ExactDecl
pub mod Stops
pub mod Deeper
pub mod Whole
pub mod Turns
pub mod OneStop
pub mod OneProgram
