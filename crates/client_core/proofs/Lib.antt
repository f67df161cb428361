pub mod Places
mod Making
mod Doing
