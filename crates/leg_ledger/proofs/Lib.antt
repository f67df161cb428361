pub mod Keys
mod Replies
