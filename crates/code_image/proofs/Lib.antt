mod WordLaws
mod ImageLaws
mod Unique
mod Only
mod First
