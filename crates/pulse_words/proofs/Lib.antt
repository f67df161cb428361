mod Leaves
mod Parsed
mod PlainWords
mod Slices
mod Taken
mod Walks
