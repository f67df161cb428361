mod Pairs
mod Plans
