pub mod Lists
pub mod Regions
pub mod Firsts
pub mod Plans
