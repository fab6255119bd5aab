pub mod Standings
pub mod Channels
pub mod Walks
pub mod Sets
pub mod States
pub mod Blocks
pub mod Tails
