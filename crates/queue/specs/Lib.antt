pub mod Order
pub mod Orders
pub mod Rank
pub mod Held
