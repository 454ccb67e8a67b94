pub mod Kind
pub mod Length
pub mod Class
pub mod Classes
pub mod Lengths
pub mod Ordered
