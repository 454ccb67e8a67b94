pub mod Floor
pub mod Walk
pub mod Closed
pub mod Shifted
pub mod FloorFacts
pub mod LayerFacts
pub mod Layers
pub mod FloorKnown
