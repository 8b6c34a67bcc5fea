pub mod Layers
pub mod LayerByLayer
