pub mod Hidden
