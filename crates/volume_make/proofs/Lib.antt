pub mod Sizes
pub mod Results
pub mod Writes
pub mod Leaves
pub mod Accepting
pub mod Finding
pub mod Fields
pub mod NodesBack
