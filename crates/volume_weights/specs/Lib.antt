pub mod DataWeighing
pub mod Linking
pub mod Losing
