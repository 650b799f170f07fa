pub mod OrderLaws
pub mod KeptLaws
pub mod FlatLaws
pub mod MarkLaws
pub mod Ranges
pub mod PieceLaws
