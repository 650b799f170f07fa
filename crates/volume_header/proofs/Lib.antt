pub mod ReadBack
pub mod SpelledBack
