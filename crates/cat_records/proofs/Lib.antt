pub mod UnitLists
pub mod EntryBack
pub mod EntrySpelled
pub mod CatalogBack
pub mod ThreadBack
pub mod CatalogSpelled
pub mod AttrBack
pub mod AttrSpelled
