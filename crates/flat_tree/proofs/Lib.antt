pub mod CopyLaws
pub mod FlatViews
pub mod NamesBelow
pub mod SameNames
pub mod RelatedEnds
pub mod InTurn
mod Examples
