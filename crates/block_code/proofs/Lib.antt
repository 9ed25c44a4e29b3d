pub mod ListCopies
pub mod GraphLaws
pub mod TextLaws
