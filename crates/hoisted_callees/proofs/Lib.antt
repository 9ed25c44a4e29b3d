pub mod EachLaws
pub mod NamedParts
pub mod NamedExpressions
pub mod Beforehand
pub mod NamedStatements
pub mod CalleesStand
