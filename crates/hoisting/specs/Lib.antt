pub mod Stages
pub mod HoistExpressions
pub mod HoistStatements
pub mod HoistMethods
pub mod FlatMethods
pub mod Views
