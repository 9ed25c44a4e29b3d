pub mod Cursor
pub mod Columns
pub mod OpenColumns
pub mod LogicalLines
pub mod Views
pub mod Spans
