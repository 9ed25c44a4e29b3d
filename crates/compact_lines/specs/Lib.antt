pub mod CompactLines
