pub mod BlocksInRow
pub mod Counts
pub mod WholeGraphs
pub mod TextsCompiled
