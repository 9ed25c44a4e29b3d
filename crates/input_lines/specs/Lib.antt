pub mod CutLaws
pub mod Reads
pub mod Given
pub mod FileReads
