pub mod CutLaws
pub mod KeptBytes
pub mod FileLaws
pub mod StartLaws
pub mod ReadLaws
pub mod GivenLaws
