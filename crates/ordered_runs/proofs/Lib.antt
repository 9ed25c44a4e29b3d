pub mod PlaceLaws
pub mod TogetherLaws
pub mod OneLaws
