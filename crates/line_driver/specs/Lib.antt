pub mod ReadyEngines
