-- The lemmas of lower crates that the crates above this one name from here.
pub use Rattle.storable_cores.proofs.Accepted.{engine_accepted}
pub use Rattle.storable_cores.proofs.Lists.{each_joined}
pub use Rattle.storable_cores.proofs.Engines.{arrival_storable, commit_storable, empty_storable, line_is_short, plan_is_spelt}
