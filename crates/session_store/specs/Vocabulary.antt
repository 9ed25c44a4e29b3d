-- The definitions of lower crates that the crates above this one name from here.
pub use Rattle.storable_cores.specs.Storable.{IsStorable, most_bytes}
pub use Rattle.store_meaning.specs.Engines.{logged_of}
