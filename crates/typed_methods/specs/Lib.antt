pub mod TypedMethods
