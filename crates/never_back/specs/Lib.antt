pub mod NeverBack
