pub mod GoesForth
