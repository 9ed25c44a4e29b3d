pub mod CalleesStand
