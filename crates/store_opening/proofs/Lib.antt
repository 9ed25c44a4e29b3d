mod ReplayLaws
mod OldStores
mod Found
mod Mounts
