use Rattle.sf_outside.specs.declared.store_disk.StoreFile.TheVariants.{Log0, Log1, Snap0, Snap1, Hist}
use Rattle.sf_outside.proofs.disk_files.DiskFiles.take_all.Goals as goal

pub take_from-requires : goal.take_from-requires
take_from-requires c = (rw (← c.self.view_is, ← c.other.view_is) at c.requires).each Log0

pub take_from-requires-2 : goal.take_from-requires-2
take_from-requires-2 c = (rw (← c.self.view_is, ← c.other.view_is) at c.requires).each Log1

pub take_from-requires-3 : goal.take_from-requires-3
take_from-requires-3 c = (rw (← c.self.view_is, ← c.other.view_is) at c.requires).each Snap0

pub take_from-requires-4 : goal.take_from-requires-4
take_from-requires-4 c = (rw (← c.self.view_is, ← c.other.view_is) at c.requires).each Snap1

pub take_from-requires-5 : goal.take_from-requires-5
take_from-requires-5 c = (rw (← c.self.view_is, ← c.other.view_is) at c.requires).each Hist
