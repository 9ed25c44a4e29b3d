use Rattle.sf_outside.specs.declared.store_disk.StoreFile.TheVariants.{Log0, Log1, Snap0, Snap1, Hist}
use Rattle.sf_outside.proofs.disk_files.DiskFiles.copied.Goals as goal

pub copied-requires : goal.copied-requires
copied-requires c = (rw (← c.self.view_is) at c.requires).each Log0

pub copied-requires-2 : goal.copied-requires-2
copied-requires-2 c = (rw (← c.self.view_is) at c.requires).each Log1

pub copied-requires-3 : goal.copied-requires-3
copied-requires-3 c = (rw (← c.self.view_is) at c.requires).each Snap0

pub copied-requires-4 : goal.copied-requires-4
copied-requires-4 c = (rw (← c.self.view_is) at c.requires).each Snap1

pub copied-requires-5 : goal.copied-requires-5
copied-requires-5 c = (rw (← c.self.view_is) at c.requires).each Hist
