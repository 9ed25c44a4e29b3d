use Rattle.std.proofs.Common.{◌≡◌, map, take}
use Rattle.sf_outside.specs.Named.{listed}
use Rattle.sf_outside.proofs.memory_files.MemFiles.new.Given as goal

abbrev pub invariant-loop-place : goal.invariant-loop-place
invariant-loop-place l = l.files.items ≡ listed (map (λ name. name.now) (take l.place l.names)) (map (λ bytes. bytes.now) (take l.place l.contents))
