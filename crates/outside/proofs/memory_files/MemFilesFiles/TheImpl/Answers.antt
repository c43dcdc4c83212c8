use Rattle.outside.specs.MemoryFiles.{contents_of}
use Rattle.outside.proofs.memory_files.MemFilesFiles.TheImpl.Goals as goal

pub write-asks : goal.write-asks
write-asks c = record { begun = c.requires.begun (contents_of c.args.self.now) }
