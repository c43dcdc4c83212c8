use Rattle.std.specs.Prelude.{option_map}
use Rattle.outside.specs.Contents.{begin_file}
use Rattle.outside.proofs.Effects.{is_begun, is_begun-after_write}
use Rattle.command_tests.proofs.memory_files.begin_and_write.Goals as goal

pub write-wrote-requires : goal.write-wrote-requires
write-wrote-requires g c = record { begun = λ d. rw (c.in_ok-begin.ensures.seen d) (is_begun c.args.name.now _) }

pub write-requires : goal.write-requires
write-requires g c =
    let name = c.args.name.now in
    let see = g.F.Files.seen in
    record {
      begun = λ d. rw (c.write-wrote.ensures.seen d, c.in_ok-begin.ensures.seen d)
          (is_begun-after_write c.write-wrote.result name c.args.first.now name (option_map (begin_file name) (see d c.args.files.now))
          (is_begun name (see d c.args.files.now)));
    }
