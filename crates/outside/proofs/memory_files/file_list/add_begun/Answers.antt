use Rattle.std.specs.Prelude.{vec_capacity}
use Rattle.std.proofs.Common.{◌≡◌, [], true, ◌∙◌, refl}
use Rattle.outside.specs.MemoryFiles.{FileState}
use Rattle.outside.proofs.Finding.{pushed}
use Rattle.outside.proofs.memory_files.file_list.add_begun.Goals as goal

pub returns-clause-ok : goal.returns-clause-ok
returns-clause-ok c =
    let name = c.args.name.now in
    let after : FileState = record { name = name; bytes = []; room = vec_capacity c.new.result; begun = true; faults = c.args.faults } in
    let is : c.begun.result ≡ after = c.begun.ensures
    ∙ (λ j. record {
      name = c.in_ok-name.ensures.ok j;
      bytes = c.new.ensures.items j;
      room = vec_capacity c.new.result;
      begun = true;
      faults = c.args.faults;
    }) in
    (vec_capacity c.new.result, rw (c.in_ok-push.ensures.items, is) (pushed name c.args.files.now.items after c.requires.absent refl))
