use Rattle.std.proofs.Common.{◌≡◌, ◌++◌, None, Some, position, bytes_eq, sym, refl, ap, ◌∙◌, inl, inr}
use Rattle.outside.specs.MemoryFiles.{FileState}
use Rattle.outside.proofs.Finding.{found, put_here, not_found}
use Rattle.outside.proofs.memory_files.file_list.append_to.Goals as goal

pub returns-in-Ok-clause-ok : goal.returns-in-Ok-clause-ok
returns-in-Ok-clause-ok c =
    let name = c.args.name.now in
    let fs = c.args.files.now.items in
    let d = c.index_mut.result.now in
    let at : position (λ (f : FileState). bytes_eq name f.name) fs ≡ Some c.in-Some.place = rw c.as_slice.ensures.value at (sym c.in-Some.ensures.place) in
    let both = put_here name fs c.in-Some.place d
    (record d { bytes = d.bytes ++ c.args.piece.now; room = c.append.new.self.room }) at c.index_mut.ensures.value refl in
    (d, c.append.new.self.room, both.0, rw c.in-Ok.ensures.ok both.1)

pub returns-in-Err-clause-cause : goal.returns-in-Err-clause-cause
returns-in-Err-clause-cause c =
    let name = c.args.name.now in
    let fs = c.args.files.now.items in
    let d = c.index_mut.result.now in
    let at : position (λ (f : FileState). bytes_eq name f.name) fs ≡ Some c.in-Some.place = rw c.as_slice.ensures.value at (sym c.in-Some.ensures.place) in
    inr (record { file = d; there = found name fs c.in-Some.place d at ∙ ap Some (sym c.index_mut.ensures.value); full = c.in-Err.ensures.full })

pub returns-in-None-clause-cause : goal.returns-in-None-clause-cause
returns-in-None-clause-cause c =
    let name = c.args.name.now in
    let fs = c.args.files.now.items in
    let at : position (λ (f : FileState). bytes_eq name f.name) fs ≡ None = rw c.as_slice.ensures.value at (sym c.in-None.ensures.place) in
    inl (not_found name fs at)
