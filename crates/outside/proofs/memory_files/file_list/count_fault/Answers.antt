use Rattle.std.proofs.Common.{◌≡◌, Some, None, position, bytes_eq, set, sym, refl}
use Rattle.outside.specs.Calls.{one_more}
use Rattle.outside.specs.MemoryFiles.{FileState}
use Rattle.outside.proofs.Finding.{put_here, not_found}
use Rattle.outside.proofs.Storing.{counted_found, counted_missing}
use Rattle.outside.proofs.memory_files.file_list.count_fault.Goals as goal

pub returns-in-Some : goal.returns-in-Some
returns-in-Some c =
    let name = c.args.name.now in
    let fs = c.args.files.now.items in
    let d = c.index_mut.result.now in
    let at : position (λ (f : FileState). bytes_eq name f.name) fs ≡ Some c.in-Some.place = rw c.as_slice.ensures.value at (sym c.in-Some.ensures.place) in
    let after : FileState = record d { faults = one_more c.args.call d.faults } in
    let both = put_here name fs c.in-Some.place d after at c.index_mut.ensures.value refl in
    rw c.count.ensures (counted_found c.args.call name fs (set fs c.in-Some.place after) d c.args.elsewhere.now both.0 both.1)

pub returns-in-None : goal.returns-in-None
returns-in-None c =
    let name = c.args.name.now in
    let fs = c.args.files.now.items in
    let at : position (λ (f : FileState). bytes_eq name f.name) fs ≡ None = rw c.as_slice.ensures.value at (sym c.in-None.ensures.place) in
    rw c.raise.ensures (counted_missing c.args.call name fs c.args.elsewhere.now c.requires (not_found name fs at))
