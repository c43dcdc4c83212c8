use Rattle.std.proofs.Common.{◌≡◌, [], true, Some, None, Result, Ok, Err, OnErr, position, bytes_eq, sym, refl, ◌∙◌}
use Rattle.outside.specs.MemoryFiles.{FileState, counts_at}
use Rattle.outside.proofs.Finding.{put_here, own_name, put, not_found}
use Rattle.outside.proofs.Storing.{begun_is}
use Rattle.outside.proofs.memory_files.file_list.begin_file.Goals as goal

-- a fact holds where a call failed, whatever it answered
on_err : {X E P : Type 0} (answer : Result X E) → P → OnErr answer P
on_err (Ok x) p = tt
on_err (Err e) p = p

pub returns-in-Some-clause-ok : goal.returns-in-Some-clause-ok
returns-in-Some-clause-ok c =
    let name = c.args.name.now in
    let fs = c.args.files.now.items in
    let d = c.index_mut.result.now in
    let after : FileState = record { name = name; bytes = []; room = d.room; begun = true; faults = counts_at fs c.args.elsewhere name } in
    let at : position (λ (f : FileState). bytes_eq name f.name) fs ≡ Some c.in-Some.place = rw c.as_slice.ensures.value at (sym c.in-Some.ensures.place) in
    let there = put_here name fs c.in-Some.place d d at c.index_mut.ensures.value refl in
    let own = own_name name fs c.in-Some.place d at c.index_mut.ensures.value in
    (d.room, rw (c.empty.ensures ∙ begun_is name fs d c.args.elsewhere there.0 own) (put name fs c.in-Some.place after at refl))

pub add_begun-requires : goal.add_begun-requires
add_begun-requires c =
    record { absent = not_found c.args.name.now c.args.files.now.items (rw c.as_slice.ensures.value at (sym c.in-None.ensures.place)) }

pub returns-in-None-clause-ok : goal.returns-in-None-clause-ok
returns-in-None-clause-ok c =
    let name = c.args.name.now in
    let fs = c.args.files.now.items in
    let at : position (λ (f : FileState). bytes_eq name f.name) fs ≡ None = rw c.as_slice.ensures.value at (sym c.in-None.ensures.place) in
    rw (not_found name fs at) c.add_begun.ensures.ok

pub returns-in-None-clause-absent : goal.returns-in-None-clause-absent
returns-in-None-clause-absent c =
    let name = c.args.name.now in
    let fs = c.args.files.now.items in
    let at : position (λ (f : FileState). bytes_eq name f.name) fs ≡ None = rw c.as_slice.ensures.value at (sym c.in-None.ensures.place) in
    on_err c.add_begun.result (not_found name fs at)
