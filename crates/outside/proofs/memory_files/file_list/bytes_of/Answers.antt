use Rattle.std.proofs.Common.{◌≡◌, Some, option_map, sym, ◌∙◌, ap, refl}
use Rattle.outside.specs.MemoryFiles.{FileState, file_named}
use Rattle.outside.proofs.Finding.{found, not_found}
use Rattle.outside.proofs.memory_files.file_list.bytes_of.Goals as goal

pub returns-in_err-place : goal.returns-in_err-place
returns-in_err-place c =
    rw (c.from_residual.ensures, not_found c.args.name.now c.args.files.now (sym c.in_err-place.ensures.place)) refl

pub returns : goal.returns
returns c =
    let name = c.args.name.now in
    let fs = c.args.files.now in
    let d = c.index-files-place.result in
    let there : file_named name fs ≡ Some d = found name fs c.in_ok-place.place d (sym c.in_ok-place.ensures.place) ∙ ap Some (sym c.index-files-place.is) in
    ap Some c.bytes.ensures ∙ sym (ap (option_map (λ (f : FileState). f.bytes)) there)
