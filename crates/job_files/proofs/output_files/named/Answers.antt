use Rattle.std.proofs.Common.{rules, ◌≡◌, length, map, sym, ◌∙◌, ap}
use Rattle.std.proofs.lemmas.List.{map_push}
use Rattle.job_files.specs.OutputFiles.{files_from, shown}
use Rattle.job_files.specs.declared.output_files.OutputFile.{OutputFile}
use Rattle.job_files.proofs.Putting.{named_more, pushed}
use Rattle.job_files.proofs.output_files.named.Goals as goal

pub loop-bytes-preserved : goal.loop-bytes-preserved
loop-bytes-preserved c =
    let file : OutputFile = record { name = c.in_ok-name.name; bytes = c.in-Some.bytes } in
    let grown = pushed c.push.result c.push.new.self.items c.loop-bytes.files.items file c.in_ok-push.field-0 c.push.ensures.items c.in_ok-push.was in
    let n : c.len-port.result ≡ length c.loop-bytes.files.items = search rules in
    let name_is = rw n at c.in_ok-name.ensures.ok in
    let more = named_more c.args.prefix.now c.loop-bytes.files.items file (map (λ v. v.items) c.loop-bytes.yielded) c.loop-bytes.invariant name_is in
    ap (map shown) grown ∙ more ∙ ap (files_from c.args.prefix.now 0) (sym (map_push (λ v. v.items) c.loop-bytes.yielded c.in-Some.bytes))
