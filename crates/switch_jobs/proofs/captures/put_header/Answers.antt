use Rattle.std.proofs.Common.{◌∙◌, ◌++◌, ap}
use Rattle.std.specs.Array.Iter.{array_into_iter_items, array_steps}
use Rattle.std.proofs.lemmas.List.{append-nil}
use Rattle.pcap_records.specs.Output.{header_text}
use Rattle.switch_jobs.proofs.Drained.{all_drained}
use Rattle.switch_jobs.proofs.captures.put_header.Goals as goal

pub returns : goal.returns
returns c =
    let header = header_text c.args.nano c.args.link in
    let put = c.in_ok-splice.ensures.items in
    let all = all_drained array_steps array_into_iter_items (λ s t x e. e) (λ s t e. e.0) put.0 put.1 put.3 in
    put.4 ∙ ap (λ xs. xs ++ c.reserve_exact.new.self.items) (all ∙ put.2.0 ∙ c.write_header.ensures ∙ append-nil header)
    ∙ ap (λ xs. header ++ xs) c.in_ok-reserve_exact.ensures.items
