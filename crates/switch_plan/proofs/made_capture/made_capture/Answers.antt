use Rattle.std.proofs.Common.{◌∙◌, ℕ, List, ◌++◌, ap}
use Rattle.std.specs.Prelude.{false}
use Rattle.std_lemmas.proofs.Ranges.{flat_map_next}
use Rattle.pcap_records.specs.declared.link.Link.TheVariants.{Ethernet}
use Rattle.pcap_records.specs.declared.order.Order.TheVariants.{Little}
use Rattle.pcap_records.specs.Format.{record_bytes}
use Rattle.pcap_records.specs.Output.{header_text}
use Rattle.switch_plan.specs.Made.{made_record}
use Rattle.switch_plan.proofs.made_capture.made_capture.Goals as goal

pub loop-k-preserved : goal.loop-k-preserved
loop-k-preserved c =
    let part : ℕ → List ℕ = λ k. record_bytes Little (made_record c.args.job.now c.args.port k) in
    c.in_ok-push_record.ensures ∙ ap (λ file. file ++ part c.loop-k.k) c.loop-k.invariant ∙ flat_map_next part (header_text false Ethernet) c.loop-k.k
