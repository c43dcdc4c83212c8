use Rattle.std.proofs.Common.{◌≡◌, ◌++◌}
use Rattle.std.specs.Prelude.{false, flat_map}
use Rattle.pcap_records.specs.declared.link.Link.TheVariants.{Ethernet}
use Rattle.pcap_records.specs.declared.order.Order.TheVariants.{Little}
use Rattle.pcap_records.specs.Format.{record_bytes}
use Rattle.pcap_records.specs.Output.{header_text}
use Rattle.switch_plan.specs.Made.{made_record, below}
use Rattle.switch_plan.proofs.made_capture.made_capture.Given as goal

abbrev pub invariant-loop-k : goal.invariant-loop-k
invariant-loop-k l =
    l.file.items ≡ header_text false Ethernet ++ flat_map (λ k. record_bytes Little (made_record l.job l.port k)) (below l.k)
