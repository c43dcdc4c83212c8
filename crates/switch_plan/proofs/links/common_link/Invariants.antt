use Rattle.std.proofs.Common.{◌≡◌, ◌==◌, None, take}
use Rattle.std.specs.Prelude.{not, map, find}
use Rattle.pcap_records.specs.Format.{link_type}
use Rattle.switch_plan.specs.Traffic.{file_of}
use Rattle.switch_plan.proofs.links.common_link.Given as goal

abbrev pub invariant-loop-capture : goal.invariant-loop-capture
invariant-loop-capture l =
    find (λ other. not (other == l.first)) (take l.capture-index (map (λ capture. link_type capture.link) (map file_of l.captures))) ≡ None
