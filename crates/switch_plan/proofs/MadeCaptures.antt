-- The captures that are made are captures.
use Rattle.std.proofs.Common.{◌≡◌, ℕ, zero, suc, ◌+◌, ◌<◌, ◌≤◌, false, List, ◌++◌, length, refl, ap, sym, arith}
use Rattle.std.specs.Prelude.{map}
use Rattle.std.specs.List.{range_with_len, AllByRecursion}
use Rattle.std.proofs.lemmas.List.Folds.{flat_map-map}
use Rattle.pcap_records.specs.declared.link.Link.TheVariants.{Ethernet}
use Rattle.pcap_records.specs.declared.order.Order.TheVariants.{Little}
use Rattle.pcap_records.specs.Format.{IsRecord, number_bytes, record_bytes, packet_of}
use Rattle.pcap_records.specs.Captures.{IsCapture}
use Rattle.pcap_records.specs.Output.{header_text}
use Rattle.switch_words.specs.declared.job.GenJob.{GenJob}
use Rattle.switch_plan.specs.Made.{below, made_number, made_record, made_capture}
use Rattle.switch_plan.proofs.Making.{frame_length}

made_is_record : (job : GenJob) (port k : ℕ) → k < 4000 → port < 64 → IsRecord (made_record job port k)
made_is_record job port k few ports =
    let long = frame_length job.ports (made_number job.seed port k) in
    record { seconds = omega arith; fraction = omega arith; original = omega arith; bytes = omega (arith, long) }

made_are_records : (job : GenJob) (port a n : ℕ) → a + n ≤ 4000 → port < 64 → AllByRecursion IsRecord (map (made_record job port) (range_with_len a n))
made_are_records job port a zero few ports = tt
made_are_records job port a (suc n) few ports =
    (made_is_record job port a (omega arith) ports, made_are_records job port (a + 1) n (omega arith) ports)

-- the twelve bytes of a header that may be anything
free : List ℕ
free = number_bytes Little 4 0 ++ number_bytes Little 4 0 ++ number_bytes Little 4 262144

free_long : length free ≡ 12
unfolding number_bytes free
free_long = refl

pub made_is_capture : (job : GenJob) (port : ℕ) → job.count ≤ 4000 → port < 64
    → IsCapture (made_capture job port) false Ethernet (map (packet_of false) (map (made_record job port) (below job.count)))
unfolding free
made_is_capture job port count ports = record {
  order = Little;
  records = map (made_record job port) (below job.count);
  each = made_are_records job port 0 job.count (omega arith) ports;
  header = record {
    major = omega arith;
    minor = omega arith;
    link = omega arith;
    free = free;
    twelve = free_long;
    spelled = ap (λ rest. header_text false Ethernet ++ rest) (sym (flat_map-map (record_bytes Little) (made_record job port) (below job.count)));
  };
  packets_are = refl;
}
