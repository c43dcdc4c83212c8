-- What `gen` makes are bytes.
use Rattle.std.proofs.Common.{ℕ, zero, suc, ◌<◌, ◌≤◌, ◌-◌, ◌%◌, ◌/◌, ◌==◌, Bool, true, false, List, [], ◌∷◌, ◌++◌, length, All, arith}
use Rattle.std.specs.Prelude.{if◌then◌else◌, replicate, slice_index_or}
use Rattle.std.specs.List.{flat_map}
use Rattle.std.specs.Int.{bytes_low_first, byte_at}
use Rattle.std.proofs.lemmas.List.Elements.{All-append, All-cons, All-map, All-nil, All-replicate}
use Rattle.std_lemmas.proofs.Numbers.{byte_at-lt}
use Rattle.pcap_records.specs.declared.link.Link.TheVariants.{Ethernet}
use Rattle.pcap_records.specs.declared.order.Order.TheVariants.{Little}
use Rattle.pcap_records.specs.Format.{magic, number_bytes, record_bytes}
use Rattle.pcap_records.specs.Output.{header_text}
use Rattle.switch_words.specs.declared.job.GenJob.{GenJob}
use Rattle.switch_plan.specs.Made.{below, frame_begin, made_capture, made_captures, made_frame, made_group, made_length, made_level, made_number, made_port}
use Rattle.switch_plan.specs.Made.{made_record}
use Rattle.job_outcomes.specs.Outcomes.{AreBytes}

record Bytes (xs : List ℕ) : Type 0 where
  pub each : AreBytes xs

joined : {xs ys : List ℕ} → Bytes xs → Bytes ys → Bytes (xs ++ ys)
joined {xs = xs} {ys = ys} first rest = record { each = All-append (λ byte. byte < 256) xs ys first.each rest.each }

none : Bytes []
none = record { each = All-nil (λ byte. byte < 256) }

one : {rest : List ℕ} (byte : ℕ) → byte < 256 → Bytes rest → Bytes (byte ∷ rest)
one {rest = rest} byte small more = record { each = All-cons (λ byte. byte < 256) byte rest small more.each }

zeros : (n : ℕ) → Bytes (replicate n 0)
zeros n = record { each = All-replicate (λ byte. byte < 256) n 0 (omega arith) }

low_first : (k n x : ℕ) → Bytes (bytes_low_first k n x)
low_first k zero x = none
low_first k (suc n) x = one (byte_at k x) (byte_at-lt k x) (low_first (suc k) n x)

number : (n x : ℕ) → Bytes (number_bytes Little n x)
unfolding number_bytes
number n x = low_first 0 n x

-- ---- a capture
header : Bytes (header_text false Ethernet)
header =
    let free = joined (joined (number 4 0) (number 4 0)) (number 4 262144) in
    joined (joined (joined (joined (number 4 (magic false)) (number 2 2)) (number 2 4)) free) (number 4 1)

begins : Bytes frame_begin
unfolding frame_begin
begins = joined (zeros 12) (one 8 (omega arith) (one 0 (omega arith) (one 69 (omega arith) (zeros 15))))

group_small : (test : Bool) → (if test then 1 else 0) < 256
group_small true = omega arith
group_small false = omega arith

frame : (ports h : ℕ) → 0 < ports → ports ≤ 64 → Bytes (made_frame ports h)
unfolding made_frame
frame ports h some few =
    let port : made_port ports h < 256 = omega arith in
    let level : made_level h < 256 = omega arith in
    let group = group_small ((h / 4) % 8 == 0) in
    joined (joined begins (one 10 (omega arith) (one (made_level h) level (one (made_group h) group (one (made_port ports h) port none)))))
    (zeros (made_length h - 34))

record_is : (job : GenJob) (port k : ℕ) → 0 < job.ports → job.ports ≤ 64 → Bytes (record_bytes Little (made_record job port k))
record_is job port k some few =
    let h = made_number job.seed port k in
    joined (joined (joined (joined (number 4 k) (number 4 port)) (number 4 (length (made_frame job.ports h)))) (number 4 (made_length h)))
    (frame job.ports h some few)

pieces : (f : ℕ → List ℕ) → ((k : ℕ) → Bytes (f k)) → (ks : List ℕ) → Bytes (flat_map f ks)
pieces f each [] = none
pieces f each (k ∷ ks) = joined (each k) (pieces f each ks)

capture : (job : GenJob) (port : ℕ) → 0 < job.ports → job.ports ≤ 64 → Bytes (made_capture job port)
capture job port some few =
    joined header (pieces (λ k. record_bytes Little (made_record job port k)) (λ k. record_is job port k some few) (below job.count))

pub made_bytes : (job : GenJob) → 0 < job.ports → job.ports ≤ 64 → All AreBytes (made_captures job)
made_bytes job some few =
    All-map AreBytes (made_capture job) (below job.ports) (λ k d inside. (capture job (slice_index_or (below job.ports) k d) some few).each)
