-- The times of packets, as far as they were looked at.
use Rattle.std.proofs.Common.{◌≡◌, ◌∙◌, ℕ, ◌+◌, ◌<◌, List, length, take, drop, slice_index_or, Option, None, ap, sym, arith}
use Rattle.std.proofs.Common.{length-take, length-drop}
use Rattle.std.specs.Prelude.{map, fold}
use Rattle.std.proofs.lemmas.List.Sums.{fold_more}
use Rattle.std.proofs.lemmas.List.Folds.{fold-map}
use Rattle.cell_cutter.specs.Messages.{cells_of_packet}
use Rattle.line_pace.specs.declared.pace.Stamp.{Stamp}
use Rattle.pcap_records.specs.declared.capture.Stored.{Stored}
use Rattle.pcap_records.specs.declared.capture.Capture.{Capture}
use Rattle.pcap_records.specs.Packets.{captured_in, packet_in, packets_of, IsWithin}
use Rattle.switch_plan.specs.Traffic.{CaptureFile, file_of, earlier, time_of, stamp_of, least_in, least_time}

-- a packet of no bytes, which no place of a capture has
abbrev pub no_stored : Stored
no_stored = record { seconds = 0; nanos = 0; original = 0; start = 0; len = 0 }

-- the least time as a walk over what is stored
least_walk : (least : Option ℕ) (bytes : List ℕ) (packets : List Stored)
    → least_in least (map (packet_in bytes) packets) ≡ fold (λ l s. earlier l (time_of (packet_in bytes s))) least packets
least_walk least bytes packets =
    fold-map earlier time_of least (map (packet_in bytes) packets) ∙ fold-map (λ l p. earlier l (time_of p)) (packet_in bytes) least packets

pub least_next : (least : Option ℕ) (bytes : List ℕ) (packets : List Stored) (k : ℕ) (d : Stored) → k < length packets
    → least_in least (map (packet_in bytes) (take (k + 1) packets)) ≡ earlier (least_in least (map (packet_in bytes) (take k packets)))
    (time_of (packet_in bytes (slice_index_or packets k d)))
least_next least bytes packets k d inside =
    least_walk least bytes (take (k + 1) packets)
    ∙ fold_more (λ l s. earlier l (time_of (packet_in bytes s))) least packets k d inside
    ∙ ap (λ l. earlier l (time_of (packet_in bytes (slice_index_or packets k d)))) (sym (least_walk least bytes (take k packets)))

-- a packet that lies within its file has as many bytes as its record says
pub length-captured_in : (bytes : List ℕ) (s : Stored) → IsWithin bytes s → length (captured_in bytes s) ≡ s.len
length-captured_in bytes s within = omega (arith, length-take s.len (drop s.start bytes), length-drop s.start bytes)

pub stamp_is : (bytes : List ℕ) (s : Stored) (stamp : Stamp) → IsWithin bytes s → stamp.time ≡ time_of (packet_in bytes s)
    → stamp.cells ≡ cells_of_packet s.len → stamp ≡ stamp_of (packet_in bytes s)
stamp_is bytes s stamp within time cells =
    let all : stamp.cells ≡ cells_of_packet (length (captured_in bytes s)) = cells ∙ ap cells_of_packet (sym (length-captured_in bytes s within)) in
    ap (λ t. record { time = t; cells = stamp.cells }) time ∙ ap (λ n. record { time = time_of (packet_in bytes s); cells = n }) all

-- the least time of all captures, with one more
pub least_time_next : (captures : List Capture) (k : ℕ) (capture : Capture) → k < length captures → capture ≡ slice_index_or captures k capture
    → least_time (map file_of (take (k + 1) captures)) ≡ least_in (least_time (map file_of (take k captures))) (packets_of capture)
least_time_next captures k capture inside is =
    let step : Option ℕ → Capture → Option ℕ = λ l x. least_in l (packets_of x) in
    fold-map (λ l (file : CaptureFile). least_in l file.packets) file_of None (take (k + 1) captures)
    ∙ fold_more step None captures k capture inside
    ∙ ap (λ x. step (fold step None (take k captures)) x) (sym is)
    ∙ ap (λ l. step l capture) (sym (fold-map (λ l (file : CaptureFile). least_in l file.packets) file_of None (take k captures)))
