-- No packet comes before the least time.
use Rattle.std.proofs.Common.{◌≡◌, ℕ, zero, suc, ◌+◌, ◌*◌, ◌<◌, ◌≤◌, List, [], ◌∷◌, length, slice_index_or, Option, None, Some, ap, subst, arith}
use Rattle.std.specs.Prelude.{map, fold, All}
use Rattle.std.proofs.lemmas.List.{length-map}
use Rattle.std.proofs.Math.ListN.{get_or-map as get_or-map_same}
use Rattle.line_pace.specs.Arrivals.{base_of}
use Rattle.pcap_records.specs.declared.capture.Capture.{Capture}
use Rattle.pcap_records.specs.declared.capture.Stored.{Stored}
use Rattle.pcap_records.specs.Packets.{Packet, packet_in, packets_of}
use Rattle.switch_words.specs.declared.job.Speed.{Speed}
use Rattle.switch_words.specs.declared.job.Speed.TheVariants.{Untimed, SlotMicros, LineRate}
use Rattle.switch_plan.specs.Traffic.{CaptureFile, file_of, earlier, time_of, least_in, least_time, pace_from, pace_of}

-- there is a least time, and it is no later than this
abbrev IsBy : Option ℕ → ℕ → Type 0
IsBy None time = ⊥
IsBy (Some least) time = least ≤ time

by_kept : (least : Option ℕ) (next time : ℕ) → IsBy least time → IsBy (earlier least next) time
by_kept None next time by = absurd by
by_kept (Some least) next time by = omega arith

by_next : (least : Option ℕ) (time : ℕ) → IsBy (earlier least time) time
by_next None time = omega arith
by_next (Some least) time = omega arith

by_all : (least : Option ℕ) (times : List ℕ) (time : ℕ) → IsBy least time → IsBy (fold earlier least times) time
by_all least [] time by = by
by_all least (next ∷ times) time by = by_all (earlier least next) times time (by_kept least next time by)

by_each : (least : Option ℕ) (times : List ℕ) (k d : ℕ) → k < length times → IsBy (fold earlier least times) (slice_index_or times k d)
by_each least [] k d inside = absurd (omega arith)
by_each least (time ∷ times) zero d inside = by_all (earlier least time) times time (by_next least time)
by_each least (time ∷ times) (suc k) d inside = by_each (earlier least time) times k d (omega arith)

abbrev least_of : Option ℕ → List CaptureFile → Option ℕ
least_of least captures = fold (λ l (capture : CaptureFile). least_in l capture.packets) least captures

by_files : (least : Option ℕ) (captures : List CaptureFile) (time : ℕ) → IsBy least time → IsBy (least_of least captures) time
by_files least [] time by = by
by_files least (capture ∷ captures) time by =
    by_files (least_in least capture.packets) captures time (by_all least (map time_of capture.packets) time by)

-- for each packet of each capture
by_packet : (least : Option ℕ) (captures : List Capture) (i k : ℕ) (c : Capture) (d : Packet) → i < length captures
    → k < length (packets_of (slice_index_or captures i c))
    → IsBy (least_of least (map file_of captures)) (time_of (slice_index_or (packets_of (slice_index_or captures i c)) k d))
by_packet least [] i k c d inside within = absurd (omega arith)
by_packet least (capture ∷ captures) zero k c d inside within =
    let times = map time_of (packets_of capture) in
    let at : slice_index_or times k (time_of d) ≡ time_of (slice_index_or (packets_of capture) k d) = get_or-map_same time_of (packets_of capture) k d in
    by_files (least_in least (packets_of capture)) (map file_of captures) (time_of (slice_index_or (packets_of capture) k d))
    (subst (IsBy (least_in least (packets_of capture))) at (by_each least times k (time_of d) (omega (arith, length-map (packets_of capture) time_of))))
by_packet least (capture ∷ captures) (suc i) k c d inside within =
    by_packet (least_in least (packets_of capture)) captures i k c d (omega arith) within

base_by : (speed : Speed) (least : Option ℕ) (time : ℕ) → IsBy least time → base_of (pace_from speed least) ≤ time
base_by Untimed least time by = omega arith
base_by (SlotMicros micros) None time by = absurd by
base_by (SlotMicros micros) (Some least) time by = by
base_by (LineRate mbps) None time by = absurd by
base_by (LineRate mbps) (Some least) time by = by

-- so no packet comes before slot 0
pub all_come : (speed : Speed) (captures : List Capture) (i : ℕ) (c : Capture) → i < length captures
    → All (λ (s : Stored). base_of (pace_of speed (map file_of captures)) ≤ s.seconds * 1000000000 + s.nanos) (slice_index_or captures i c).packets.items
all_come speed captures i c inside k d within =
    let capture = slice_index_or captures i c in
    let own = packet_in capture.bytes.items in
    let here = by_packet None captures i k c (own d) inside (omega (arith, length-map capture.packets.items own)) in
    let at : time_of (slice_index_or (packets_of capture) k (own d)) ≡ time_of (own (slice_index_or capture.packets.items k d)) =
    ap time_of (get_or-map_same own capture.packets.items k d) in
    base_by speed (least_time (map file_of captures)) (time_of (own (slice_index_or capture.packets.items k d)))
    (subst (IsBy (least_time (map file_of captures))) at here)
