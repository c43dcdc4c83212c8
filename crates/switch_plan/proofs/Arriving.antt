-- What the line needs of packets, and the last of their arrival slots.
use Rattle.std.proofs.Common.{◌≡◌, ℕ, zero, suc, ◌+◌, ◌*◌, ◌^◌, ◌<◌, ◌≤◌, List, [], ◌∷◌, length, slice_index_or, refl, sym, subst, arith}
use Rattle.cell_cutter.specs.Messages.{cells_of_packet}
use Rattle.line_pace.specs.declared.pace.Stamp.{Stamp}
use Rattle.line_pace.specs.declared.pace.Pace.{Pace}
use Rattle.line_pace.specs.declared.pace.Pace.TheVariants.{Line, Micros, Rate}
use Rattle.line_pace.specs.Arrivals.{base_of, IsRateTime, CanCome, slots_taken}
use Rattle.pcap_records.specs.declared.capture.Stored.{Stored}
use Rattle.pcap_records.specs.Packets.{captured_in, packet_in, IsWithin}
use Rattle.switch_plan.specs.Traffic.{stamp_of}
use Rattle.switch_plan.proofs.Times.{length-captured_in}

pub taken_last : (slots : List ℕ) (k : ℕ) → length slots ≡ k + 1 → slots_taken slots ≡ slice_index_or slots k 0 + 1
taken_last [] k long = absurd (omega arith)
taken_last (x ∷ []) zero long = refl
taken_last (x ∷ []) (suc k) long = absurd (omega arith)
taken_last (x ∷ y ∷ slots) zero long = absurd (omega arith)
taken_last (x ∷ y ∷ slots) (suc k) long = taken_last (y ∷ slots) k (omega arith)

-- a packet has a cell, and no more than the longest record
pub cells_some : (len : ℕ) → 0 < cells_of_packet len
cells_some len = omega arith

cells_few : (len : ℕ) → len ≤ 262144 → cells_of_packet len ≤ 4682
cells_few len short = omega arith

-- a time below 2^62 is one that any pace has a slot for
rate_time : (pace : Pace) (time : ℕ) → time < 2 ^ 62 → IsRateTime pace time
rate_time Line time early = tt
rate_time (Micros slot base) time early = tt
rate_time (Rate mbps base) time early = early

-- a packet that was read can come at a pace
pub can_come : (pace : Pace) (bytes : List ℕ) (s : Stored) (stamp : Stamp) → stamp ≡ stamp_of (packet_in bytes s) → IsWithin bytes s
    → base_of pace ≤ s.seconds * 1000000000 + s.nanos → s.len ≤ 262144 → stamp.time < 2 ^ 62 → CanCome pace stamp
can_come pace bytes s stamp is within time short early =
    subst (CanCome pace) (sym is)
    (record {
      some = cells_some (length (captured_in bytes s));
      few = cells_few (length (captured_in bytes s)) (omega (arith, length-captured_in bytes s within));
      time = time;
      early = rate_time pace (stamp_of (packet_in bytes s)).time (subst (λ (x : Stamp). x.time < 2 ^ 62) is early);
    })
