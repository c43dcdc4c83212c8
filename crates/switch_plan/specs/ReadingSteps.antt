-- What was read of files, each by itself: the words of the calls inside.
use Rattle.std.specs.Prelude.{◌≡◌, ◌⊎◌, ℕ, ◌<◌, ◌≤◌, List, length, map, All, Result, Ok, Err, Vec, slice_index_or}
use Rattle.cell_cutter.specs.declared.sizes.TheConstants.{MAX_CAPTURED_BYTES}
use Rattle.pcap_records.specs.declared.fault.PcapFault.{PcapFault}
use Rattle.pcap_records.specs.declared.fault.PcapFault.TheVariants.{OutOfMemory}
use Rattle.pcap_records.specs.declared.capture.Capture.{Capture}
use Rattle.pcap_records.specs.Packets.{IsWithin, AreInOrder, packets_of}
use Rattle.pcap_records.specs.Faults.{IsFault}
use Rattle.forward_table.specs.declared.route_lines.RouteLine.{RouteLine}
use Rattle.card_core.specs.declared.plan.Planned.{Planned}
use Rattle.std.specs.List.{zip}
use Rattle.switch_plan.specs.declared.limits.TheConstants.{MAX_PORT_PACKETS}
use Rattle.switch_plan.specs.Traffic.{IsFile, file_of, planned, unplaced}

-- the bytes of each file
abbrev pub bytes_of_files : {A B : Type 0} → Vec (Vec ℕ A) B → List (List ℕ)
bytes_of_files files = map (λ file. file.items) files.items

-- a capture that was read of a file's bytes, and keeps them
pub record IsCaptureOf (bytes : List ℕ) (capture : Capture) : Type 0 where
  pub file : IsFile bytes (file_of capture)
  pub within : All (IsWithin capture.bytes.items) capture.packets.items
  pub order : AreInOrder capture.packets.items
  pub kept : capture.bytes.items ≡ bytes
  pub short : All (λ packet. packet.len ≤ MAX_CAPTURED_BYTES) capture.packets.items
  pub few : length capture.packets.items ≤ MAX_PORT_PACKETS

-- what reading a file gave: its capture, its fault, or out of memory
abbrev pub IsReadAs : List ℕ → Result Capture PcapFault → Type 0
IsReadAs bytes (Ok capture) = IsCaptureOf bytes capture
IsReadAs bytes (Err fault) = (fault ≡ OutOfMemory) ⊎ IsFault bytes fault

-- what reading each file gave
pub record AreReadAs (files : List (List ℕ)) (answers : List (Result Capture PcapFault)) : Type 0 where
  pub count : length answers ≡ length files
  pub each : (k : ℕ) (bytes : List ℕ) (answer : Result Capture PcapFault) → k < length files
      → IsReadAs (slice_index_or files k bytes) (slice_index_or answers k answer)

-- the captures of all files
pub record AreCapturesOf (files : List (List ℕ)) (captures : List Capture) : Type 0 where
  pub count : length captures ≡ length files
  pub each : (k : ℕ) (bytes : List ℕ) (capture : Capture) → k < length files → IsCaptureOf (slice_index_or files k bytes) (slice_index_or captures k capture)

-- The packets of a port as they are planned of a capture that was read: their places are those of the capture.
pub record IsTrafficOf (table : List RouteLine) (capture : Capture) (slots : List ℕ) (packets : List Planned) : Type 0 where
  pub packets_are : map unplaced packets ≡ map (λ pair. planned table capture.link pair.0 pair.1) (zip (packets_of capture) slots)
  pub places : map (λ packet. packet.start) packets ≡ map (λ packet. packet.start) capture.packets.items
