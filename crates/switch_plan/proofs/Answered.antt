-- Answers of reading files, the captures among them, and the first fault.
use Rattle.std.proofs.Common.{◌≡◌, ◌∙◌, ◌⊎◌, ◌≢◌, ℕ, ◌+◌, ◌^◌, ◌<◌, List, [], ◌∷◌, ◌++◌, length, slice_index_or, ap, sym, subst, arith, inl, inr, length-append}
use Rattle.std.specs.Prelude.{map, Result, Ok, Err, IfOk, IfErr, All}
use Rattle.std.proofs.lemmas.List.{get_or_append_left, get_or_default, length-map}
use Rattle.std.proofs.Math.Seq.{get_or-append_seam}
use Rattle.std.proofs.Math.ListN.{get_or-map as get_or-map_same}
use Rattle.pcap_records.specs.declared.fault.PcapFault.{PcapFault}
use Rattle.pcap_records.specs.declared.fault.PcapFault.TheVariants.{OutOfMemory}
use Rattle.pcap_records.specs.declared.capture.Capture.{Capture}
use Rattle.pcap_records.specs.Packets.{packets_of, AreInOrder, IsWithin}
use Rattle.pcap_records.specs.Captures.{IsCapture}
use Rattle.pcap_records.specs.Faults.{IsFault}
use Rattle.switch_plan.specs.Traffic.{CaptureFile, file_of, IsFile}
use Rattle.switch_plan.specs.Refusals.{IsFirstFault}
use Rattle.switch_plan.specs.ReadingSteps.{IsCaptureOf, IsReadAs, AreReadAs, AreCapturesOf}
use Rattle.switch_plan.proofs.Sizes.{capture_short, capture_few}

abbrev pub read_as : Capture → Result Capture PcapFault
read_as capture = Ok capture

-- the answer of a file within the first that were read is its capture
capture_at : (files : List (List ℕ)) (captures : List Capture) (rest : List (Result Capture PcapFault)) → AreReadAs files (map read_as captures ++ rest)
    → (k : ℕ) (bytes : List ℕ) (d : Capture) → k < length captures → IsCaptureOf (slice_index_or files k bytes) (slice_index_or captures k d)
capture_at files captures rest read k bytes d inside =
    let inside' : k < length (map read_as captures) = omega (arith, length-map captures read_as) in
    let within : k < length files = omega (arith, read.count, length-append (map read_as captures) rest, inside') in
    subst (IsReadAs (slice_index_or files k bytes))
    (get_or_append_left (map read_as captures) rest (read_as d) k inside' ∙ get_or-map_same read_as captures k d)
    (read.each k bytes (read_as d) within)

pub all_read : (files : List (List ℕ)) (answers : List (Result Capture PcapFault)) (captures : List Capture) → AreReadAs files answers
    → map read_as captures ++ [] ≡ answers → AreCapturesOf files captures
all_read files answers captures read whole =
    let read' = subst (AreReadAs files) (sym whole) read in
    let count : length captures ≡ length files = omega (arith, read'.count, length-append (map read_as captures) [], length-map captures read_as) in
    record { count = count; each = λ k bytes capture within. capture_at files captures [] read' k bytes capture (omega arith) }

-- a capture among those that were read
some_file : (bytes : List ℕ) (captures : List Capture) (k : ℕ) → k < length captures → ((d : Capture) → IsCaptureOf bytes (slice_index_or captures k d))
    → (capture : CaptureFile) × IsFile bytes capture
some_file bytes [] k inside is = absurd (omega arith)
some_file bytes (capture ∷ captures) k inside is = (file_of (slice_index_or (capture ∷ captures) k capture), (is capture).file)

-- the first answer that is none
pub first_fault : (files : List (List ℕ)) (answers rest : List (Result Capture PcapFault)) (captures : List Capture) (fault : PcapFault)
    → AreReadAs files answers → map read_as captures ++ Err fault ∷ rest ≡ answers
    → (fault ≡ OutOfMemory) ⊎ IsFirstFault files (length captures) fault
first_fault files answers rest captures fault read whole =
    let read' = subst (AreReadAs files) (sym whole) read in
    let within : length captures < length files =
    omega (arith, read'.count, length-append (map read_as captures) (Err fault ∷ rest), length-map captures read_as) in
    let here = λ (bytes : List ℕ).
    subst (IsReadAs (slice_index_or files (length captures) bytes))
    (ap (λ k. slice_index_or (map read_as captures ++ Err fault ∷ rest) k (Err fault)) (sym (length-map captures read_as))
    ∙ get_or-append_seam (map read_as captures) (Err fault) rest (Err fault))
    (read'.each (length captures) bytes (Err fault) within) in
    elim (here []) [
      | inl memory ↦ inl memory
      | inr found ↦
          inr (record {
            within = within;
            before = λ k bytes less.
                some_file (slice_index_or files k bytes) captures k less (λ d. capture_at files captures (Err fault ∷ rest) read' k bytes d less);
            faulty = λ bytes. subst (λ file. IsFault file fault) (get_or_default files (length captures) [] bytes within) found;
          })
    ]

-- which is not out of memory
pub no_memory_fault : (files : List (List ℕ)) (port : ℕ) (fault : PcapFault) → IsFirstFault files port fault → fault ≢ OutOfMemory
no_memory_fault files port fault first memory =
    subst (IsFault (slice_index_or files port [])) memory (first.faulty [])

-- what a reading of a file gave, by what it says of its answer
pub read_as_given : (bytes : List ℕ) (answer : Result Capture PcapFault) → length bytes < 2 ^ 32
    → IfOk answer (λ c. IsCapture bytes c.nano c.link (packets_of c)) → IfOk answer (λ c. All (IsWithin c.bytes.items) c.packets.items)
    → IfOk answer (λ c. AreInOrder c.packets.items) → IfOk answer (λ c. c.bytes.items ≡ bytes) → IfErr answer (λ e. (e ≡ OutOfMemory) ⊎ IsFault bytes e)
    → IsReadAs bytes answer
read_as_given bytes (Ok capture) size found within order kept fault = record {
  file = found;
  within = within;
  order = order;
  kept = kept;
  short = capture_short bytes capture found within;
  few = capture_few capture.bytes.items capture.packets.items order within (subst (λ (xs : List ℕ). length xs < 2 ^ 32) (sym kept) size);
}
read_as_given bytes (Err e) size found within order kept fault = fault
