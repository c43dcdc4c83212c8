-- The files of a job as captures, or the first of them that has a fault.
use Rattle.std.proofs.Common.{◌≡◌, ◌≢◌, ℕ, suc, ◌<◌, ◌^◌, List, [], ◌∷◌, ◌++◌, length, Some, Result, Ok, Err, refl, ap, subst, arith, inl, inr}
use Rattle.std.specs.Prelude.{map, slice_get, slice_index_or}
use Rattle.std.proofs.lemmas.Option.{slice_get-get_or, slice_get_within}
use Rattle.std_lemmas.proofs.Lists.{at_place}
use Rattle.pcap_records.specs.declared.capture.Capture.{Capture}
use Rattle.pcap_records.specs.declared.fault.PcapFault.{PcapFault}
use Rattle.pcap_records.specs.declared.fault.PcapFault.TheVariants.{OutOfMemory}
use Rattle.pcap_records.specs.declared.link.Link.{Link}
use Rattle.pcap_records.specs.declared.capture.Stored.{Stored}
use Rattle.pcap_records.specs.Faults.{IsFault}
use Rattle.pcap_records.proofs.Numbers.{IsBytes}
use Rattle.switch_plan.specs.Refusals.{IsFirstFault}
use Rattle.switch_plan.specs.ReadingSteps.{IsCaptureOf, IsReadAs, AreReadAs, AreCapturesOf}
use Rattle.switch_plan.proofs.Sizes.{capture_short, capture_few}
use Rattle.switch_plan.proofs.Answered.{read_as, all_read, first_fault}
use Rattle.job_outcomes.proofs.Captures.{IsWalked, Reads, walked, faulty, reads}
use Rattle.job_outcomes.proofs.Vecs.{vec_of, IsMade, made_all}

-- what a file says: its capture or its fault
abbrev Says : List ℕ → Result Capture PcapFault → Type 0
Says file (Ok capture) = IsCaptureOf file capture
Says file (Err fault) = IsFault file fault

-- a file whose records were walked is a capture
walked_capture : (file : List ℕ) → length file < 2 ^ 32 → (nano : _) (link : Link) (packets : List Stored) → IsWalked file nano link packets
    → (capture : Capture) × IsCaptureOf file capture
walked_capture file short nano link packets is =
    let few = capture_few file packets is.order is.within short in
    let capture : Capture = record { nano = nano; link = link; packets = vec_of packets (omega (arith, few)); bytes = vec_of file (omega (arith, short)) } in (
      capture,
      record {
        file = is.capture;
        within = is.within;
        order = is.order;
        kept = refl;
        short = capture_short file capture is.capture is.within;
        few = few;
      },
    )

answer_of : (file : List ℕ) → length file < 2 ^ 32 → Reads file → (answer : Result Capture PcapFault) × Says file answer
answer_of file short (walked nano link packets is) = let capture = walked_capture file short nano link packets is in (Ok capture.0, capture.1)
answer_of file short (faulty fault is) = (Err fault, is)

said_read : (file : List ℕ) (answer : Result Capture PcapFault) → Says file answer → IsReadAs file answer
said_read file (Ok capture) is = is
said_read file (Err fault) is = inr is

said_fault : (file : List ℕ) (answer : Result Capture PcapFault) → Says file answer → answer ≢ Err OutOfMemory
said_fault file (Ok capture) is same = absurd (cc)
said_fault file (Err fault) is same = let memory : fault ≡ OutOfMemory = cc in subst (IsFault file) memory is

-- ---- all files
-- answers that begin with captures: to their end, or up to a fault
data Begins (answers : List (Result Capture PcapFault)) : Type 0 where
  all : (captures : List Capture) → map read_as captures ++ [] ≡ answers → Begins answers
  some : (captures : List Capture) (fault : PcapFault) (rest : List (Result Capture PcapFault)) → fault ≢ OutOfMemory
      → map read_as captures ++ Err fault ∷ rest ≡ answers → Begins answers

begins_more : (capture : Capture) (answers : List (Result Capture PcapFault)) → Begins answers → Begins (Ok capture ∷ answers)
begins_more capture answers (all captures is) = all (capture ∷ captures) (ap (λ more. Ok capture ∷ more) is)
begins_more capture answers (some captures fault rest no_memory is) = some (capture ∷ captures) fault rest no_memory (ap (λ more. Ok capture ∷ more) is)

begins : (answers : List (Result Capture PcapFault))
    → ((k : ℕ) (answer : Result Capture PcapFault) → slice_get answers k ≡ Some answer → answer ≢ Err OutOfMemory) → Begins answers
begins [] none = all [] refl
begins (Ok capture ∷ answers) none = begins_more capture answers (begins answers (λ k answer at. none (suc k) answer at))
begins (Err fault ∷ answers) none = some [] fault answers (λ memory. none 0 (Err fault) refl (ap Err memory)) refl

-- all files are captures, or one is the first with a fault
pub data FilesRead (files : List (List ℕ)) : Type 0 where
  are_captures : (captures : List Capture) → AreCapturesOf files captures → FilesRead files
  has_fault : (port : ℕ) (fault : PcapFault) → IsFirstFault files port fault → FilesRead files

said_none : (files : List (List ℕ)) (answers : List (Result Capture PcapFault)) → IsMade (λ k. Says) files answers → (k : ℕ)
    (answer : Result Capture PcapFault) → slice_get answers k ≡ Some answer → answer ≢ Err OutOfMemory
said_none files answers made k answer at =
    let inside = slice_get_within answers k answer at in
    let file = at_place files k (omega (arith, made.count)) in
    said_fault file.0 answer (made.each k file.0 answer file.1 at)

as_read : (files : List (List ℕ)) (answers : List (Result Capture PcapFault)) → IsMade (λ k. Says) files answers → AreReadAs files answers
as_read files answers made = record {
  count = made.count;
  each = λ k bytes answer inside.
      said_read (slice_index_or files k bytes) (slice_index_or answers k answer)
      (made.each k (slice_index_or files k bytes) (slice_index_or answers k answer) (slice_get-get_or files k bytes inside)
      (slice_get-get_or answers k answer (omega (arith, made.count))));
}

by_answers : (files : List (List ℕ)) (answers : List (Result Capture PcapFault)) → IsMade (λ k. Says) files answers → Begins answers → FilesRead files
by_answers files answers made (all captures is) = are_captures captures (all_read files answers captures (as_read files answers made) is)
by_answers files answers made (some captures fault rest no_memory is) = elim (first_fault files answers rest captures fault (as_read files answers made) is) [
  | inl memory ↦ absurd (no_memory memory)
  | inr first ↦ has_fault (length captures) fault first
]

pub files_read : (files : List (List ℕ)) → ((k : ℕ) (file : List ℕ) → slice_get files k ≡ Some file → IsBytes file × (length file < 2 ^ 32)) → FilesRead files
files_read files good =
    let answers = made_all (λ k. Says) files (λ k file at. answer_of file (good k file at).1 (reads file (good k file at).0)) in
    by_answers files answers.0 answers.1 (begins answers.0 (said_none files answers.0 answers.1))
