-- A job is refused for one cause at most, and not if it can be planned.
use Rattle.std.proofs.Common.{◌≡◌, ◌∙◌, ◌⊎◌, ℕ, zero, suc, ◌<◌, List, [], ◌∷◌, length, slice_index_or, None, Ok, Err, refl, ap, sym}
use Rattle.std.proofs.Common.{subst, arith, inl, inr}
use Rattle.std.proofs.lemmas.List.{same_lists}
use Rattle.std.proofs.lemmas.Option.{none-some, same_Some}
use Rattle.pcap_records.specs.declared.fault.PcapFault.{PcapFault}
use Rattle.pcap_records.proofs.Outcomes.{captures_once, faults_once, no_fault_of_a_capture}
use Rattle.forward_table.specs.declared.faults.TableFault.{TableFault}
use Rattle.forward_table.specs.declared.route_lines.RouteLine.{RouteLine}
use Rattle.forward_table.specs.Reading.{reading_of}
use Rattle.switch_plan.specs.declared.fault.PlanFault.{PlanFault}
use Rattle.switch_plan.specs.declared.fault.PlanFault.TheVariants.{Table, Capture, MixedLink, TooManySlots, TooManyPackets, TooManyCells, OutOfMemory}
use Rattle.switch_plan.specs.Traffic.{CaptureFile, IsFile, AreFiles}
use Rattle.switch_plan.specs.Refusals.{IsFirstFault, Terms, AreRead, IsRefusedWhenRead, IsRefusal, refusal_of}

file_once : (bytes : List ℕ) (a b : CaptureFile) → IsFile bytes a → IsFile bytes b → a ≡ b
file_once bytes a b is_a is_b =
    let same = captures_once bytes a.nano b.nano a.link b.link a.packets b.packets is_a is_b in
    ap (λ n. record a { nano = n }) same.0 ∙ ap (λ l. record { nano = b.nano; link = l; packets = a.packets }) same.1
    ∙ ap (λ p. record { nano = b.nano; link = b.link; packets = p }) same.2

-- files are these captures in one way
pub files_once : (files : List (List ℕ)) (a b : List CaptureFile) → AreFiles files a → AreFiles files b → a ≡ b
files_once files a b are_a are_b =
    same_lists a b (are_a.count ∙ sym are_b.count)
    (λ k d inside.
    let within : k < length files = let n = are_a.count in omega arith in
    file_once (slice_index_or files k []) (slice_index_or a k d) (slice_index_or b k d) (are_a.each k [] d within) (are_b.each k [] d within))

-- some capture, where there is a file
no_file : (files : List (List ℕ)) (captures : List CaptureFile) (port : ℕ) → port < length files → length captures ≡ length files → CaptureFile
no_file files [] port within count = absurd (omega arith)
no_file files (capture ∷ captures) port within count = capture

-- a capture has no fault
no_fault_of_files : (files : List (List ℕ)) (captures : List CaptureFile) (port : ℕ) (fault : PcapFault) (d : CaptureFile) → AreFiles files captures
    → IsFirstFault files port fault → ⊥
no_fault_of_files files captures port fault d are first =
    let capture = slice_index_or captures port d in
    no_fault_of_a_capture (slice_index_or files port []) capture.nano capture.link capture.packets fault (are.each port [] d first.within) (first.faulty [])

-- before the first fault there is none
no_fault_before : (files : List (List ℕ)) (port later : ℕ) (fault other : PcapFault) → IsFirstFault files port fault → IsFirstFault files later other
    → port < later → ⊥
no_fault_before files port later fault other first second less =
    let capture = second.before port [] less in
    no_fault_of_a_capture (slice_index_or files port []) capture.0.nano capture.0.link capture.0.packets fault capture.1 (first.faulty [])

same_port : (files : List (List ℕ)) (port later : ℕ) (fault other : PcapFault) → IsFirstFault files port fault → IsFirstFault files later other → port ≡ later
same_port files port later fault other first second =
    elim (three port later) [
      | inl less ↦ absurd (no_fault_before files port later fault other first second less)
      | inr (inl more) ↦ absurd (no_fault_before files later port other fault second first more)
      | inr (inr same) ↦ same
    ]
  where
    three : (m n : ℕ) → (m < n) ⊎ ((n < m) ⊎ (m ≡ n))
    three zero zero = inr (inr refl)
    three zero (suc n) = inl (omega arith)
    three (suc m) zero = inr (inl (omega arith))
    three (suc m) (suc n) =
        elim (three m n) [
          | inl less ↦ inl (omega arith)
          | inr (inl more) ↦ inr (inl (omega arith))
          | inr (inr same) ↦ inr (inr (ap suc same))
        ]

-- a job's cause, by where it comes from
data IsCause (terms : Terms) (text : List ℕ) (files : List (List ℕ)) (fault : PlanFault) : Type 0 where
  of_table : (why : TableFault) → fault ≡ Table why → reading_of (length files) text ≡ Err why → IsCause terms text files fault
  of_capture : (port : ℕ) (why : PcapFault) (table : List RouteLine) → fault ≡ Capture port why → reading_of (length files) text ≡ Ok table
      → IsFirstFault files port why → IsCause terms text files fault
  of_both : IsRefusedWhenRead terms text files fault → IsCause terms text files fault

module _ (terms : Terms) (text : List ℕ) (files : List (List ℕ)) where
  cause_of : (fault : PlanFault) → IsRefusal terms text files fault → IsCause terms text files fault
  cause_of (Table why) is = of_table why refl is
  cause_of (Capture port why) (table, read, first) = of_capture port why table refl read first
  cause_of (MixedLink a b) is = of_both is
  cause_of (TooManySlots port slots) is = of_both is
  cause_of (TooManyPackets packets) is = of_both is
  cause_of (TooManyCells cells) is = of_both is
  cause_of OutOfMemory is = absurd is

  -- a table and captures that are read are refused for one cause, or for none
  outcome_once : (table other_table : List RouteLine) (captures other_captures : List CaptureFile) → AreRead text files table captures
      → AreRead text files other_table other_captures → refusal_of terms table captures ≡ refusal_of terms other_table other_captures
  outcome_once table other_table captures other_captures read other =
      let tables : table ≡ other_table = let p = read.table_is in let q = other.table_is in cc in
      let files_same = files_once files captures other_captures read.captures_are other.captures_are in
      ap (λ t. refusal_of terms t captures) tables ∙ ap (refusal_of terms other_table) files_same

  not_both : (why : TableFault) (table : List RouteLine) → reading_of (length files) text ≡ Err why → reading_of (length files) text ≡ Ok table → ⊥
  not_both why table bad good = cc

  same_cause : (a b : PlanFault) → IsCause terms text files a → IsCause terms text files b → a ≡ b
  same_cause a b (of_table why is bad) (of_table other is' bad') = cc
  same_cause a b (of_table why is bad) (of_capture port other table is' good first) = absurd (not_both why table bad good)
  same_cause a b (of_table why is bad) (of_both (table, captures, read, refused)) = absurd (not_both why table bad read.table_is)
  same_cause a b (of_capture port why table is good first) (of_table other is' bad) = absurd (not_both other table bad good)
  same_cause a b (of_capture port why table is good first) (of_capture later other table' is' good' second) =
      let port_same = same_port files port later why other first second in
      let second' : IsFirstFault files port other = subst (λ p. IsFirstFault files p other) (sym port_same) second in
      let why_same = faults_once (slice_index_or files port []) why other (first.faulty []) (second'.faulty []) in
      is ∙ ap (λ p. Capture p why) port_same ∙ ap (Capture later) why_same ∙ sym is'
  same_cause a b (of_capture port why table is good first) (of_both (table', captures, read, refused)) =
      absurd (no_fault_of_files files captures port why (no_file files captures port first.within read.captures_are.count) read.captures_are first)
  same_cause a b (of_both (table, captures, read, refused)) (of_table other is' bad) = absurd (not_both other table bad read.table_is)
  same_cause a b (of_both (table', captures, read, refused)) (of_capture port why table is good first) =
      absurd (no_fault_of_files files captures port why (no_file files captures port first.within read.captures_are.count) read.captures_are first)
  same_cause a b (of_both (table, captures, read, refused)) (of_both (table', captures', read', refused')) =
      same_Some a b (sym refused ∙ outcome_once table table' captures captures' read read' ∙ refused')

  -- so a refusal is the refusal
  pub refusal_once : (a b : PlanFault) → IsRefusal terms text files a → IsRefusal terms text files b → a ≡ b
  refusal_once a b is_a is_b = same_cause a b (cause_of a is_a) (cause_of b is_b)

  -- and what can be planned has none
  pub no_refusal : (table : List RouteLine) (captures : List CaptureFile) (fault : PlanFault) → AreRead text files table captures
      → refusal_of terms table captures ≡ None → IsRefusal terms text files fault → ⊥
  no_refusal table captures fault read none is = unrefused table captures fault read none (cause_of fault is)
    where
      unrefused : (table : List RouteLine) (captures : List CaptureFile) (fault : PlanFault) → AreRead text files table captures
          → refusal_of terms table captures ≡ None → IsCause terms text files fault → ⊥
      unrefused table captures fault read none (of_table why is bad) = not_both why table bad read.table_is
      unrefused table captures fault read none (of_capture port why table' is good first) =
          no_fault_of_files files captures port why (no_file files captures port first.within read.captures_are.count) read.captures_are first
      unrefused table captures fault read none (of_both (table', captures', read', refused)) =
          none-some fault (sym none ∙ outcome_once table table' captures captures' read read' ∙ refused)
