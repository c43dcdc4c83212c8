-- What comes of a job whose table and captures were read.
use Rattle.std.proofs.Common.{◌≡◌, ◌∙◌, ◌⊎◌, ℕ, ◌+◌, ◌<◌, Bool, true, false, List, [], ◌∷◌, length, slice_index_or, Option, None, Some, Result, Ok, Err}
use Rattle.std.proofs.Common.{if◌then◌else◌, sym, subst, arith, inl, inr}
use Rattle.std.specs.Prelude.{map, All, option_map, nat_lt, sum_by, Vec, IfOk, IfErr, IsErrAnd}
use Rattle.std.specs.Option.{option_or}
use Rattle.std.proofs.lemmas.List.{same_lists, get_or_default, length-map}
use Rattle.std.proofs.lemmas.Option.{none-some, same_Some}
use Rattle.std.proofs.Math.ListN.{get_or-map as get_or-map_same}
use Rattle.std_lemmas.proofs.Lists.{at_place}
use Rattle.pcap_records.specs.declared.capture.Capture.{Capture as ACapture}
use Rattle.pcap_records.specs.declared.fault.PcapFault.{PcapFault}
use Rattle.forward_table.specs.declared.route_lines.RouteLine.{RouteLine}
use Rattle.forward_table.specs.Reading.{reading_of}
use Rattle.card_core.specs.declared.plan.Planned.{Planned}
use Rattle.switch_words.specs.declared.job.Settings.{Settings}
use Rattle.switch_plan.specs.declared.plan.Plan.{Plan}
use Rattle.switch_plan.specs.declared.fault.PlanFault.{PlanFault}
use Rattle.switch_plan.specs.declared.fault.PlanFault.TheVariants.{Table, Capture, MixedLink, TooManySlots, TooManyPackets, TooManyCells, OutOfMemory}
use Rattle.switch_plan.specs.Traffic.{CaptureFile, file_of, IsFile, AreFiles, traffic_of}
use Rattle.switch_plan.specs.declared.limits.Limits.{Limits}
use Rattle.switch_plan.specs.Totals.{slots_of, total_work}
use Rattle.switch_plan.specs.Refusals.{IsFirstFault, first_link, mixed_links, first_over, over_packets, over_cells, over_traffic}
use Rattle.switch_plan.specs.Refusals.{AreRead, IsRefusedWhenRead, IsRefusal, Terms, terms_of, limits_for, refusal_of}
use Rattle.switch_plan.specs.ReadingSteps.{bytes_of_files, IsCaptureOf, AreCapturesOf}
use Rattle.switch_plan.specs.GoodPlans.{switch_plan_of, IsPlanOf}
use Rattle.switch_plan.specs.JobSteps.{IsJobPlan}
use Rattle.switch_plan.proofs.Refused.{refusal_once, no_refusal}

-- ---- captures that were read
pub own_bytes : (files : List (List ℕ)) (captures : List ACapture) → AreCapturesOf files captures
    → All (λ (capture : ACapture). IsCaptureOf capture.bytes.items capture) captures
own_bytes files captures are k d inside =
    let is = are.each k [] d (let n = are.count in omega arith) in
    subst (λ b. IsCaptureOf b (slice_index_or captures k d)) (sym is.kept) is

kept_bytes : (files : List (List ℕ)) (captures : List ACapture) → AreCapturesOf files captures
    → map (λ (capture : ACapture). capture.bytes.items) captures ≡ files
kept_bytes files captures are =
    let bytes : ACapture → List ℕ = λ capture. capture.bytes.items in
    same_lists (map bytes captures) files (length-map captures bytes ∙ are.count)
    (λ k d inside.
    let within : k < length captures = omega (arith, length-map captures bytes) in
    let got = at_place captures k within in
    get_or_default (map bytes captures) k d (bytes got.0) inside
    ∙ get_or-map_same bytes captures k got.0
    ∙ (are.each k d got.0 (let n = are.count in omega arith)).kept)

files_are : (files : List (List ℕ)) (captures : List ACapture) → AreCapturesOf files captures → AreFiles files (map file_of captures)
files_are files captures are = record {
  count = length-map captures file_of ∙ are.count;
  each = λ k bytes capture within.
      let inside : k < length captures = let n = are.count in omega arith in
      let got = at_place captures k inside in
      let same : file_of (slice_index_or captures k got.0) ≡ slice_index_or (map file_of captures) k capture =
      sym (get_or_default (map file_of captures) k capture (file_of got.0) (omega (arith, length-map captures file_of))
      ∙ get_or-map_same file_of captures k got.0) in
      subst (IsFile (slice_index_or files k bytes)) same (are.each k bytes got.0 within).file;
}

pub files_long : {A B : Type 0} (files : Vec (Vec ℕ A) B) → length (bytes_of_files files) ≡ length files.items
files_long {A = A} files = length-map files.items (λ (file : Vec ℕ A). file.items)

-- ---- what is refused after the reading
abbrev IsLate : PlanFault → Type 0
IsLate (Table why) = ⊥
IsLate (Capture port why) = ⊥
IsLate (MixedLink first other) = Unit {0}
IsLate (TooManySlots port slots) = Unit {0}
IsLate (TooManyPackets packets) = Unit {0}
IsLate (TooManyCells cells) = Unit {0}
IsLate OutOfMemory = ⊥

late_either : (a b : Option PlanFault) (fault : PlanFault) → ((f : PlanFault) → a ≡ Some f → IsLate f) → ((f : PlanFault) → b ≡ Some f → IsLate f)
    → option_or a b ≡ Some fault → IsLate fault
late_either None b fault first second is = second fault is
late_either (Some f) b fault first second is = first fault is

late_if : (test : Bool) (x fault : PlanFault) (rest : Option PlanFault) → IsLate x → ((f : PlanFault) → rest ≡ Some f → IsLate f)
    → (if test then Some x else rest) ≡ Some fault → IsLate fault
late_if true x fault rest late more is = subst IsLate (same_Some x fault is) late
late_if false x fault rest late more is = more fault is

late_mixed : (first : ℕ) (other : Option ℕ) (fault : PlanFault) → option_map (MixedLink first) other ≡ Some fault → IsLate fault
late_mixed first None fault is = absurd (none-some fault is)
late_mixed first (Some other) fault is = subst IsLate (same_Some (MixedLink first other) fault is) tt

late_over : (most port : ℕ) (ports : List ℕ) (fault : PlanFault) → first_over most port ports ≡ Some fault → IsLate fault
late_over most port [] fault is = absurd (none-some fault is)
late_over most port (slots ∷ ports) fault is =
    late_if (nat_lt most slots) (TooManySlots port slots) fault (first_over most (port + 1) ports) tt (late_over most (port + 1) ports) is

late_cells : (most cells : ℕ) (fault : PlanFault) → over_cells most cells ≡ Some fault → IsLate fault
late_cells most cells fault is = late_if (nat_lt most cells) (TooManyCells cells) fault None tt (λ f e. absurd (none-some f e)) is

late_packets : (most : Option ℕ) (packets : ℕ) (fault : PlanFault) → over_packets most packets ≡ Some fault → IsLate fault
late_packets None packets fault is = absurd (none-some fault is)
late_packets (Some most) packets fault is = late_if (nat_lt most packets) (TooManyPackets packets) fault None tt (λ f e. absurd (none-some f e)) is

late_limits : (limits : Limits) (ports : List (List Planned)) (fault : PlanFault) → over_traffic limits ports ≡ Some fault → IsLate fault
late_limits limits ports fault is =
    let slots = map slots_of ports in
    let packets = sum_by length ports in
    let cells = total_work ports in
    late_either (first_over limits.slots 0 slots) (option_or (over_packets limits.packets packets) (over_cells limits.cells cells)) fault
    (late_over limits.slots 0 slots)
    (λ later. late_either (over_packets limits.packets packets) (over_cells limits.cells cells) later (late_packets limits.packets packets)
    (late_cells limits.cells cells)) is

late_refusal : (terms : Terms) (table : List RouteLine) (captures : List CaptureFile) (fault : PlanFault)
    → refusal_of terms table captures ≡ Some fault → IsLate fault
late_refusal terms table captures fault is =
    let traffic = traffic_of table (first_link captures) terms.speed captures in
    let limits = limits_for terms.long (length captures) in
    late_either (mixed_links captures) (over_traffic limits traffic) fault (mixed_late captures) (late_limits limits traffic) is
  where
    mixed_late : (captures : List CaptureFile) (fault : PlanFault) → mixed_links captures ≡ Some fault → IsLate fault
    mixed_late captures fault is = late_mixed _ _ fault is

refusal_late : (terms : Terms) (text : List ℕ) (files : List (List ℕ)) (fault : PlanFault) → IsLate fault → IsRefusedWhenRead terms text files fault
    → IsRefusal terms text files fault
refusal_late terms text files (Table why) late is = absurd late
refusal_late terms text files (Capture port why) late is = absurd late
refusal_late terms text files (MixedLink first other) late is = is
refusal_late terms text files (TooManySlots port slots) late is = is
refusal_late terms text files (TooManyPackets packets) late is = is
refusal_late terms text files (TooManyCells cells) late is = is
refusal_late terms text files OutOfMemory late is = absurd late

-- ---- the answers
-- a refusal that was told is the refusal
pub told_once : (terms : Terms) (text : List ℕ) (files : List (List ℕ)) (answer fault : PlanFault) → (answer ≡ OutOfMemory)
    ⊎ IsRefusal terms text files answer → IsRefusal terms text files fault → (answer ≡ OutOfMemory) ⊎ (answer ≡ fault)
told_once terms text files answer fault (inl memory) is = inl memory
told_once terms text files answer fault (inr told) is = inr (refusal_once terms text files answer fault told is)

pub capture_refused : (terms : Terms) (text : List ℕ) (files : List (List ℕ)) (ports : ℕ) (table : List RouteLine) (answer : PlanFault)
    → ports ≡ length files → reading_of ports text ≡ Ok table
    → (answer ≡ OutOfMemory) ⊎ ((port : ℕ) × (fault : PcapFault) × (answer ≡ Capture port fault) × IsFirstFault files port fault) → (answer ≡ OutOfMemory)
    ⊎ IsRefusal terms text files answer
capture_refused terms text files ports table answer ports_is good (inl memory) = inl memory
capture_refused terms text files ports table answer ports_is good (inr (port, fault, is, first)) =
    inr (subst (IsRefusal terms text files) (sym is) (table, subst (λ n. reading_of n text ≡ Ok table) ports_is good, first))

module _ (settings : Settings) (text : List ℕ) (files : List (List ℕ)) (ports : ℕ) (table : List RouteLine) (captures : List ACapture)
    (ports_is : ports ≡ length files) (good : reading_of ports text ≡ Ok table) (are : AreCapturesOf files captures) where
  are_read : AreRead text files table (map file_of captures)
  are_read = record { table_is = subst (λ n. reading_of n text ≡ Ok table) ports_is good; captures_are = files_are files captures are }

  planned_from : (plan : Plan) → IsJobPlan settings table captures plan
      → (lines : List RouteLine) × (read : List CaptureFile) × AreRead text files lines read × (refusal_of (terms_of settings) lines read ≡ None)
      × IsPlanOf settings files lines read (switch_plan_of plan)
  planned_from plan is = (
    table,
    map file_of captures,
    are_read,
    is.allowed,
    subst (λ fs. IsPlanOf settings fs table (map file_of captures) (switch_plan_of plan)) (kept_bytes files captures are) is.planned,
  )

  refused_from : (fault : PlanFault) → (fault ≡ OutOfMemory) ⊎ (refusal_of (terms_of settings) table (map file_of captures) ≡ Some fault)
      → (fault ≡ OutOfMemory) ⊎ IsRefusal (terms_of settings) text files fault
  refused_from fault (inl memory) = inl memory
  refused_from fault (inr is) =
      inr (refusal_late (terms_of settings) text files fault (late_refusal (terms_of settings) table (map file_of captures) fault is)
      (table, map file_of captures, are_read, is))

  -- the same of what was answered
  pub planned_result : (result : Result Plan PlanFault)
      → IfOk result (IsJobPlan settings table captures)
      → IfOk result (λ plan. (lines : List RouteLine) × (read : List CaptureFile) × AreRead text files lines read
      × (refusal_of (terms_of settings) lines read ≡ None) × IsPlanOf settings files lines read (switch_plan_of plan))
  planned_result (Ok plan) is = planned_from plan is
  planned_result (Err fault) is = is

  pub refused_result : (result : Result Plan PlanFault)
      → IfErr result (λ fault. (fault ≡ OutOfMemory) ⊎ (refusal_of (terms_of settings) table (map file_of captures) ≡ Some fault))
      → IfErr result (λ fault. (fault ≡ OutOfMemory) ⊎ IsRefusal (terms_of settings) text files fault)
  refused_result (Ok plan) is = is
  refused_result (Err fault) is = refused_from fault is

  -- each refusal is told
  pub every_from : (result : Result Plan PlanFault)
      → IfOk result (IsJobPlan settings table captures)
      → IfErr result (λ fault. (fault ≡ OutOfMemory) ⊎ (refusal_of (terms_of settings) table (map file_of captures) ≡ Some fault))
      → (fault : PlanFault) → IsRefusal (terms_of settings) text files fault → IsErrAnd result (λ answer. (answer ≡ OutOfMemory) ⊎ (answer ≡ fault))
  every_from (Ok plan) planned refused fault is =
      absurd (no_refusal (terms_of settings) text files table (map file_of captures) fault are_read planned.allowed is)
  every_from (Err answer) planned refused fault is = told_once (terms_of settings) text files answer fault (refused_from answer refused) is
