-- Where nothing stands against a command, all is written.
use Rattle.std.proofs.Common.{◌≡◌, ◌<◌, ◌+◌, ℕ, zero, suc, Bool, true, false, List, [], ◌∷◌, ◌++◌, length, get_or, Option, Some, None, inl, inr, refl}
use Rattle.std.proofs.Common.{sym, ◌∙◌, ap, subst, arith, append_assoc, length-append}
use Rattle.std.specs.Prelude.{if◌then◌else◌, is_some}
use Rattle.std.proofs.Math.ListN.{get_or-append}
use Rattle.std.proofs.Math.Seq.{get_or-append_seam}
use Rattle.outside.specs.Contents.{Contents}
use Rattle.outside.specs.WholeFiles.{AtBegin, AtWrite, NamedBytes, StopsAt}
use Rattle.switch_words.specs.Reading.{JobWords, run, gen, check, firm, RunWords, CheckWords}
use Rattle.named_schedulers.specs.Named.{decision_named}
use Rattle.run_journals.specs.RunFiles.{journal_text_under}
use Rattle.packet_times.specs.Rows.{packets_text_under}
use Rattle.switch_run.specs.Causes.{Answers, AreWritable, IsComplete, IsWritable}
use Rattle.switch_run.specs.Endings.{Command, IsWriteFault}
use Rattle.job_files.specs.Jobs.{RunsSwitch}
use Rattle.job_files.specs.OutputFiles.{files_from, journal_files, journal_name, nameless, output_name, packets_files, packets_name, packets_place}
use Rattle.job_files.specs.OutputFiles.{report_name, run_files, Texts}
use Rattle.job_files.specs.declared.ending.Written.{Written}
use Rattle.job_files.specs.declared.ending.Written.TheVariants.{Output, Report, Journal, Packets, StandardOutput}
use Rattle.job_files.specs.declared.ending.Ending.{Ending}
use Rattle.job_files.specs.declared.ending.Ending.TheVariants.{Done, Usage, ReadFault, TooLong, Refused, JournalTooLong, PacketsTooLong, OutOfMemory}
use Rattle.job_files.specs.declared.ending.Ending.TheVariants.{WriteFault, Checked}
use Rattle.job_files.proofs.Holding.{length-files_from}
use Rattle.switch_run.proofs.Answering.{no_job, no_read_fault, stops_here}

-- ---- the names of what is written

name_from : (prefix : List ℕ) (j : ℕ) (outputs : List (List ℕ)) (i : ℕ) → i < length outputs
    → (get_or (files_from prefix j outputs) i nameless).name ≡ output_name prefix (j + i)
name_from prefix j [] i within = absurd (omega arith)
name_from prefix j (bytes ∷ more) zero within = let n : j ≡ j + 0 = omega arith in ap (output_name prefix) n
name_from prefix j (bytes ∷ more) (suc i) within = let n : j + 1 + i ≡ j + suc i = omega arith in name_from prefix (j + 1) more i (omega arith)
    ∙ ap (output_name prefix) n

name_of_output : (r : RunWords) (texts : Texts) (j : ℕ) → j < length texts.outputs
    → (get_or (run_files r.prefix texts) j nameless).name ≡ output_name r.prefix j
name_of_output r texts j within =
    let n : 0 + j ≡ j = omega arith in
    let inside : j < length (files_from r.prefix 0 texts.outputs) = omega (arith, within, length-files_from r.prefix 0 texts.outputs) in
    ap (λ (f : NamedBytes). f.name) (get_or-append (files_from r.prefix 0 texts.outputs) _ nameless j inside) ∙ name_from r.prefix 0 texts.outputs j within
    ∙ ap (output_name r.prefix) n

name_of_report : (r : RunWords) (texts : Texts) → (get_or (run_files r.prefix texts) (length texts.outputs) nameless).name ≡ report_name r.prefix
name_of_report r texts =
    let n = length-files_from r.prefix 0 texts.outputs in
    ap (λ (i : ℕ). (get_or (run_files r.prefix texts) i nameless).name) (sym n)
    ∙ ap (λ (f : NamedBytes). f.name) (get_or-append_seam (files_from r.prefix 0 texts.outputs) _ _ nameless)

-- the file after the first ones and one more
name_after : (first : List NamedBytes) (one two : NamedBytes) (rest : List NamedBytes)
    → (get_or (first ++ one ∷ two ∷ rest) (length first + 1) nameless).name ≡ two.name
name_after first one two rest =
    let n : length first + 1 ≡ length (first ++ one ∷ []) = omega (arith, length-append first (one ∷ [])) in
    ap (λ (files : List NamedBytes). (get_or files (length first + 1) nameless).name) (sym (append_assoc first (one ∷ []) (two ∷ rest)))
    ∙ ap (λ (i : ℕ). (get_or ((first ++ one ∷ []) ++ two ∷ rest) i nameless).name) n
    ∙ ap (λ (f : NamedBytes). f.name) (get_or-append_seam (first ++ one ∷ []) two rest nameless)

-- the file after these two
name_later : (first : List NamedBytes) (one two three : NamedBytes) (rest : List NamedBytes)
    → (get_or (first ++ one ∷ two ∷ three ∷ rest) (length first + 2) nameless).name ≡ three.name
name_later first one two three rest =
    let n : length first + 2 ≡ length (first ++ one ∷ []) + 1 = omega (arith, length-append first (one ∷ [])) in
    ap (λ (files : List NamedBytes). (get_or files (length first + 2) nameless).name) (sym (append_assoc first (one ∷ []) (two ∷ three ∷ rest)))
    ∙ ap (λ (i : ℕ). (get_or ((first ++ one ∷ []) ++ two ∷ three ∷ rest) i nameless).name) n
    ∙ name_after (first ++ one ∷ []) two three rest

module _ (r : RunWords) (texts : Texts) where
  abbrev outputs : List NamedBytes
  outputs = files_from r.prefix 0 texts.outputs

  abbrev report : NamedBytes
  report = record { name = report_name r.prefix; bytes = texts.report }

  -- the files with this journal and this packets file
  abbrev all_files : Option (List ℕ) → Option (List ℕ) → List NamedBytes
  all_files journal packets = outputs ++ report ∷ (journal_files r.prefix journal ++ packets_files r.prefix packets)

  count : length outputs ≡ length texts.outputs
  count = length-files_from r.prefix 0 texts.outputs

  -- a journal among them is the file after the report
  journal_at : (journal packets : Option (List ℕ)) → is_some journal ≡ true
      → (get_or (all_files journal packets) (length texts.outputs + 1) nameless).name ≡ journal_name r.prefix
  journal_at None packets there = absurd (cc)
  journal_at (Some bytes) packets there =
      let n : length texts.outputs + 1 ≡ length outputs + 1 = omega (arith, count) in
      ap (λ (i : ℕ). (get_or (all_files (Some bytes) packets) i nameless).name) n ∙ name_after outputs report _ _

  -- what stands at the place of the packets file is that file
  packets_at : (journal packets : Option (List ℕ)) → packets_place (length texts.outputs) (is_some journal) < length (all_files journal packets)
      → (is_some packets ≡ true)
      × ((get_or (all_files journal packets) (packets_place (length texts.outputs) (is_some journal)) nameless).name ≡ packets_name r.prefix)
  packets_at None None within = absurd (omega (arith, within, count, length-append outputs (report ∷ [])))
  packets_at (Some bytes) None within =
      absurd (omega (arith, within, count, length-append outputs (report ∷ record { name = journal_name r.prefix; bytes = bytes } ∷ [])))
  packets_at None (Some text) within =
      let n : length texts.outputs + 1 + 0 ≡ length outputs + 1 = omega (arith, count) in
      (refl, ap (λ (i : ℕ). (get_or (all_files None (Some text)) i nameless).name) n ∙ name_after outputs report _ [])
  packets_at (Some bytes) (Some text) within =
      let n : length texts.outputs + 1 + 1 ≡ length outputs + 2 = omega (arith, count) in
      (refl, ap (λ (i : ℕ). (get_or (all_files (Some bytes) (Some text)) i nameless).name) n ∙ name_later outputs report _ _ [])

-- what was made was wanted
was_wanted : (is_wanted : Bool) (text : List ℕ) (made : Option (List ℕ)) → made ≡ (if is_wanted then Some text else None) → is_some made ≡ true
    → is_wanted ≡ true
was_wanted true text made is there = refl
was_wanted false text made is there = absurd (cc)

-- nothing stops at a file of a name of which no call was refused
goes_on : (c : Command) (f : NamedBytes) (name : List ℕ) (before after : Option Contents) → f.name ≡ name → IsWritable c name
    → StopsAt f c.was c.now before after → ⊥
goes_on c f name before after same free stops =
    let here = subst (IsWritable c) (sym same) free in
    elim stops [ AtBegin rose was ↦ here.begins rose | AtWrite n rose part ↦ here.writes rose ]

no_write_fault : (c : Command) (job : JobWords) (contents : Contents) (seen : Option Contents) (written : Written) → RunsSwitch job → AreWritable c job
    → IsWriteFault job (Some contents) c.was c.now seen written → ⊥
no_write_fault c (run r) contents seen (Output port) runs free f =
    let port_in : port < length r.inputs = omega (arith, f.stops.0, f.made.count, f.made.inputs.captures_read.count) in
    goes_on c _ (output_name r.prefix port) _ seen (name_of_output r f.texts port f.stops.0) (free.outputs r port refl port_in) f.stops.1.stops
no_write_fault c (run r) contents seen Report runs free f =
    goes_on c _ (report_name r.prefix) _ seen (name_of_report r f.texts) (free.report r refl) f.stops.stops
no_write_fault c (run r) contents seen Journal runs free f =
    let is = f.made.outcome in
    let wanted = was_wanted r.journal (journal_text_under (decision_named r.scheduler) is.plan is.slots) f.texts.journal
    (ap (λ (t : Texts). t.journal) is.are) f.stops.0 in
    goes_on c _ (journal_name r.prefix) _ seen (journal_at r f.texts f.texts.journal f.texts.packets f.stops.0) (free.journal r refl wanted) f.stops.1.stops
no_write_fault c (run r) contents seen Packets runs free f =
    let is = f.made.outcome in
    let at = packets_at r f.texts f.texts.journal f.texts.packets f.stops.within in
    let wanted = was_wanted r.packets (packets_text_under (decision_named r.scheduler) is.plan is.slots) f.texts.packets
    (ap (λ (t : Texts). t.packets) is.are) at.0 in
    goes_on c _ (packets_name r.prefix) _ seen at.1 (free.packets r refl wanted) f.stops.stops
no_write_fault c (gen g) contents seen (Output port) runs free f = omega (arith, f.stops.1.within)
no_write_fault c (gen g) contents seen Report runs free f = omega (arith, f.stops.within)
no_write_fault c (gen g) contents seen Journal runs free f = omega (arith, f.stops.1.within)
no_write_fault c (gen g) contents seen Packets runs free f = omega (arith, f.stops.within)
no_write_fault c (check w) contents seen written runs free f = runs
no_write_fault c (firm w) contents seen (Output port) runs free f = omega (arith, f.stops.1.within)
no_write_fault c (firm w) contents seen Report runs free f = omega (arith, f.stops.within)
no_write_fault c (firm w) contents seen Journal runs free f = omega (arith, f.stops.1.within)
no_write_fault c (firm w) contents seen Packets runs free f = omega (arith, f.stops.within)
no_write_fault c job contents seen StandardOutput runs free f = free.out f.stops.rose

check_runs_none : (job : JobWords) (words : CheckWords) → job ≡ check words → RunsSwitch job → ⊥
check_runs_none job words is runs = subst RunsSwitch is runs

pub complete : (c : Command) (status : ℕ) (ending : Ending) → Answers c status ending → IsComplete c status
complete c status Done a job contents runs read written fit taken short small = inl a.0
complete c status Usage a job contents runs read written fit taken short small = absurd (no_job c job read.words a.1.0)
complete c status (ReadFault input) a job contents runs read written fit taken short small = absurd (no_read_fault c job contents input read a.1)
complete c status (TooLong input) a job contents runs read written fit taken short small =
    let stops = stops_here c job contents (TooLong input) read.words read.seen a.1 in
    absurd (fit stops.0.words input stops.0.reads stops.0.known stops.0.longer)
complete c status (Refused fault) a job contents runs read written fit taken short small =
    let stops = stops_here c job contents (Refused fault) read.words read.seen a.1 in
    absurd (taken stops.0.table stops.0.captures fault stops.0.inputs stops.0.outcome)
complete c status (JournalTooLong size) a job contents runs read written fit taken short small =
    let stops = stops_here c job contents (JournalTooLong size) read.words read.seen a.1 in
    absurd (short stops.0.words stops.0.table stops.0.captures size stops.0.is_run stops.0.wanted stops.0.inputs stops.0.longer)
complete c status (PacketsTooLong size) a job contents runs read written fit taken short small =
    let stops = stops_here c job contents (PacketsTooLong size) read.words read.seen a.1 in
    absurd (small stops.0.words stops.0.table stops.0.captures size stops.0.is_run stops.0.wanted stops.0.inputs stops.0.longer)
complete c status OutOfMemory a job contents runs read written fit taken short small = inr a.0
complete c status (WriteFault what) a job contents runs read written fit taken short small =
    let stops = stops_here c job contents (WriteFault what) read.words read.seen a.1 in
    absurd (no_write_fault c job contents a.1.seen what runs written stops)
complete c status (Checked e) a job contents runs read written fit taken short small =
    let stops = stops_here c job contents (Checked e) read.words read.seen a.1 in
    absurd (check_runs_none job stops.words stops.is_check runs)
