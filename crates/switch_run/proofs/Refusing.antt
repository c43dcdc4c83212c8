-- When the answers come that refuse a job: for its inputs, its journal and its packets file.
use Rattle.std.proofs.Common.{◌≡◌, ℕ, true, List, Some, inl, inr, sym, ◌∙◌, ap, subst}
use Rattle.job_files.proofs.Holding.{same_run}
use Rattle.outside.specs.Contents.{Contents}
use Rattle.switch_words.specs.Reading.{JobWords, run, check, RunWords, CheckWords}
use Rattle.named_schedulers.specs.Named.{decision_named}
use Rattle.switch_plan.specs.declared.fault.PlanFault.{PlanFault}
use Rattle.switch_plan.specs.Refusals.{IsRefusal}
use Rattle.switch_run.specs.Causes.{Answers, AnswersUnlessOut, IsReadable, JournalTooLongIsExact, PacketsTooLongIsExact, RefusalIsExact}
use Rattle.switch_run.specs.Endings.{Command, IsJournalTooLong, IsMade, IsPacketsTooLong, IsRefused}
use Rattle.job_files.specs.Inputs.{AreInputs}
use Rattle.job_files.specs.Jobs.{terms_in}
use Rattle.job_files.specs.OutputFiles.{Texts}
use Rattle.switch_run.specs.Switched.{IsLongJournal, IsLongPackets, JournalFits, wanted_by}
use Rattle.job_files.specs.declared.ending.Ending.{Ending}
use Rattle.job_files.specs.declared.ending.Ending.TheVariants.{Done, Usage, ReadFault, TooLong, Refused, JournalTooLong, PacketsTooLong, OutOfMemory}
use Rattle.job_files.specs.declared.ending.Ending.TheVariants.{WriteFault, Checked}
use Rattle.switch_plan.proofs.Refused.{refusal_once}
use Rattle.switch_run.proofs.OneOutcome.{not_long, not_long_packets, not_made}
use Rattle.switch_run.proofs.OnePlan.{long_not_made, long_once, long_packets_not_made, long_packets_once}
use Rattle.switch_run.proofs.Answering.{AreMadeOf, long_of_inputs, made_of, no_inputs, no_job, no_read_fault, same_inputs, stops_here}

-- texts that were made, and the inputs that they were made of
texts_of : (job : JobWords) (c : Contents) (texts : Texts) → IsMade job (Some c) texts → AreMadeOf job c texts
texts_of job c texts made = record { table = made.table; captures = made.captures; inputs = made.inputs; outcome = made.outcome }

-- what is said of a table and captures is said of the same ones
elsewhere : (P : List ℕ → List (List ℕ) → Type 0) (t u : List ℕ) (xs ys : List (List ℕ)) → (t ≡ u) × (xs ≡ ys) → P t xs → P u ys
elsewhere P t u xs ys same here = subst (λ (bytes : List ℕ). P bytes ys) same.0 (subst (λ (files : List (List ℕ)). P t files) same.1 here)

-- whatever was read of the inputs of a job that is refused is refused
refused_at : (job : JobWords) (c : Contents) (fault : PlanFault) → IsRefused job (Some c) fault → (table : List ℕ) (captures : List (List ℕ))
    → AreInputs job (Some c) table captures → IsRefusal (terms_in job) table captures fault
refused_at job c fault refused table captures inputs =
    elsewhere (λ t xs. IsRefusal (terms_in job) t xs fault) refused.table table refused.captures captures
    (same_inputs job c refused.table table refused.captures captures refused.inputs inputs) refused.outcome

-- what is refused makes no texts
nothing_made : (job : JobWords) (c : Contents) (fault : PlanFault) (texts : Texts) → IsRefused job (Some c) fault → AreMadeOf job c texts → ⊥
nothing_made job c fault texts refused made =
    not_made job made.table made.captures fault texts (refused_at job c fault refused made.table made.captures made.inputs) made.outcome

-- what is refused is refused for one cause
same_cause : (job : JobWords) (c : Contents) (fault found : PlanFault) → IsRefused job (Some c) fault → IsRefused job (Some c) found → found ≡ fault
same_cause job c fault found refused other =
    refusal_once (terms_in job) other.table other.captures found fault other.outcome (refused_at job c fault refused other.table other.captures other.inputs)

-- the journal of a run of these words is too long
record IsLongIn (r : RunWords) (contents : Contents) (size : ℕ) : Type 0 where
  pub table : List ℕ
  pub captures : List (List ℕ)
  pub inputs : AreInputs (run r) (Some contents) table captures
  pub longer : IsLongJournal (decision_named r.scheduler) r.settings table captures size

long_in : (job : JobWords) (contents : Contents) (size : ℕ) → (j : IsJournalTooLong job (Some contents) size) → IsLongIn j.words contents size
long_in job contents size j =
    record {
      table = j.table;
      captures = j.captures;
      inputs = subst (λ (n : JobWords). AreInputs n (Some contents) j.table j.captures) j.is_run j.inputs;
      longer = j.longer;
    }

long_of_run : (r : RunWords) (contents : Contents) (size : ℕ) → IsJournalTooLong (run r) (Some contents) size → IsLongIn r contents size
long_of_run r contents size j = subst (λ (s : RunWords). IsLongIn s contents size) (same_run r j.words j.is_run) (long_in (run r) contents size j)

-- and it was wanted
wanted_long : (r : RunWords) (contents : Contents) (size : ℕ) → IsJournalTooLong (run r) (Some contents) size → IsLongIn r contents size × (r.journal ≡ true)
wanted_long r contents size j = (long_of_run r contents size j, ap (λ (w : RunWords). w.journal) (sym (same_run r j.words j.is_run)) ∙ j.wanted)

-- what is refused has no journal that is too long
refused_is_not_long : (r : RunWords) (c : Contents) (fault : PlanFault) (size : ℕ) → IsRefused (run r) (Some c) fault → IsLongIn r c size → ⊥
refused_is_not_long r c fault size refused long =
    not_long (decision_named r.scheduler) r.settings long.table long.captures fault size
    (refused_at (run r) c fault refused long.table long.captures long.inputs) long.longer

refused_or_long : (job : JobWords) (c : Contents) (fault : PlanFault) (size : ℕ) → IsRefused job (Some c) fault → IsJournalTooLong job (Some c) size → ⊥
refused_or_long job c fault size refused j =
    refused_is_not_long j.words c fault size (subst (λ (n : JobWords). IsRefused n (Some c) fault) j.is_run refused) (long_in job c size j)

-- so is its packets file, and its journal is not
record IsLongPacketsIn (r : RunWords) (contents : Contents) (size : ℕ) : Type 0 where
  pub table : List ℕ
  pub captures : List (List ℕ)
  pub inputs : AreInputs (run r) (Some contents) table captures
  pub longer : IsLongPackets (decision_named r.scheduler) r.settings table captures size
  pub journal_fits : JournalFits r table captures

packets_in : (job : JobWords) (contents : Contents) (size : ℕ) → (p : IsPacketsTooLong job (Some contents) size) → IsLongPacketsIn p.words contents size
packets_in job contents size p = record {
  table = p.table;
  captures = p.captures;
  inputs = subst (λ (n : JobWords). AreInputs n (Some contents) p.table p.captures) p.is_run p.inputs;
  longer = p.longer;
  journal_fits = p.journal_fits;
}

packets_of_run : (r : RunWords) (contents : Contents) (size : ℕ) → IsPacketsTooLong (run r) (Some contents) size → IsLongPacketsIn r contents size
packets_of_run r contents size p =
    subst (λ (s : RunWords). IsLongPacketsIn s contents size) (same_run r p.words p.is_run) (packets_in (run r) contents size p)

-- what is too long of the inputs is too long of whatever was read of them
packets_at : (r : RunWords) (c : Contents) (size : ℕ) → IsLongPacketsIn r c size → (table : List ℕ) (captures : List (List ℕ))
    → AreInputs (run r) (Some c) table captures → IsLongPackets (decision_named r.scheduler) r.settings table captures size
packets_at r c size long table captures inputs =
    elsewhere (λ t xs. IsLongPackets (decision_named r.scheduler) r.settings t xs size) long.table table long.captures captures
    (same_inputs (run r) c long.table table long.captures captures long.inputs inputs) long.longer

long_at : (r : RunWords) (c : Contents) (size : ℕ) → IsLongIn r c size → (table : List ℕ) (captures : List (List ℕ))
    → AreInputs (run r) (Some c) table captures → IsLongJournal (decision_named r.scheduler) r.settings table captures size
long_at r c size long table captures inputs =
    elsewhere (λ t xs. IsLongJournal (decision_named r.scheduler) r.settings t xs size) long.table table long.captures captures
    (same_inputs (run r) c long.table table long.captures captures long.inputs inputs) long.longer

-- what is refused has no packets file that is too long
refused_is_not_long_packets : (r : RunWords) (c : Contents) (fault : PlanFault) (size : ℕ) → IsRefused (run r) (Some c) fault → IsLongPacketsIn r c size → ⊥
refused_is_not_long_packets r c fault size refused long =
    not_long_packets (decision_named r.scheduler) r.settings long.table long.captures fault size
    (refused_at (run r) c fault refused long.table long.captures long.inputs) long.longer

refused_or_long_packets : (job : JobWords) (c : Contents) (fault : PlanFault) (size : ℕ) → IsRefused job (Some c) fault
    → IsPacketsTooLong job (Some c) size → ⊥
refused_or_long_packets job c fault size refused p =
    refused_is_not_long_packets p.words c fault size (subst (λ (n : JobWords). IsRefused n (Some c) fault) p.is_run refused) (packets_in job c size p)

module _ (c : Command) (status : ℕ) (job : JobWords) (contents : Contents) (fault : PlanFault) (read : IsReadable c job contents)
    (refused : IsRefused job (Some contents) fault) where
  refused_answer : (ending : Ending) → Answers c status ending → AnswersUnlessOut c status (Refused fault)
  refused_answer Done a =
      absurd (nothing_made job contents fault a.1.2.texts refused (made_of c job a.1.0 contents a.1.2.texts read a.1.1 a.1.2.made))
  refused_answer Usage a = absurd (no_job c job read.words a.1.0)
  refused_answer (ReadFault input) a = absurd (no_read_fault c job contents input read a.1)
  refused_answer (TooLong input) a =
      let stops = stops_here c job contents (TooLong input) read.words read.seen a.1 in
      absurd (long_of_inputs job contents refused.table refused.captures input refused.inputs stops.0)
  refused_answer (Refused found) a =
      let stops = stops_here c job contents (Refused found) read.words read.seen a.1 in
      inl (subst (λ (f : PlanFault). Answers c status (Refused f)) (same_cause job contents fault found refused stops.0) a)
  refused_answer (JournalTooLong size) a =
      let stops = stops_here c job contents (JournalTooLong size) read.words read.seen a.1 in
      absurd (refused_or_long job contents fault size refused stops.0)
  refused_answer (PacketsTooLong size) a =
      let stops = stops_here c job contents (PacketsTooLong size) read.words read.seen a.1 in
      absurd (refused_or_long_packets job contents fault size refused stops.0)
  refused_answer OutOfMemory a = inr a
  refused_answer (WriteFault written) a =
      let stops = stops_here c job contents (WriteFault written) read.words read.seen a.1 in
      absurd (nothing_made job contents fault stops.texts refused (texts_of job contents stops.texts stops.made))
  refused_answer (Checked e) a =
      let stops = stops_here c job contents (Checked e) read.words read.seen a.1 in
      absurd (no_inputs job stops.words (Some contents) refused.table refused.captures stops.is_check refused.inputs)

pub refusal_exact : (c : Command) (status : ℕ) (ending : Ending) → Answers c status ending → RefusalIsExact c status
refusal_exact c status ending a job contents table captures fault read inputs refused =
    refused_answer c status job contents fault read (record { table = table; captures = captures; inputs = inputs; outcome = refused }) ending a

-- a journal that is wanted and too long was not made
long_is_not_made : (r : RunWords) (c : Contents) (texts : Texts) (size : ℕ) → r.journal ≡ true → AreMadeOf (run r) c texts → IsLongIn r c size → ⊥
long_is_not_made r c texts size wanted made long =
    long_not_made (decision_named r.scheduler) r.settings made.table made.captures (wanted_by r) texts size wanted made.outcome
    (long_at r c size long made.table made.captures made.inputs)

-- and has one size
same_size : (r : RunWords) (c : Contents) (a b : ℕ) → IsLongIn r c a → IsLongIn r c b → a ≡ b
same_size r c a b long other =
    long_once (decision_named r.scheduler) r.settings other.table other.captures a b (long_at r c a long other.table other.captures other.inputs) other.longer

run_is_no_check : (r : RunWords) (words : CheckWords) → run r ≡ check words → ⊥
run_is_no_check r words same = absurd (cc)

module _ (c : Command) (status : ℕ) (r : RunWords) (contents : Contents) (size : ℕ) (read : IsReadable c (run r) contents) (wanted : r.journal ≡ true)
    (long : IsLongIn r contents size) where
  long_answer : (ending : Ending) → Answers c status ending → AnswersUnlessOut c status (JournalTooLong size)
  long_answer Done a =
      absurd (long_is_not_made r contents a.1.2.texts size wanted (made_of c (run r) a.1.0 contents a.1.2.texts read a.1.1 a.1.2.made) long)
  long_answer Usage a = absurd (no_job c (run r) read.words a.1.0)
  long_answer (ReadFault input) a = absurd (no_read_fault c (run r) contents input read a.1)
  long_answer (TooLong input) a =
      let stops = stops_here c (run r) contents (TooLong input) read.words read.seen a.1 in
      absurd (long_of_inputs (run r) contents long.table long.captures input long.inputs stops.0)
  long_answer (Refused fault) a =
      let stops = stops_here c (run r) contents (Refused fault) read.words read.seen a.1 in
      absurd (refused_is_not_long r contents fault size stops.0 long)
  long_answer (JournalTooLong found) a =
      let stops = stops_here c (run r) contents (JournalTooLong found) read.words read.seen a.1 in
      let same = same_size r contents found size (long_of_run r contents found stops.0) long in
      inl (subst (λ (n : ℕ). Answers c status (JournalTooLong n)) same a)
  long_answer (PacketsTooLong found) a =
      let stops = stops_here c (run r) contents (PacketsTooLong found) read.words read.seen a.1 in
      let here = packets_of_run r contents found stops.0 in
      absurd (here.journal_fits size wanted (long_at r contents size long here.table here.captures here.inputs))
  long_answer OutOfMemory a = inr a
  long_answer (WriteFault written) a =
      let stops = stops_here c (run r) contents (WriteFault written) read.words read.seen a.1 in
      absurd (long_is_not_made r contents stops.texts size wanted (texts_of (run r) contents stops.texts stops.made) long)
  long_answer (Checked e) a =
      let stops = stops_here c (run r) contents (Checked e) read.words read.seen a.1 in
      absurd (run_is_no_check r stops.words stops.is_check)

pub journal_exact : (c : Command) (status : ℕ) (ending : Ending) → Answers c status ending → JournalTooLongIsExact c status
journal_exact c status ending a r contents table captures size read wanted inputs long =
    long_answer c status r contents size read wanted (record { table = table; captures = captures; inputs = inputs; longer = long }) ending a

-- a packets file that is wanted and too long was not made
packets_not_made : (r : RunWords) (c : Contents) (texts : Texts) (size : ℕ) → r.packets ≡ true → AreMadeOf (run r) c texts → IsLongPacketsIn r c size → ⊥
packets_not_made r c texts size wanted made long =
    long_packets_not_made (decision_named r.scheduler) r.settings made.table made.captures (wanted_by r) texts size wanted made.outcome
    (packets_at r c size long made.table made.captures made.inputs)

module _ (c : Command) (status : ℕ) (r : RunWords) (contents : Contents) (size : ℕ) (read : IsReadable c (run r) contents) (wanted : r.packets ≡ true)
    (long : IsLongPacketsIn r contents size) where
  packets_answer : (ending : Ending) → Answers c status ending → AnswersUnlessOut c status (PacketsTooLong size)
  packets_answer Done a =
      absurd (packets_not_made r contents a.1.2.texts size wanted (made_of c (run r) a.1.0 contents a.1.2.texts read a.1.1 a.1.2.made) long)
  packets_answer Usage a = absurd (no_job c (run r) read.words a.1.0)
  packets_answer (ReadFault input) a = absurd (no_read_fault c (run r) contents input read a.1)
  packets_answer (TooLong input) a =
      let stops = stops_here c (run r) contents (TooLong input) read.words read.seen a.1 in
      absurd (long_of_inputs (run r) contents long.table long.captures input long.inputs stops.0)
  packets_answer (Refused fault) a =
      let stops = stops_here c (run r) contents (Refused fault) read.words read.seen a.1 in
      absurd (refused_is_not_long_packets r contents fault size stops.0 long)
  packets_answer (JournalTooLong found) a =
      let stops = stops_here c (run r) contents (JournalTooLong found) read.words read.seen a.1 in
      let here = wanted_long r contents found stops.0 in
      absurd (long.journal_fits found here.1 (long_at r contents found here.0 long.table long.captures long.inputs))
  packets_answer (PacketsTooLong found) a =
      let stops = stops_here c (run r) contents (PacketsTooLong found) read.words read.seen a.1 in
      let there = packets_at r contents found (packets_of_run r contents found stops.0) long.table long.captures long.inputs in
      inl (subst (λ (n : ℕ). Answers c status (PacketsTooLong n))
      (long_packets_once (decision_named r.scheduler) r.settings long.table long.captures found size there long.longer) a)
  packets_answer OutOfMemory a = inr a
  packets_answer (WriteFault written) a =
      let stops = stops_here c (run r) contents (WriteFault written) read.words read.seen a.1 in
      absurd (packets_not_made r contents stops.texts size wanted (texts_of (run r) contents stops.texts stops.made) long)
  packets_answer (Checked e) a =
      let stops = stops_here c (run r) contents (Checked e) read.words read.seen a.1 in
      absurd (run_is_no_check r stops.words stops.is_check)

pub packets_exact : (c : Command) (status : ℕ) (ending : Ending) → Answers c status ending → PacketsTooLongIsExact c status
packets_exact c status ending a r contents table captures size read wanted inputs fits long =
    packets_answer c status r contents size read wanted
    (record { table = table; captures = captures; inputs = inputs; longer = long; journal_fits = fits }) ending a
