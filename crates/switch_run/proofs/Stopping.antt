-- Why a job stops, said of a longer span of calls.
use Rattle.std.proofs.Common.{◌≡◌, ◌<◌, ◌≤◌, ◌+◌, ℕ, Bool, true, false, List, [], ◌∷◌, ◌++◌, length, Option, Some, None, inl, inr, refl, sym, ◌∙◌, ap, subst}
use Rattle.std.proofs.Common.{arith, length-append}
use Rattle.std.specs.Prelude.{is_some, if◌then◌else◌, option_map}
use Rattle.outside.specs.Contents.{Contents, append_err, append_out}
use Rattle.outside.specs.Faults.{Place, ReadOf, ToOut, ToErr, NeverFall}
use Rattle.outside.proofs.Counting.{CallsAmong, Rose-wider, first_calls, le-Rose}
use Rattle.outside.proofs.Effects.{err_none}
use Rattle.outside.proofs.Putting.{StopsAt-wider}
use Rattle.named_schedulers.specs.Named.{decision_named}
use Rattle.switch_words.specs.Reading.{JobWords, run, gen, check, firm, RunWords}
use Rattle.job_files.specs.Jobs.{ReadWords, reads_of, terms_in, input_name}
use Rattle.job_files.specs.OutputFiles.{Texts, files_from, files_of, journal_files, packets_files, packets_place, put_files, put_texts, report_name, run_files}
use Rattle.job_files.specs.Inputs.{AreInputs}
use Rattle.job_files.specs.LineParts.{GivesLine}
use Rattle.job_files.specs.ErrorLines.{line_of}
use Rattle.job_files.specs.RefusalLines.{memory_line}
use Rattle.switch_run.specs.Endings.{Command, IsDone, IsMade, IsStopped, Means, Stops, StopsAtFile, StopsWriting}
use Rattle.switch_run.specs.MakingSteps.{AreMade, AreToWrite, IsEndOf, StopsPlan, StopsTexts, ToWrite}
use Rattle.switch_run.specs.Switched.{wanted_by}
use Rattle.job_files.specs.FileSteps.{StopsPutting, StopsReading, files_before}
use Rattle.job_files.specs.declared.ending.Written.{Written}
use Rattle.job_files.specs.declared.ending.Written.TheVariants.{Output, Report, Journal, Packets, StandardOutput}
use Rattle.job_files.specs.declared.ending.Ending.{Ending}
use Rattle.job_files.specs.declared.ending.Ending.TheVariants.{Done, Usage, ReadFault, TooLong, Refused, JournalTooLong, PacketsTooLong, OutOfMemory}
use Rattle.job_files.specs.declared.ending.Ending.TheVariants.{WriteFault, Checked}
use Rattle.job_files.proofs.Holding.{holds_seen, length-files_from}
use Rattle.job_files.proofs.Later.{check_wider}

module _ (job : JobWords) (texts : Texts) (was now : Place → ℕ) (some : CallsAmong was now) (old seen : Option Contents) where
  StopsAtFile-wider : (place : ℕ) → StopsAtFile job texts place old some.from some.to seen → StopsAtFile job texts place old was now seen
  StopsAtFile-wider place s = record { within = s.within; stops = StopsAt-wider _ was now some _ seen s.stops }

  pub StopsWriting-wider : (written : Written) → StopsWriting job texts written old some.from some.to seen → StopsWriting job texts written old was now seen
  StopsWriting-wider (Output port) s = (s.0, StopsAtFile-wider port s.1)
  StopsWriting-wider Report s = StopsAtFile-wider (length texts.outputs) s
  StopsWriting-wider Journal s = (s.0, StopsAtFile-wider (length texts.outputs + 1) s.1)
  StopsWriting-wider Packets s = StopsAtFile-wider (packets_place (length texts.outputs) (is_some texts.journal)) s
  StopsWriting-wider StandardOutput s = record { rose = Rose-wider was now some ToOut s.rose; given = s.given; new_is = s.new_is }

-- why a job stopped in some of the calls is why it stopped in all of them
Stops-wider : (job : JobWords) (old : Option Contents) (was now : Place → ℕ) (some : CallsAmong was now) (seen : Option Contents) (ending : Ending)
    → Stops job old some.from some.to seen ending → Stops job old was now seen ending
Stops-wider job old was now some seen Done stops = stops
Stops-wider job old was now some seen Usage stops = stops
Stops-wider job old was now some seen (ReadFault input) stops = (
  record {
    words = stops.0.words;
    reads = stops.0.reads;
    known = stops.0.known;
    earlier = stops.0.earlier;
    rose = Rose-wider was now some (ReadOf (input_name stops.0.words input)) stops.0.rose;
  },
  stops.1,
)
Stops-wider job old was now some seen (TooLong input) stops = stops
Stops-wider job old was now some seen (Refused fault) stops = stops
Stops-wider job old was now some seen (JournalTooLong size) stops = stops
Stops-wider job old was now some seen (PacketsTooLong size) stops = stops
Stops-wider job old was now some seen OutOfMemory stops = stops
Stops-wider job old was now some seen (WriteFault written) stops =
    record { texts = stops.texts; made = stops.made; stops = StopsWriting-wider job stops.texts was now some old seen written stops.stops }
Stops-wider job old was now some seen (Checked ending) stops =
    record {
      words = stops.words;
      is_check = stops.is_check;
      means = check_wider (decision_named stops.words.scheduler) stops.words.file old seen was now some ending stops.means;
    }

-- a job whose files were not read
pub reading_stops : (job : JobWords) (r : ReadWords) (old : Option Contents) (was now : Place → ℕ) (ending : Ending) → reads_of job ≡ Some r
    → StopsReading r old was now ending → Stops job old was now old ending
reading_stops job r old was now Done reads stops = stops
reading_stops job r old was now Usage reads stops = absurd stops
reading_stops job r old was now (ReadFault input) reads stops =
    (record { words = r; reads = reads; known = stops.0; earlier = stops.1; rose = stops.2 }, refl)
reading_stops job r old was now (TooLong input) reads stops =
    (record { words = r; reads = reads; known = stops.0; earlier = stops.1; longer = stops.2 }, refl)
reading_stops job r old was now (Refused fault) reads stops = absurd stops
reading_stops job r old was now (JournalTooLong size) reads stops = absurd stops
reading_stops job r old was now (PacketsTooLong size) reads stops = absurd stops
reading_stops job r old was now OutOfMemory reads stops = refl
reading_stops job r old was now (WriteFault written) reads stops = absurd stops
reading_stops job r old was now (Checked ending) reads stops = absurd stops

-- ---- plans and texts

-- the inputs were refused, or memory ran out
pub plan_stops : (job : JobWords) (old : Option Contents) (was now : Place → ℕ) (table : List ℕ) (captures : List (List ℕ)) (ending : Ending)
    → AreInputs job old table captures → StopsPlan (terms_in job) table captures ending → Stops job old was now old ending
plan_stops job old was now table captures Done inputs stops = stops
plan_stops job old was now table captures Usage inputs stops = stops
plan_stops job old was now table captures (ReadFault input) inputs stops = absurd stops
plan_stops job old was now table captures (TooLong input) inputs stops = absurd stops
plan_stops job old was now table captures (Refused fault) inputs stops =
    (record { table = table; captures = captures; inputs = inputs; outcome = stops }, refl)
plan_stops job old was now table captures (JournalTooLong size) inputs stops = absurd stops
plan_stops job old was now table captures (PacketsTooLong size) inputs stops = absurd stops
plan_stops job old was now table captures OutOfMemory inputs stops = refl
plan_stops job old was now table captures (WriteFault written) inputs stops = absurd stops
plan_stops job old was now table captures (Checked ending) inputs stops = absurd stops

-- the texts of a `run` job were not made
pub texts_stop : (r : RunWords) (old : Option Contents) (was now : Place → ℕ) (table : List ℕ) (captures : List (List ℕ)) (ending : Ending)
    → AreInputs (run r) old table captures
    → StopsTexts (decision_named r.scheduler) r.settings (wanted_by r) table captures ending → Stops (run r) old was now old ending
texts_stop r old was now table captures Done inputs stops = stops
texts_stop r old was now table captures Usage inputs stops = stops
texts_stop r old was now table captures (ReadFault input) inputs stops = absurd stops
texts_stop r old was now table captures (TooLong input) inputs stops = absurd stops
texts_stop r old was now table captures (Refused fault) inputs stops = plan_stops (run r) old was now table captures (Refused fault) inputs stops
texts_stop r old was now table captures (JournalTooLong size) inputs stops =
    (record { words = r; is_run = refl; wanted = stops.0; table = table; captures = captures; inputs = inputs; longer = stops.1 }, refl)
texts_stop r old was now table captures (PacketsTooLong size) inputs stops =
    (record { words = r; is_run = refl; wanted = stops.0; table = table; captures = captures; inputs = inputs; longer = stops.1; journal_fits = stops.2 }, refl)
texts_stop r old was now table captures OutOfMemory inputs stops = refl
texts_stop r old was now table captures (WriteFault written) inputs stops = absurd stops
texts_stop r old was now table captures (Checked ending) inputs stops = absurd stops

-- What a command makes of its job and of its texts

module _ (job : JobWords) (old : Option Contents) (written : ToWrite) (w : AreToWrite job old written) where
  abbrev m : AreMade job w.table w.captures written
  m = w.made

  few_outputs : length m.texts.outputs ≤ 64
  few_outputs = let few : length w.captures ≤ 64 = w.few in omega (arith, m.count, few)

  -- the texts that were made of the inputs
  pub texts_made : IsMade job old m.texts
  texts_made = record { table = w.table; captures = w.captures; inputs = w.inputs; outcome = m.outcome; count = m.count }

  -- all was written
  pub done : (mid new : Option Contents) → mid ≡ old → new ≡ option_map (λ c. append_out written.summary (put_files written.files c)) mid → IsDone job old new
  done mid new same put =
      let all : new ≡ option_map (put_texts job m.texts) old =
      put ∙ ap (λ text. option_map (λ c. append_out text (put_files written.files c)) mid) m.summary_is
      ∙ ap (λ fs. option_map (λ c. append_out m.texts.summary (put_files fs c)) mid) m.files_are
      ∙ ap (option_map (put_texts job m.texts)) same in
      let few = few_outputs in
      record { texts = m.texts; made = texts_made; written = all; holds = holds_seen job m.texts old new (omega (arith, few)) all }

length-journal_files : (prefix : List ℕ) (journal : Option (List ℕ)) → length (journal_files prefix journal) ≡ (if is_some journal then 1 else 0)
length-journal_files prefix None = refl
length-journal_files prefix (Some bytes) = refl

length-packets_files : (prefix : List ℕ) (packets : Option (List ℕ)) → length (packets_files prefix packets) ≤ 1
length-packets_files prefix None = omega arith
length-packets_files prefix (Some bytes) = omega arith

place-le : (outputs : ℕ) (with_journal : Bool) → packets_place outputs with_journal ≤ outputs + 2
place-le outputs true = omega arith
place-le outputs false = omega arith

-- how many files come before the packets file
pub length-files_before : (prefix : List ℕ) (outputs : List (List ℕ)) (report : List ℕ) (journal : Option (List ℕ))
    → length (files_before prefix outputs report journal) ≡ packets_place (length outputs) (is_some journal)
length-files_before prefix outputs report journal =
    let after = record { name = report_name prefix; bytes = report } ∷ journal_files prefix journal in
    let n = length-files_from prefix 0 outputs in
    let k = length-journal_files prefix journal in
    omega (arith, n, k, length-append (files_from prefix 0 outputs) after)

-- no file stands after the packets file
length-run_files : (prefix : List ℕ) (texts : Texts) → length (run_files prefix texts) ≤ packets_place (length texts.outputs) (is_some texts.journal) + 1
length-run_files prefix texts =
    let journal = journal_files prefix texts.journal in
    let packets = packets_files prefix texts.packets in
    let n = length-files_from prefix 0 texts.outputs in
    let k = length-journal_files prefix texts.journal in
    let m = length-packets_files prefix texts.packets in
    omega (
      arith,
      n,
      k,
      m,
      length-append journal packets,
      length-append (files_from prefix 0 texts.outputs) (record { name = report_name prefix; bytes = texts.report } ∷ (journal ++ packets)),
    )

-- a job writes no more than a file for each capture, the report, the journal and the packets file
length-files_of : (job : JobWords) (texts : Texts) → length (files_of job texts) ≤ length texts.outputs + 3
length-files_of (run r) texts = omega (arith, length-run_files r.prefix texts, place-le (length texts.outputs) (is_some texts.journal))
length-files_of (gen g) texts = omega arith
length-files_of (check c) texts = omega arith
length-files_of (firm f) texts = omega arith

pub few_files : (job : JobWords) (old : Option Contents) (written : ToWrite) → AreToWrite job old written → length written.files ≤ 67
few_files job old written w =
    let n = length-files_of job w.made.texts in
    let k = few_outputs job old written w in
    omega (arith, n, k, ap length w.made.files_are)

-- a job that has no files stopped after them
stops_without_files : (job : JobWords) (written : ToWrite) (texts : Texts) (what : Written) (old seen : Option Contents) (was now : Place → ℕ)
    → StopsPutting written.outputs written.before [] texts.summary what old was now seen → files_of job texts ≡ []
    → StopsWriting job texts what old was now seen
stops_without_files job written texts (Output port) old seen was now s none = absurd (omega (arith, s.1.within))
stops_without_files job written texts Report old seen was now s none = absurd (omega (arith, s.within))
stops_without_files job written texts Journal old seen was now s none = absurd (omega (arith, s.3.within))
stops_without_files job written texts Packets old seen was now s none = absurd (omega (arith, s.within))
stops_without_files job written texts StandardOutput old seen was now s none =
    record { rose = s.rose; given = s.given; new_is = rw none s.new_is }

-- the file after the report and before the packets file is the journal's
journal_place : (outputs place : ℕ) (with_journal : Bool) → outputs < place → place < packets_place outputs with_journal
    → (with_journal ≡ true) × (place ≡ outputs + 1)
journal_place outputs place true after before = (refl, omega (arith, after, before))
journal_place outputs place false after before = absurd (omega (arith, after, before))

run_stops_writing : (r : RunWords) (texts : Texts) (what : Written) (old seen : Option Contents) (was now : Place → ℕ)
    → StopsPutting (length texts.outputs) (packets_place (length texts.outputs) (is_some texts.journal)) (run_files r.prefix texts) texts.summary what old
    was now seen → StopsWriting (run r) texts what old was now seen
run_stops_writing r texts (Output port) old seen was now s = (s.0, record { within = s.1.within; stops = s.1.stops })
run_stops_writing r texts Report old seen was now s = record { within = s.within; stops = s.stops }
run_stops_writing r texts Journal old seen was now (place, after, before, s) =
    let at = journal_place (length texts.outputs) place (is_some texts.journal) after before in
    (at.0, subst (λ (n : ℕ). StopsAtFile (run r) texts n old was now seen) at.1 (record { within = s.within; stops = s.stops }))
run_stops_writing r texts Packets old seen was now s = record { within = s.within; stops = s.stops }
run_stops_writing r texts StandardOutput old seen was now s = record { rose = s.rose; given = s.given; new_is = s.new_is }

-- a job that stopped at one of its files, or after them
pub stops_writing : (job : JobWords) (old : Option Contents) (written : ToWrite) (w : AreToWrite job old written) (what : Written) (new : Option Contents)
    (was now : Place → ℕ)
    → StopsPutting written.outputs written.before written.files written.summary what old was now new → StopsWriting job w.made.texts what old was now new
stops_writing (run r) old written w what new was now s =
    run_stops_writing r w.made.texts what old new was now
    (rw (w.made.outputs_are r refl, w.made.before r refl, w.made.files_are, w.made.summary_is) at s)
stops_writing (gen g) old written w what new was now s =
    stops_without_files (gen g) written w.made.texts what old new was now (rw (w.made.files_are, w.made.summary_is) at s) refl
stops_writing (check c) old written w what new was now s =
    stops_without_files (check c) written w.made.texts what old new was now (rw (w.made.files_are, w.made.summary_is) at s) refl
stops_writing (firm f) old written w what new was now s =
    stops_without_files (firm f) written w.made.texts what old new was now (rw (w.made.files_are, w.made.summary_is) at s) refl

-- a job that stopped, and whose line was printed
stopped : (c : Command) (ending : Ending) → IsStopped c ending → Means c ending
stopped c Done s = absurd s.stops
stopped c Usage s = absurd s.stops
stopped c (ReadFault input) s = s
stopped c (TooLong input) s = s
stopped c (Refused fault) s = s
stopped c (JournalTooLong size) s = s
stopped c (PacketsTooLong size) s = s
stopped c OutOfMemory s = subst (λ (o : Option Contents). GivesLine memory_line o c.new _ _) s.stops s.line
stopped c (WriteFault written) s = s
stopped c (Checked ending) s = s

-- a line that was given after calls that made no count fall
pub GivesLine-since : (text : List ℕ) (old new : Option Contents) (was mid now : ℕ) → was ≤ mid → GivesLine text old new mid now
    → GivesLine text old new was now
GivesLine-since text old new was mid now kept line = record {
  part = line.part;
  rest = line.rest;
  splits = line.splits;
  given = line.given;
  whole = elim line.whole [ inl all ↦ inl all | inr rose ↦ inr (le-Rose was mid now kept rose) ];
}

-- a first part of the empty text is empty
no_part : (part rest : List ℕ) → [] ≡ part ++ rest → part ≡ []
no_part [] rest splits = refl
no_part (x ∷ more) rest splits = absurd (cc)

-- where the line is empty, all is as before
nothing_given : (old new : Option Contents) (was now : ℕ) → GivesLine [] old new was now → new ≡ old
nothing_given old new was now line = line.given ∙ ap (λ part. option_map (append_err part) old) (no_part line.part line.rest line.splits) ∙ err_none old

-- a job that ended, and whose line was printed
pub ended : (c : Command) (job : JobWords) (seen : Option Contents) (mid : Place → ℕ) (ending : Ending) → c.job ≡ Some job
    → NeverFall mid c.now → IsEndOf job c.old c.was mid seen ending
    → GivesLine (line_of job ending) seen c.new (c.was ToErr) (c.now ToErr) → Means c ending
ended c job seen mid Done words kept is line =
    (job, words, subst (λ (o : Option Contents). IsDone job c.old o) (sym (nothing_given seen c.new (c.was ToErr) (c.now ToErr) line)) is)
ended c job seen mid ending words kept is line =
    stopped c ending
    (record { job = job; seen = seen; words = words; stops = Stops-wider job c.old c.was c.now (first_calls c.was mid c.now kept) seen ending is; line = line })
