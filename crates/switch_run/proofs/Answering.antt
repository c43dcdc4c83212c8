-- When each answer comes: what the meaning of an ending says against all others.
use Rattle.std.proofs.Common.{◌≡◌, ◌<◌, ◌≤◌, ℕ, List, [], ◌∷◌, map, take, length, get_or, Option, Some, None, inl, inr, refl, sym, ◌∙◌, ap, subst, arith}
use Rattle.std.specs.Prelude.{◌⊎◌, Bool, false, is_some}
use Rattle.std.proofs.lemmas.Bool.{cases_lt}
use Rattle.std.proofs.lemmas.List.{get_or-map, get_or-take, length-take-le}
use Rattle.std.proofs.lemmas.List.Elements.{All-get_or}
use Rattle.std.proofs.lemmas.Option.{same_Some, none-some}
use Rattle.outside.specs.Contents.{Contents}
use Rattle.outside.specs.WholeFiles.{Fits, IsLongerThan}
use Rattle.switch_words.specs.declared.job.Settings.{Settings}
use Rattle.switch_words.specs.Reading.{JobWords, run, gen, check, firm, CheckWords}
use Rattle.switch_plan.specs.GoodPlans.{SwitchPlan, IsGood}
use Rattle.run_laws.specs.Ends.{IsLengthUnder}
use Rattle.named_schedulers.specs.Named.{decision_named}
use Rattle.switch_run.specs.Causes.{Answers, AnswersUnlessOut, IsReadable, IsRunFor, TooLongIsExact, UsageIsExact, scheduler_in}
use Rattle.switch_run.specs.Endings.{Command, IsFirstTooLong, IsMade, IsStopped, Stops}
use Rattle.job_files.specs.Statuses.{check_status, status_of}
use Rattle.job_files.specs.Inputs.{AreFilesRead, AreInputs, CapturesRead, EarlierFit, IsTooLongFor}
use Rattle.job_files.specs.Jobs.{ReadWords, reads_of, IsInput, capture_bytes, input_name, most_bytes}
use Rattle.job_files.specs.OutputFiles.{Texts}
use Rattle.switch_run.specs.Switched.{AreTexts, IsPlanned}
use Rattle.job_files.specs.declared.check_ending.CheckEnding.{CheckEnding}
use Rattle.job_files.specs.declared.check_ending.CheckEnding.TheVariants as check_ending
use Rattle.job_files.specs.declared.ending.Ending.{Ending}
use Rattle.job_files.specs.declared.ending.Ending.TheVariants.{Done, Usage, ReadFault, TooLong, Refused, JournalTooLong, PacketsTooLong, OutOfMemory}
use Rattle.job_files.specs.declared.ending.Ending.TheVariants.{WriteFault, Checked}
use Rattle.job_files.specs.declared.inputs.InputFile.{InputFile}
use Rattle.job_files.specs.declared.inputs.InputFile.TheVariants.{Table, Capture}

-- Files that are there, and not too long

not_both_long : (limit : ℕ) (c : Contents) (name : List ℕ) → Fits limit c name → IsLongerThan limit c name → ⊥
not_both_long limit c name fits long = let same : fits.0 ≡ long.0 = cc in let n = ap length same in omega (arith, n, fits.2, long.2)

capture_there : (long : Bool) (names : List (List ℕ)) (c : Contents) (captures : List (List ℕ)) (port : ℕ)
    → CapturesRead long names (Some c) captures → port < length names → Fits (capture_bytes long) c (get_or names port [])
capture_there long names c captures port read within =
    let inside : port < length captures = omega (arith, read.count) in (
      get_or captures port [],
      sym (get_or-map (λ name. c.file name) names port [] None within) ∙ ap (λ os. get_or os port None) read.there
          ∙ get_or-map (λ b. Some b) captures port [] None inside,
      All-get_or (λ b. length b ≤ capture_bytes long) captures port [] inside read.fit,
    )

-- what was read is not too long
read_fits : (r : ReadWords) (c : Contents) (table : List ℕ) (captures : List (List ℕ)) (input : InputFile) → AreFilesRead r (Some c) table captures
    → IsInput r input → Fits (most_bytes r input) c (input_name r input)
read_fits r c table captures Table read known = (table, read.table_there, read.table_fits)
read_fits r c table captures (Capture port) read known = capture_there r.long r.inputs c captures port read.captures_read known

long_was_read : (r : ReadWords) (c : Contents) (table : List ℕ) (captures : List (List ℕ)) (input : InputFile) → AreFilesRead r (Some c) table captures
    → IsInput r input → IsTooLongFor r input c → ⊥
long_was_read r c table captures input read known long =
    not_both_long (most_bytes r input) c (input_name r input) (read_fits r c table captures input read known) long

earlier_capture : (r : ReadWords) (c : Contents) (p q : ℕ) → p < q → q < length r.inputs → EarlierFit r (Capture q) c → IsTooLongFor r (Capture p) c → ⊥
earlier_capture r c p q less within earlier long =
    let short : p < length (take q r.inputs) = omega (arith, length-take-le q r.inputs (omega arith)) in
    not_both_long (capture_bytes r.long) c (get_or r.inputs p [])
    (subst (λ (name : List ℕ). Fits (capture_bytes r.long) c name) (get_or-take q r.inputs p [] less)
    (All-get_or (Fits (capture_bytes r.long) c) (take q r.inputs) p [] short earlier.1)) long

-- a file of the run is too long, and those before it are not
record IsLongOf (r : ReadWords) (contents : Contents) (input : InputFile) : Type 0 where
  pub known : IsInput r input
  pub earlier : EarlierFit r input contents
  pub longer : IsTooLongFor r input contents

-- two such files are one
first_long : (r : ReadWords) (c : Contents) (a b : InputFile) → IsLongOf r c a → IsLongOf r c b → a ≡ b
first_long r c Table Table one other = refl
first_long r c Table (Capture q) one other = absurd (not_both_long (most_bytes r Table) c r.table other.earlier.0 one.longer)
first_long r c (Capture p) Table one other = absurd (not_both_long (most_bytes r Table) c r.table one.earlier.0 other.longer)
first_long r c (Capture p) (Capture q) one other =
    elim (cases_lt p q) [
      | inl less ↦ absurd (earlier_capture r c p q less other.known other.earlier one.longer)
      | inr not_less ↦ elim (cases_lt q p) [
        | inl more ↦ absurd (earlier_capture r c q p more one.known one.earlier other.longer)
        | inr not_more ↦ let same : p ≡ q = omega arith in ap Capture same
      ]
    ]

-- What was read is what the files hold

somes_injective : (xs ys : List (List ℕ)) → map (λ b. Some b) xs ≡ map (λ b. Some b) ys → xs ≡ ys
somes_injective [] [] same = refl
somes_injective [] (y ∷ ys) same = absurd (cc)
somes_injective (x ∷ xs) [] same = absurd (cc)
somes_injective (x ∷ xs) (y ∷ ys) same = let rest : map (λ b. Some b) xs ≡ map (λ b. Some b) ys = cc in let more = somes_injective xs ys rest in cc

same_read : (r : ReadWords) (c : Contents) (t u : List ℕ) (xs ys : List (List ℕ)) → AreFilesRead r (Some c) t xs → AreFilesRead r (Some c) u ys → (t ≡ u)
    × (xs ≡ ys)
same_read r c t u xs ys a b = (let p = a.table_there in let q = b.table_there in cc, somes_injective xs ys (sym a.captures_read.there ∙ b.captures_read.there))

pub same_inputs : (job : JobWords) (c : Contents) (t u : List ℕ) (xs ys : List (List ℕ)) → AreInputs job (Some c) t xs → AreInputs job (Some c) u ys → (t ≡ u)
    × (xs ≡ ys)
same_inputs (run r) c t u xs ys a b = same_read _ c t u xs ys a b
same_inputs (gen g) c t u xs ys a b = (a.0 ∙ sym b.0, a.1 ∙ sym b.1)
same_inputs (check w) c t u xs ys a b = absurd a
same_inputs (firm f) c t u xs ys a b = same_read _ c t u xs ys a b

-- The words mean one job, and the contents seen are one

pub same_job : (c : Command) (job other : JobWords) → c.job ≡ Some job → c.job ≡ Some other → other ≡ job
same_job c job other a b = cc

same_words : (job : JobWords) (r s : ReadWords) → reads_of job ≡ Some r → reads_of job ≡ Some s → s ≡ r
same_words job r s a b = cc

pub no_job : (c : Command) (job : JobWords) → c.job ≡ Some job → c.job ≡ None → ⊥
no_job c job a b = absurd (cc)

-- the inputs of a job that reads files are what these hold
files_read : (job : JobWords) (r : ReadWords) (seen : Option Contents) (table : List ℕ) (captures : List (List ℕ)) → reads_of job ≡ Some r
    → AreInputs job seen table captures → AreFilesRead r seen table captures
files_read (run w) r seen table captures reads inputs = subst (λ (s : ReadWords). AreFilesRead s seen table captures) (same_Some _ r reads) inputs
files_read (gen g) r seen table captures reads inputs = absurd (none-some r reads)
files_read (check w) r seen table captures reads inputs = absurd inputs
files_read (firm f) r seen table captures reads inputs = subst (λ (s : ReadWords). AreFilesRead s seen table captures) (same_Some _ r reads) inputs

-- a check has no inputs, and reads no table and no captures
pub no_inputs : (job : JobWords) (words : CheckWords) (seen : Option Contents) (table : List ℕ) (captures : List (List ℕ)) → job ≡ check words
    → AreInputs job seen table captures → ⊥
no_inputs job words seen table captures is inputs = subst (λ (j : JobWords). AreInputs j seen table captures) is inputs

pub no_reads : (job : JobWords) (words : CheckWords) (r : ReadWords) → job ≡ check words → reads_of job ≡ Some r → ⊥
no_reads job words r is reads = none-some r (subst (λ (j : JobWords). reads_of j ≡ Some r) is reads)

-- no check has the status of usage
check_is_no_usage : (e : CheckEnding) → check_status e ≡ 2 → ⊥
check_is_no_usage check_ending.Yes two = omega arith
check_is_no_usage (check_ending.No slot reason) two = omega arith
check_is_no_usage (check_ending.Bad at) two = omega arith
check_is_no_usage check_ending.TooLong two = omega arith
check_is_no_usage check_ending.ReadFault two = omega arith
check_is_no_usage check_ending.OutOfMemory two = omega arith
check_is_no_usage check_ending.OutFault two = omega arith

-- what is not there is none
pub none_of : {A : Type 0} (o : Option A) → is_some o ≡ false → o ≡ None
none_of None same = refl
none_of (Some x) same = absurd (cc)

-- at status 2 there is no job; without a job the status is 2 or 5
usage_words : (c : Command) (status : ℕ) (ending : Ending) → Answers c status ending → (status ≡ 2 → c.job ≡ None) × (c.job ≡ None →
    (status ≡ 2) ⊎ (status ≡ 5))
usage_words c status Done a = (λ two. absurd (omega (arith, a.0, two)), λ none. absurd (no_job c a.1.0 a.1.1 none))
usage_words c status Usage a = (λ two. a.1.0, λ none. inl a.0)
usage_words c status (ReadFault input) a = (λ two. absurd (omega (arith, a.0, two)), λ none. absurd (no_job c a.1.job a.1.words none))
usage_words c status (TooLong input) a = (λ two. absurd (omega (arith, a.0, two)), λ none. absurd (no_job c a.1.job a.1.words none))
usage_words c status (Refused fault) a = (λ two. absurd (omega (arith, a.0, two)), λ none. absurd (no_job c a.1.job a.1.words none))
usage_words c status (JournalTooLong size) a = (λ two. absurd (omega (arith, a.0, two)), λ none. absurd (no_job c a.1.job a.1.words none))
usage_words c status (PacketsTooLong size) a = (λ two. absurd (omega (arith, a.0, two)), λ none. absurd (no_job c a.1.job a.1.words none))
usage_words c status OutOfMemory a = (λ two. absurd (omega (arith, a.0, two)), λ none. inr a.0)
usage_words c status (WriteFault written) a = (λ two. absurd (omega (arith, a.0, two)), λ none. absurd (no_job c a.1.job a.1.words none))
usage_words c status (Checked e) a = (λ two. absurd (check_is_no_usage e (sym a.0 ∙ two)), λ none. absurd (no_job c a.1.job a.1.words none))

pub usage_exact : (c : Command) (status : ℕ) (ending : Ending) → Answers c status ending → (c.named ≡ false → ending ≡ Usage) → UsageIsExact c status
usage_exact c status ending a unnamed =
    let words = usage_words c status ending a in
    record { only = words.0; every = words.1; unnamed = λ none. a.0 ∙ ap status_of (unnamed none) }

-- In the following the job and the contents are those of the command, seen once

-- the inputs that texts were made of
pub record AreMadeOf (job : JobWords) (contents : Contents) (texts : Texts) : Type 0 where
  pub table : List ℕ
  pub captures : List (List ℕ)
  pub inputs : AreInputs job (Some contents) table captures
  pub outcome : AreTexts job table captures texts

pub made_of : (c : Command) (job other : JobWords) (contents : Contents) (texts : Texts) → IsReadable c job contents → c.job ≡ Some other
    → IsMade other c.old texts → AreMadeOf job contents texts
made_of c job other contents texts read words made =
    let here = subst (λ (o : Option Contents). IsMade job o texts) read.seen
    (subst (λ (n : JobWords). IsMade n c.old texts) (same_job c job other read.words words) made) in
    record { table = here.table; captures = here.captures; inputs = here.inputs; outcome = here.outcome }

pub stops_here : (c : Command) (job : JobWords) (contents : Contents) (ending : Ending) → c.job ≡ Some job → c.old ≡ Some contents → (s : IsStopped c ending)
    → Stops job (Some contents) c.was c.now s.seen ending
stops_here c job contents ending words seen s =
    subst (λ (o : Option Contents). Stops job o c.was c.now s.seen ending) seen
    (subst (λ (n : JobWords). Stops n c.old c.was c.now s.seen ending) (same_job c job s.job words s.words) s.stops)

pub no_read_fault : (c : Command) (job : JobWords) (contents : Contents) (input : InputFile) → IsReadable c job contents → IsStopped c (ReadFault input) → ⊥
no_read_fault c job contents input read s = let stops = stops_here c job contents (ReadFault input) read.words read.seen s in
    read.reads stops.0.words input stops.0.reads stops.0.known stops.0.rose

long_of : (job : JobWords) (r : ReadWords) (contents : Contents) (input : InputFile) → reads_of job ≡ Some r → IsFirstTooLong job (Some contents) input
    → IsLongOf r contents input
long_of job r contents input is f =
    subst (λ (s : ReadWords). IsLongOf s contents input) (same_words job r f.words is f.reads)
    (record { known = f.known; earlier = f.earlier; longer = f.longer })

-- a file of the inputs is not too long
pub long_of_inputs : (job : JobWords) (c : Contents) (table : List ℕ) (captures : List (List ℕ)) (input : InputFile) → AreInputs job (Some c) table captures
    → IsFirstTooLong job (Some c) input → ⊥
long_of_inputs job c table captures input inputs long =
    long_was_read long.words c table captures input (files_read job long.words (Some c) table captures long.reads inputs) long.known long.longer

-- where a file is too long, the answer says so
long_answered : (c : Command) (status : ℕ) (ending : Ending) → Answers c status ending → (job : JobWords) (contents : Contents) (input : InputFile)
    → IsReadable c job contents → IsFirstTooLong job (Some contents) input → AnswersUnlessOut c status (TooLong input)
long_answered c status Done a job contents input read long =
    let m = made_of c job a.1.0 contents a.1.2.texts read a.1.1 a.1.2.made in
    absurd (long_of_inputs job contents m.table m.captures input m.inputs long)
long_answered c status Usage a job contents input read long = absurd (no_job c job read.words a.1.0)
long_answered c status (ReadFault other) a job contents input read long = absurd (no_read_fault c job contents other read a.1)
long_answered c status (TooLong other) a job contents input read long =
    let stops = stops_here c job contents (TooLong other) read.words read.seen a.1 in
    let first = long_of job long.words contents other long.reads stops.0 in
    let same = first_long long.words contents other input first (record { known = long.known; earlier = long.earlier; longer = long.longer }) in
    inl (subst (λ (i : InputFile). Answers c status (TooLong i)) same a)
long_answered c status (Refused fault) a job contents input read long =
    let stops = stops_here c job contents (Refused fault) read.words read.seen a.1 in
    absurd (long_of_inputs job contents stops.0.table stops.0.captures input stops.0.inputs long)
long_answered c status (JournalTooLong size) a job contents input read long =
    let stops = stops_here c job contents (JournalTooLong size) read.words read.seen a.1 in
    absurd (long_of_inputs job contents stops.0.table stops.0.captures input stops.0.inputs long)
long_answered c status (PacketsTooLong size) a job contents input read long =
    let stops = stops_here c job contents (PacketsTooLong size) read.words read.seen a.1 in
    absurd (long_of_inputs job contents stops.0.table stops.0.captures input stops.0.inputs long)
long_answered c status OutOfMemory a job contents input read long = inr a
long_answered c status (WriteFault written) a job contents input read long =
    let stops = stops_here c job contents (WriteFault written) read.words read.seen a.1 in
    absurd (long_of_inputs job contents stops.made.table stops.made.captures input stops.made.inputs long)
long_answered c status (Checked e) a job contents input read long =
    let stops = stops_here c job contents (Checked e) read.words read.seen a.1 in
    absurd (no_reads job stops.words long.words stops.is_check long.reads)

pub too_long_exact : (c : Command) (status : ℕ) (ending : Ending) → Answers c status ending → TooLongIsExact c status
too_long_exact c status ending a job r contents input read reads known earlier long =
    long_answered c status ending a job contents input read
    (record { words = r; reads = reads; known = known; earlier = earlier; longer = long })

-- ---- the run behind a command

pub run_good : (job : JobWords) (table : List ℕ) (captures : List (List ℕ)) (plan : SwitchPlan) (slots : ℕ) → IsRunFor job table captures plan slots
    → IsGood plan
run_good (run r) table captures plan slots is = is.planned.good
run_good (gen g) table captures plan slots is = is.planned.good
run_good (check w) table captures plan slots is = absurd is
run_good (firm f) table captures plan slots is = is.planned.good

pub run_plan : (job : JobWords) (table : List ℕ) (captures : List (List ℕ)) (plan : SwitchPlan) (slots : ℕ) → IsRunFor job table captures plan slots
    → (settings : Settings) × IsPlanned settings table captures plan
run_plan (run r) table captures plan slots is = (r.settings, is.planned)
run_plan (gen g) table captures plan slots is = (g.settings, is.planned)
run_plan (check w) table captures plan slots is = absurd is
run_plan (firm f) table captures plan slots is = (f.settings, is.planned)

pub run_ends : (job : JobWords) (table : List ℕ) (captures : List (List ℕ)) (plan : SwitchPlan) (slots : ℕ) → IsRunFor job table captures plan slots
    → IsLengthUnder (decision_named (scheduler_in job)) plan slots
run_ends (run r) table captures plan slots is = is.ends
run_ends (gen g) table captures plan slots is = is.ends
run_ends (check w) table captures plan slots is = absurd is
run_ends (firm f) table captures plan slots is = is.ends
