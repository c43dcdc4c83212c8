-- The job that is read of the parts, and the job of the grammar.
use Rattle.std.proofs.Common.{◌≡◌, ◌∙◌, ◌⊎◌, ◌&&◌, ◌||◌, ap, sym, subst, true, false, Bool, List, [], ◌∷◌, Some, refl, inl, inr, codes, bytes_eq}
use Rattle.std.proofs.lemmas.Bool.{cases_Bool}
use Rattle.std.proofs.lemmas.Slice.Eq.{bytes_eq-Decides}
use Rattle.rotating_pick.specs.declared.limits.TheConstants.{MAX_PORTS}
use Rattle.scheduler_names.specs.declared.names.SchedulerName.{SchedulerName}
use Rattle.switch_words.specs.declared.limits.TheConstants.{MAX_COUNT, MAX_SEED}
use Rattle.switch_words.specs.declared.job.Settings.{Settings}
use Rattle.switch_words.specs.declared.job.GenJob.{GenJob}
use Rattle.switch_words.specs.Numbers.{number_within}
use Rattle.switch_words.specs.Options.{scheduler, slots, journal, reference, queues, packets, alone, long, value, flag, command_named}
use Rattle.switch_words.specs.Parts.{Parts}
use Rattle.switch_words.specs.Reading.{CheckWords, FirmWords, JobWords, RunWords, check, firm, gen, run}
use Rattle.switch_words.specs.Reading.{check_with, firm_with, gen_with, inputs_in, job_with, run_named, run_with, scheduler_given, settings_of}
use Rattle.word_grammar.specs.Grammar.{Argument, AreFlags, AreSettings, IsJob, IsScheduler, Text, given}
use Rattle.word_grammar.proofs.Adding.{flag_texts}
use Rattle.word_grammar.proofs.Ids.{Command, id_of}
use Rattle.word_grammar.proofs.Options.{map_some, none_is_some, some_is, then_some}
use Rattle.word_grammar.proofs.Values.{SayTexts, given_scheduler, inputs_some, inputs_there, scheduler_reads, settings_are, settings_read}

-- ---- from what is read

say_scheduler : (parts : Parts) (arguments : List Argument) (s : SchedulerName) → SayTexts parts arguments → scheduler_given parts.scheduler ≡ Some s
    → IsScheduler (given (id_of (value scheduler)) arguments) s
say_scheduler parts arguments s say h = rw (say (value scheduler)) (given_scheduler parts.scheduler s h)

abbrev IsShort : Bool → Bool → Bool → Type 0
IsShort is_long has_slots has_journal = (has_slots ≡ true) ⊎ (has_journal ≡ true) → is_long ≡ false

-- a run that tells of slots is no long one
short_run : (is_long has_slots has_journal : Bool) → is_long && (has_slots || has_journal) ≡ false → IsShort is_long has_slots has_journal
short_run false has_slots has_journal h tells = refl
short_run true true has_journal h tells = h
short_run true false true h tells = h
short_run true false false h tells = sym (elim tells [ inl t ↦ t | inr t ↦ t ])

run_short : (is_long has_slots has_journal : Bool) → IsShort is_long has_slots has_journal → is_long && (has_slots || has_journal) ≡ false
run_short false has_slots has_journal short = refl
run_short true true has_journal short = short (inl refl)
run_short true false true short = short (inr refl)
run_short true false false short = refl

run_there : (settings : Settings) (s : SchedulerName) (parts : Parts) (names : List Text) (job : RunWords)
    → run_with settings s parts.flags names ≡ Some job
    → IsShort settings.long parts.flags.slots parts.flags.journal × (run_named settings s parts.flags names ≡ Some job)
run_there settings s parts names job h = elim (cases_Bool (settings.long && (parts.flags.slots || parts.flags.journal))) [
  | inl e ↦ absurd (none_is_some (rw e at h))
  | inr e ↦ (short_run settings.long parts.flags.slots parts.flags.journal e, rw e at h)
]

run_is : (parts : Parts) (arguments : List Argument) (settings : Settings) (s : SchedulerName) (names : List Text) (job : RunWords)
    → SayTexts parts arguments → AreSettings arguments settings × (parts.flags.long ≡ settings.long)
    → IsScheduler (given (id_of (value scheduler)) arguments) s → IsShort settings.long parts.flags.slots parts.flags.journal
    → run_named settings s parts.flags names ≡ Some job → IsJob (codes "run") arguments names (run job)
run_is parts arguments settings s [] job say are by short h = absurd (none_is_some h)
run_is parts arguments settings s (table ∷ []) job say are by short h = absurd (none_is_some h)
run_is parts arguments settings s (table ∷ prefix ∷ names) job say are by short h =
    let m = map_some _ (inputs_in names) job h in
    let up = inputs_some names m.0 m.1 in
    subst (λ (j : RunWords). IsJob (codes "run") arguments (table ∷ prefix ∷ names) (run j)) m.2 (
      refl,
      are.0,
      by,
      record {
        slots = say (flag slots);
        journal = say (flag journal);
        reference = say (flag reference);
        queues = say (flag queues);
        packets = say (flag packets);
        alone = say (flag alone);
        long = say (flag long) ∙ ap flag_texts are.1;
        short = short;
      },
      ap (λ (t : List Text). table ∷ prefix ∷ t) up.0,
      up.1,
    )

gen_is : (arguments : List Argument) (settings : Settings) (s : SchedulerName) (names : List Text) (job : GenJob)
    → AreSettings arguments settings → settings.long ≡ false → IsScheduler (given (id_of (value scheduler)) arguments) s
    → gen_with settings s names ≡ Some job → IsJob (codes "gen") arguments names (gen job)
gen_is arguments settings s [] job are short by h = absurd (none_is_some h)
gen_is arguments settings s (a ∷ []) job are short by h = absurd (none_is_some h)
gen_is arguments settings s (a ∷ b ∷ []) job are short by h = absurd (none_is_some h)
gen_is arguments settings s (a ∷ b ∷ c ∷ []) job are short by h =
    let x = then_some _ (number_within 0 MAX_SEED a) job h in
    let y = then_some _ (number_within 0 MAX_COUNT b) job x.2 in
    let z = map_some _ (number_within 1 MAX_PORTS c) job y.2 in
    subst (λ (j : GenJob). IsJob (codes "gen") arguments (a ∷ b ∷ c ∷ []) (gen j)) z.2 (refl, are, short, by, (a, b, c, refl, x.1, y.1, z.1))
gen_is arguments settings s (a ∷ b ∷ c ∷ d ∷ more) job are short by h = absurd (none_is_some h)

check_is : (arguments : List Argument) (s : SchedulerName) (names : List Text) (job : CheckWords)
    → IsScheduler (given (id_of (value scheduler)) arguments) s → check_with s names ≡ Some job → IsJob (codes "check") arguments names (check job)
check_is arguments s [] job by h = absurd (none_is_some h)
check_is arguments s (file ∷ []) job by h = subst (λ (j : CheckWords). IsJob (codes "check") arguments (file ∷ []) (check j)) (some_is h) (refl, by, refl)
check_is arguments s (file ∷ other ∷ more) job by h = absurd (none_is_some h)

firm_is : (arguments : List Argument) (settings : Settings) (names : List Text) (job : FirmWords)
    → AreSettings arguments settings → given (id_of (flag long)) arguments ≡ flag_texts settings.long → firm_with settings names ≡ Some job
    → IsJob (codes "firm") arguments names (firm job)
firm_is arguments settings [] job are is_long h = absurd (none_is_some h)
firm_is arguments settings (table ∷ names) job are is_long h =
    let m = map_some _ (inputs_in names) job h in
    let up = inputs_some names m.0 m.1 in
    subst (λ (j : FirmWords). IsJob (codes "firm") arguments (table ∷ names) (firm j)) m.2 (refl, are, is_long, ap (λ (t : List Text). table ∷ t) up.0, up.1)

run_job : (command : Command) (parts : Parts) (arguments : List Argument) (job : JobWords) → SayTexts parts arguments
    → command_named (codes "run") ≡ Some command → job_with command parts ≡ Some job → IsJob (codes "run") arguments parts.names job
unfolding job_with
run_job command parts arguments job say at read =
    let a = then_some _ (settings_of parts.flags.long parts) job (rw (← (some_is at)) at read) in
    let b = then_some _ (scheduler_given parts.scheduler) job a.2 in
    let c = map_some run (run_with a.0 b.0 parts.flags parts.names) job b.2 in
    let d = run_there a.0 b.0 parts parts.names c.0 c.1 in
    subst (IsJob (codes "run") arguments parts.names) c.2 (run_is parts arguments a.0 b.0 parts.names c.0 say
    (settings_are parts.flags.long parts arguments a.0 say a.1) (say_scheduler parts arguments b.0 say b.1) d.0 d.1)

gen_job : (command : Command) (parts : Parts) (arguments : List Argument) (job : JobWords) → SayTexts parts arguments
    → command_named (codes "gen") ≡ Some command → job_with command parts ≡ Some job → IsJob (codes "gen") arguments parts.names job
unfolding job_with
gen_job command parts arguments job say at read =
    let a = then_some _ (settings_of false parts) job (rw (← (some_is at)) at read) in
    let b = then_some _ (scheduler_given parts.scheduler) job a.2 in
    let c = map_some gen (gen_with a.0 b.0 parts.names) job b.2 in
    let are = settings_are false parts arguments a.0 say a.1 in
    subst (IsJob (codes "gen") arguments parts.names) c.2 (gen_is arguments a.0 b.0 parts.names c.0
    are.0 (sym are.1) (say_scheduler parts arguments b.0 say b.1) c.1)

check_job : (command : Command) (parts : Parts) (arguments : List Argument) (job : JobWords) → SayTexts parts arguments
    → command_named (codes "check") ≡ Some command → job_with command parts ≡ Some job → IsJob (codes "check") arguments parts.names job
unfolding job_with
check_job command parts arguments job say at read =
    let b = then_some _ (scheduler_given parts.scheduler) job (rw (← (some_is at)) at read) in
    let c = map_some check (check_with b.0 parts.names) job b.2 in
    subst (IsJob (codes "check") arguments parts.names) c.2 (check_is arguments b.0 parts.names c.0 (say_scheduler parts arguments b.0 say b.1) c.1)

firm_job : (command : Command) (parts : Parts) (arguments : List Argument) (job : JobWords) → SayTexts parts arguments
    → command_named (codes "firm") ≡ Some command → job_with command parts ≡ Some job → IsJob (codes "firm") arguments parts.names job
unfolding job_with
firm_job command parts arguments job say at read =
    let a = then_some _ (settings_of parts.flags.long parts) job (rw (← (some_is at)) at read) in
    let c = map_some firm (firm_with a.0 parts.names) job a.2 in
    let are = settings_are parts.flags.long parts arguments a.0 say a.1 in
    subst (IsJob (codes "firm") arguments parts.names) c.2
    (firm_is arguments a.0 parts.names c.0 are.0 (say (flag long) ∙ ap flag_texts are.1) c.1)

-- the four commands
pub data Line (line : Text) : Type 0 where
  runs : line ≡ codes "run" → Line line
  gens : line ≡ codes "gen" → Line line
  checks : line ≡ codes "check" → Line line
  firms : line ≡ codes "firm" → Line line

pub line_of : (line : Text) (command : Command) → command_named line ≡ Some command → Line line
line_of line command h = elim (cases_Bool (bytes_eq line (codes "run"))) [
  | inl e ↦ runs ((bytes_eq-Decides line (codes "run")).0 e)
  | inr e ↦ elim (cases_Bool (bytes_eq line (codes "gen"))) [
    | inl f ↦ gens ((bytes_eq-Decides line (codes "gen")).0 f)
    | inr f ↦ elim (cases_Bool (bytes_eq line (codes "check"))) [
      | inl g ↦ checks ((bytes_eq-Decides line (codes "check")).0 g)
      | inr g ↦ elim (cases_Bool (bytes_eq line (codes "firm"))) [
        | inl k ↦ firms ((bytes_eq-Decides line (codes "firm")).0 k)
        | inr k ↦ absurd (none_is_some (rw (e, f, g, k) at h))
      ]
    ]
  ]
]

pub job_is : (line : Text) (command : Command) → command_named line ≡ Some command → (parts : Parts) (arguments : List Argument) (job : JobWords)
    → SayTexts parts arguments → job_with command parts ≡ Some job → IsJob line arguments parts.names job
job_is line command at parts arguments job say read = elim (line_of line command at) [
  | runs e ↦ subst (λ (t : Text). IsJob t arguments parts.names job) (sym e)
      (run_job command parts arguments job say (ap command_named (sym e) ∙ at) read)
  | gens e ↦ subst (λ (t : Text). IsJob t arguments parts.names job) (sym e)
      (gen_job command parts arguments job say (ap command_named (sym e) ∙ at) read)
  | checks e ↦ subst (λ (t : Text). IsJob t arguments parts.names job) (sym e)
      (check_job command parts arguments job say (ap command_named (sym e) ∙ at) read)
  | firms e ↦ subst (λ (t : Text). IsJob t arguments parts.names job) (sym e)
      (firm_job command parts arguments job say (ap command_named (sym e) ∙ at) read)
]

-- ---- from the grammar

same_flag : (a b : Bool) → flag_texts a ≡ flag_texts b → a ≡ b
same_flag true true h = refl
same_flag true false h = cc
same_flag false true h = cc
same_flag false false h = refl

say_flags : (parts : Parts) (arguments : List Argument) (job : RunWords) → SayTexts parts arguments → AreFlags arguments job
    → parts.flags ≡ record {
      slots = job.slots;
      journal = job.journal;
      reference = job.reference;
      queues = job.queues;
      packets = job.packets;
      alone = job.alone;
      long = job.settings.long;
    }
say_flags parts arguments job say are = λ i. record {
  slots = same_flag parts.flags.slots job.slots (sym (say (flag slots)) ∙ are.slots) i;
  journal = same_flag parts.flags.journal job.journal (sym (say (flag journal)) ∙ are.journal) i;
  reference = same_flag parts.flags.reference job.reference (sym (say (flag reference)) ∙ are.reference) i;
  queues = same_flag parts.flags.queues job.queues (sym (say (flag queues)) ∙ are.queues) i;
  packets = same_flag parts.flags.packets job.packets (sym (say (flag packets)) ∙ are.packets) i;
  alone = same_flag parts.flags.alone job.alone (sym (say (flag alone)) ∙ are.alone) i;
  long = same_flag parts.flags.long job.settings.long (sym (say (flag long)) ∙ are.long) i;
}

read_scheduler : (parts : Parts) (arguments : List Argument) (s : SchedulerName) → SayTexts parts arguments
    → IsScheduler (given (id_of (value scheduler)) arguments) s → scheduler_given parts.scheduler ≡ Some s
read_scheduler parts arguments s say by = scheduler_reads parts.scheduler s (rw (say (value scheduler)) at by)

read_settings : (parts : Parts) (arguments : List Argument) (settings : Settings) → SayTexts parts arguments → AreSettings arguments settings
    → given (id_of (flag long)) arguments ≡ flag_texts settings.long → settings_of parts.flags.long parts ≡ Some settings
read_settings parts arguments settings say are is_long =
    ap (λ (l : Bool). settings_of l parts) (same_flag parts.flags.long settings.long (sym (say (flag long)) ∙ is_long))
    ∙ settings_read parts arguments settings say are

pub is_job : (line : Text) (command : Command) → command_named line ≡ Some command → (parts : Parts) (arguments : List Argument) (job : JobWords)
    → SayTexts parts arguments → IsJob line arguments parts.names job → job_with command parts ≡ Some job
unfolding job_with
is_job line command at parts arguments (run job) say (is, are, by, flags, names, up) =
    rw (
      ← (some_is (ap command_named (sym is) ∙ at)),
      read_settings parts arguments job.settings say are flags.long,
      say_flags parts arguments job say flags,
      read_scheduler parts arguments job.scheduler say by,
      run_short job.settings.long job.slots job.journal flags.short,
      names,
      inputs_there job.inputs up,
    ) refl
is_job line command at parts arguments (gen job) say (is, are, short, by, (seed, count, ports, names, s, c, p)) =
    rw (
      ← (some_is (ap command_named (sym is) ∙ at)),
      sym (ap (λ (l : Bool). settings_of l parts) short) ∙ settings_read parts arguments job.settings say are,
      read_scheduler parts arguments job.scheduler say by,
      names,
      s,
      c,
      p,
    ) refl
is_job line command at parts arguments (check job) say (is, by, names) =
    rw (← (some_is (ap command_named (sym is) ∙ at)), read_scheduler parts arguments job.scheduler say by, names) refl
is_job line command at parts arguments (firm job) say (is, are, is_long, names, up) =
    rw (
      ← (some_is (ap command_named (sym is) ∙ at)),
      read_settings parts arguments job.settings say are is_long,
      names,
      inputs_there job.inputs up,
    ) refl
