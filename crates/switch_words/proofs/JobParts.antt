-- The job of a command, by what is read of its parts.
use Rattle.std.proofs.Common.{◌≡◌, ◌∙◌, ap, false, [], List, Option, None, Some, Ok, Err, ok_or, option_map, option_and_then, refl, inl, inr}
use Rattle.std.proofs.Common.{◌&&◌, ◌||◌}
use Rattle.std.proofs.lemmas.Bool.{cases_Bool}
use Rattle.scheduler_names.specs.declared.names.SchedulerName.{SchedulerName}
use Rattle.clap.specs.Walk.{Text}
use Rattle.switch_words.specs.declared.fault.WordsFault.{WordsFault}
use Rattle.switch_words.specs.declared.job.Settings.{Settings}
use Rattle.switch_words.specs.declared.job.GenJob.{GenJob}
use Rattle.switch_words.specs.declared.options.Command.{Command}
use Rattle.switch_words.specs.declared.options.Command.TheVariants.{Run, Gen, Check, Firm}
use Rattle.switch_words.specs.declared.options.Flags.{Flags}
use Rattle.switch_words.specs.Parts.{Parts}
use Rattle.switch_words.specs.Reading.{RunWords, check, check_with, firm, firm_with, gen, gen_with, job_with, run, run_with, scheduler_given, settings_of}

pub is_there : {A E : Type 0} (o : Option A) (e : E) (x : A) → ok_or o e ≡ Ok x → o ≡ Some x
is_there None e x h = cc
is_there (Some y) e x h = cc

pub is_absent : {A E : Type 0} (o : Option A) (e f : E) → ok_or o e ≡ Err f → o ≡ None
is_absent None e f h = refl
is_absent (Some y) e f h = cc

pub run_reads : (command : Command) (parts : Parts) (flags : Flags) (settings : Settings) (scheduler : SchedulerName) (names : List Text)
    (fault : WordsFault) → command ≡ Run → parts.flags ≡ flags → ok_or (settings_of flags.long parts) fault ≡ Ok settings
    → ok_or (scheduler_given parts.scheduler) fault ≡ Ok scheduler → (job : Option RunWords) → run_with settings scheduler flags names ≡ job
    → parts.names ≡ names → job_with command parts ≡ option_map run job
unfolding job_with
run_reads command parts flags settings scheduler names fault is flags_are has_settings has_scheduler job with_names names_are =
    let known : settings_of parts.flags.long parts ≡ Some settings =
    ap (λ (f : Flags). settings_of f.long parts) flags_are ∙ is_there _ _ _ has_settings in
    rw (is, known, is_there _ _ _ has_scheduler, flags_are, names_are, with_names) refl

pub gen_reads : (command : Command) (parts : Parts) (settings : Settings) (scheduler : SchedulerName) (names : List Text) (fault : WordsFault)
    → command ≡ Gen → ok_or (settings_of false parts) fault ≡ Ok settings → ok_or (scheduler_given parts.scheduler) fault ≡ Ok scheduler
    → (job : Option GenJob) → gen_with settings scheduler names ≡ job → parts.names ≡ names → job_with command parts ≡ option_map gen job
unfolding job_with
gen_reads command parts settings scheduler names fault is has_settings has_scheduler job with_names names_are =
    rw (is, is_there _ _ _ has_settings, is_there _ _ _ has_scheduler, names_are, with_names) refl

-- without a name there is no job
then_none : {A B : Type 0} (f : A → Option B) (o : Option A) → ((a : A) → f a ≡ None) → option_and_then f o ≡ None
then_none f None none = refl
then_none f (Some a) none = none a

no_run : (settings : Settings) (scheduler : SchedulerName) (flags : Flags) → run_with settings scheduler flags [] ≡ None
no_run settings scheduler flags = elim (cases_Bool (settings.long && (flags.slots || flags.journal))) [ inl h ↦ rw h refl | inr h ↦ rw h refl ]

pub no_names : (command : Command) (parts : Parts) → parts.names ≡ [] → job_with command parts ≡ None
unfolding job_with
no_names Run parts none = then_none _ (settings_of parts.flags.long parts) (λ settings. then_none _ (scheduler_given parts.scheduler) (λ scheduler.
    ap (λ (names : List Text). option_map run (run_with settings scheduler parts.flags names)) none
    ∙ ap (option_map run) (no_run settings scheduler parts.flags)))
no_names Gen parts none = then_none _ (settings_of false parts) (λ settings. then_none _ (scheduler_given parts.scheduler) (λ scheduler.
    ap (λ (names : List Text). option_map gen (gen_with settings scheduler names)) none))
no_names Check parts none = then_none _ (scheduler_given parts.scheduler) (λ scheduler.
    ap (λ (names : List Text). option_map check (check_with scheduler names)) none)
no_names Firm parts none = then_none _ (settings_of parts.flags.long parts) (λ settings.
    ap (λ (names : List Text). option_map firm (firm_with settings names)) none)
