-- Names that begin with a dash.
use Rattle.std.proofs.Common.{◌≡◌, sym, List, [], ◌∷◌, ◌++◌, Some, refl, inl, codes}
use Rattle.scheduler_names.specs.declared.names.SchedulerName.TheVariants.{Islip}
use Rattle.switch_words.specs.Parts.{parts_from}
use Rattle.switch_words.specs.Reading.{CheckWords, JobWords, check, job_with, reading_of}
use Rattle.word_grammar.specs.Grammar.{Argument, AreWritten, IsJob, Text, names_in}
use Rattle.word_grammar.proofs.Meanings.{read}

pub behind_dashes : (word : Text) (arguments : List Argument) (before further : List Text) (job : JobWords)
    → AreWritten word arguments before → IsJob word arguments (names_in arguments ++ further) job
    → reading_of (word ∷ (before ++ codes "--" ∷ further)) ≡ Some job
behind_dashes word arguments before further job written is =
    read word (before ++ codes "--" ∷ further) job (record {
      arguments = arguments;
      before = before;
      further = further;
      written = written;
      all = inl refl;
    }) is

pub any_file : (job : CheckWords) → job.scheduler ≡ Islip → reading_of (codes "check" ∷ codes "--" ∷ job.file ∷ []) ≡ Some (check job)
unfolding reading_of parts_from job_with
any_file job by = λ i. Some (check (record { scheduler = sym by i; file = job.file }))

pub dash_file : (job : CheckWords) → job.scheduler ≡ Islip → job.file ≡ codes "-" → reading_of (codes "check" ∷ codes "-" ∷ []) ≡ Some (check job)
unfolding reading_of parts_from job_with
dash_file job by is = λ i. Some (check (record { scheduler = sym by i; file = sym is i }))
