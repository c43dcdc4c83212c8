-- What making the texts of a job answers, and how the job ends after it.
use Rattle.std.proofs.Common.{◌≡◌, ◌+◌, ◌≤◌, ℕ, Option, refl, subst, arith, length, length-append, map, string_bytes}
use Rattle.std.specs.Prelude.{Result, Ok, Err, IfErr, IfOk, option_map}
use Rattle.std.proofs.lemmas.List.{length-map}
use Rattle.rotating_pick.specs.declared.limits.TheConstants.{MAX_PORTS}
use Rattle.outside.specs.Contents.{Contents, append_out}
use Rattle.outside.specs.Faults.{Place}
use Rattle.outside.proofs.Counting.{NeverFall-refl, NoneRose-refl, last_calls}
use Rattle.switch_words.specs.declared.job.GenJob.{GenJob}
use Rattle.switch_words.specs.Reading.{JobWords, gen}
use Rattle.job_files.specs.FileSteps.{StopsPutting, all_shown, pieced}
use Rattle.job_files.specs.Jobs.{RunsSwitch}
use Rattle.job_files.specs.OutputFiles.{put_files, shown}
use Rattle.job_files.specs.Statuses.{status_of}
use Rattle.job_files.specs.declared.ending.Ending.{Ending}
use Rattle.job_files.specs.declared.ending.Ending.TheVariants.{Done, Usage, Checked}
use Rattle.job_files.specs.declared.ending.Written.{Written}
use Rattle.job_files.specs.declared.output_files.JobTexts.{JobTexts}
use Rattle.switch_run.specs.declared.packets.PacketPieces.{PacketPieces}
use Rattle.switch_run.specs.Endings.{IsDone, IsWriteFault, Stops}
use Rattle.switch_run.specs.MakingSteps.{AreToWrite, IsEndOf, Makes, left_of, to_write}
use Rattle.switch_run.proofs.Stopping.{StopsWriting-wider, done, few_files, stops_writing, texts_made}

-- what making the texts of a `gen` job answers, which reads nothing
pub gen_makes : (g : GenJob) (old : Option Contents) (counts : Place → ℕ) (made : Result (JobTexts PacketPieces) Ending)
    → IfOk made (λ texts. (seen : Option Contents) → AreToWrite (gen g) seen (to_write texts))
    → IfErr made (λ ending. (seen : Option Contents) (was now : Place → ℕ) → Stops (gen g) seen was now seen ending)
    → Makes (gen g) old counts counts old made
gen_makes g old counts (Ok texts) made stops =
    record { runs = tt; new_is = refl; never_fall = NeverFall-refl counts; no_fault = NoneRose-refl counts; refused = tt; texts = made old; stops = tt }
gen_makes g old counts (Err ending) made stops =
    record {
      runs = tt;
      new_is = refl;
      never_fall = NeverFall-refl counts;
      no_fault = tt;
      refused = λ p none. refl;
      texts = tt;
      stops = stops old counts counts;
    }

-- the texts of a job that were made have no more files than can be written
pub few_texts : (job : JobWords) (old : Option Contents) (made : Result (JobTexts PacketPieces) Ending)
    → IfOk made (λ texts. AreToWrite job old (to_write texts)) → IfOk made (λ texts. length texts.files.items ≤ MAX_PORTS + 3)
few_texts job old (Ok texts) is =
    let few = few_files job old (to_write texts) is in
    omega (arith, few, length-append (map shown texts.files.items) (pieced left_of texts.packets), length-map texts.files.items shown)
few_texts job old (Err ending) is = tt

-- a job that stops ends so
pub stopping_ends : (job : JobWords) (old seen : Option Contents) (was now : Place → ℕ) (ending : Ending) → Stops job old was now seen ending
    → IsEndOf job old was now seen ending
stopping_ends job old seen was now Done stops = absurd stops
stopping_ends job old seen was now ending stops = stops

-- a job that runs a switch and stops has another status than 0
pub other_status : (job : JobWords) (old seen : Option Contents) (was now : Place → ℕ) (ending : Ending) → RunsSwitch job
    → Stops job old was now seen ending → status_of ending ≡ 0 → ⊥
other_status job old seen was now Done runs stops same = stops
other_status job old seen was now Usage runs stops same = stops
other_status job old seen was now (Checked ending) runs stops same = subst RunsSwitch stops.is_check runs
other_status job old seen was now _ runs stops same = omega (arith, same)

module _ (job : JobWords) (old mid new : Option Contents) (was between now : Place → ℕ) (texts : JobTexts PacketPieces)
    (m : Makes job old was between mid (Ok texts)) where
  -- the texts that were made were written: the job is done
  pub made_done : new ≡ option_map (λ c. append_out (string_bytes texts.summary) (put_files (all_shown left_of texts) c)) mid → IsDone job old new
  made_done put = done job old (to_write texts) m.texts mid new m.new_is put

  -- a call that wrote the texts that were made was refused
  pub made_write_fault : (what : Written)
      → StopsPutting texts.outputs (length texts.files.items) (all_shown left_of texts) (string_bytes texts.summary) what mid between now new
      → IsWriteFault job old was now new what
  made_write_fault what stops =
      let w = m.texts in
      let written = to_write texts in
      let from_old = subst (λ (o : Option Contents). StopsPutting written.outputs written.before written.files written.summary what o between now new) m.new_is
      stops in
      record {
        texts = w.made.texts;
        made = texts_made job old written w;
        stops = StopsWriting-wider job w.made.texts was now (last_calls was between now m.never_fall) old new what
            (stops_writing job old written w what new between now from_old);
      }
