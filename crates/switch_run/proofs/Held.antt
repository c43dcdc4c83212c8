-- What an ending says of what was seen after the reads it says of what was seen before them and is seen still.
use Rattle.std.proofs.Common.{◌≡◌, ◌+◌, ℕ, false, List, [], take, length, Option, None, Some, refl, sym, ◌∙◌, ap, subst}
use Rattle.std.specs.Prelude.{is_some, option_map}
use Rattle.std.proofs.lemmas.Iterator.Adapters.{option_map_id}
use Rattle.outside.specs.Contents.{Contents, Stays, append_err, append_out, held}
use Rattle.outside.specs.Faults.{Place}
use Rattle.outside.specs.WholeFiles.{AtBegin, AtWrite, NamedBytes, StopsAt, first_part, put_file}
use Rattle.outside.proofs.Effects.{option_map-option_map}
use Rattle.outside.proofs.Staying.{Stays-refl, held-Stays}
use Rattle.switch_words.specs.Reading.{JobWords}
use Rattle.job_files.specs.Jobs.{RunsSwitch}
use Rattle.job_files.specs.LineParts.{GivesLine}
use Rattle.job_files.specs.OutputFiles.{Texts, files_of, packets_place, put_files, put_texts}
use Rattle.job_files.specs.declared.ending.Written.{Written}
use Rattle.job_files.specs.declared.ending.Written.TheVariants.{Output, Report, Journal, Packets, StandardOutput}
use Rattle.job_files.specs.declared.ending.Ending.{Ending}
use Rattle.job_files.specs.declared.ending.Ending.TheVariants.{Done, Usage, ReadFault, TooLong, Refused, JournalTooLong, PacketsTooLong, OutOfMemory}
use Rattle.job_files.specs.declared.ending.Ending.TheVariants.{WriteFault, Checked}
use Rattle.switch_run.specs.Endings.{StopsAtFile, StopsWriting}
use Rattle.switch_run.specs.MakingSteps.{IsEndOf}

-- contents with no file
pub no_files : Contents
no_files = record { file = λ name. None; begun = λ name. false; out = []; err = [] }

-- these contents are those with a change, where they are known
abbrev IsChanged : Option Contents → Option Contents → Type 0
IsChanged before after = (change : Contents → Contents) × (after ≡ option_map change before)

-- a change of what is seen is none of what was seen before and is seen still
held_changed : (old mid new : Option Contents) → IsChanged mid new → held old new ≡ held old mid
held_changed old None new is = rw is.1 refl
held_changed old (Some c) new is = rw is.1 refl

-- so after reads it is what was changed
held_after : (old mid new : Option Contents) → Stays old mid → IsChanged mid new → held old new ≡ mid
held_after old mid new stays is = held_changed old mid new is ∙ held-Stays old mid stays

-- ---- what an ending left is what it found, with a change

left_as_found : (before after : Option Contents) → after ≡ before → IsChanged before after
left_as_found before after same = (λ c. c, same ∙ sym (option_map_id before))

changed_after : (before mid after : Option Contents) → IsChanged mid after → IsChanged before mid → IsChanged before after
changed_after before mid after second first =
    (λ c. second.0 (first.0 c), second.1 ∙ ap (option_map second.0) first.1 ∙ option_map-option_map first.0 second.0 before)

file_changes : (f : NamedBytes) (was now : Place → ℕ) (before after : Option Contents) → StopsAt f was now before after → IsChanged before after
file_changes f was now before after (AtBegin rose same) = left_as_found before after same
file_changes f was now before after (AtWrite n rose part) = (λ c. put_file c (first_part n f), part)

module _ (job : JobWords) (texts : Texts) (was now : Place → ℕ) (before after : Option Contents) where
  place_changes : (place : ℕ) → StopsAtFile job texts place before was now after → IsChanged before after
  place_changes place s =
      let files = put_files (take place (files_of job texts)) in
      changed_after before (option_map files before) after (file_changes _ was now (option_map files before) after s.stops) (files, refl)

  writing_changes : (written : Written) → StopsWriting job texts written before was now after → IsChanged before after
  writing_changes (Output port) s = place_changes port s.1
  writing_changes Report s = place_changes (length texts.outputs) s
  writing_changes Journal s = place_changes (length texts.outputs + 1) s.1
  writing_changes Packets s = place_changes (packets_place (length texts.outputs) (is_some texts.journal)) s
  writing_changes StandardOutput s = (λ c. append_out (take s.given texts.summary) (put_files (files_of job texts) c), s.new_is)

end_changes : (job : JobWords) (before after : Option Contents) (was now : Place → ℕ) (ending : Ending) → RunsSwitch job
    → IsEndOf job before was now after ending → IsChanged before after
end_changes job before after was now Done runs is = (put_texts job is.texts, is.written)
end_changes job before after was now Usage runs is = absurd is
end_changes job before after was now (ReadFault input) runs is = left_as_found before after is.1
end_changes job before after was now (TooLong input) runs is = left_as_found before after is.1
end_changes job before after was now (Refused fault) runs is = left_as_found before after is.1
end_changes job before after was now (JournalTooLong size) runs is = left_as_found before after is.1
end_changes job before after was now (PacketsTooLong size) runs is = left_as_found before after is.1
end_changes job before after was now OutOfMemory runs is = left_as_found before after is
end_changes job before after was now (WriteFault written) runs is = writing_changes job is.texts was now before after written is.stops
end_changes job before after was now (Checked ending) runs is = absurd (subst RunsSwitch is.is_check runs)

-- ---- so it is said of what was seen before

-- of the end of a job that reads, and then writes
pub held_end : (job : JobWords) (old mid new : Option Contents) (was now : Place → ℕ) (ending : Ending) → RunsSwitch job → Stays old mid
    → IsEndOf job mid was now new ending → IsEndOf job (held old new) was now new ending
held_end job old mid new was now ending runs stays is =
    subst (λ (o : Option Contents). IsEndOf job o was now new ending)
    (sym (held_after old mid new stays (end_changes job mid new was now ending runs is))) is

-- so a line that was given changes nothing of it
pub held_before_line : (text : List ℕ) (old mid new : Option Contents) (was now : ℕ) → GivesLine text mid new was now → held old mid ≡ held old new
held_before_line text old mid new was now line = sym (held_changed old mid new (append_err line.part, line.given))

-- of a line alone
pub held_line : (text : List ℕ) (old new : Option Contents) (was now : ℕ) → GivesLine text old new was now → GivesLine text (held old new) new was now
held_line text old new was now line =
    subst (λ (o : Option Contents). GivesLine text o new was now) (sym (held_after old old new (Stays-refl old) (append_err line.part, line.given))) line
