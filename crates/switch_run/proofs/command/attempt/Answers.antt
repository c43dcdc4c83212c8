use Rattle.std.proofs.Common.{Some, refl}
use Rattle.outside.specs.Contents.{Contents}
use Rattle.outside.proofs.Counting.{NeverFall-trans}
use Rattle.outside.proofs.Staying.{Stays-refl}
use Rattle.switch_words.specs.Reading.{run, gen, firm, run_words, firm_words}
use Rattle.switch_run.specs.Endings.{is_own}
use Rattle.switch_run.specs.MakingSteps.{Makes}
use Rattle.switch_run.proofs.Held.{held_end, no_files}
use Rattle.switch_run.proofs.ToWrite.{few_texts, gen_makes}
use Rattle.switch_run.proofs.command.attempt.Goals as goal

pub end_of_writing-requires : goal.end_of_writing-requires
end_of_writing-requires g c =
    let seen = g.F.Files.seen no_files c.texts_of_run.new.files in
    few_texts (run (run_words c.in-Run.job)) seen c.texts_of_run.result (c.texts_of_run.ensures.made no_files)

pub returns-in-Run : goal.returns-in-Run
returns-in-Run g c =
    let see = g.F.Files.seen in
    let counts = g.F.Files.faults in
    let job = run (run_words c.in-Run.job) in
    let is = c.texts_of_run.ensures in
    let then = c.end_of_writing.ensures in
    let was = c.args.files.now in
    let mid = c.texts_of_run.new.files in
    let left = c.end_of_writing.new.files in
    let makes : (d : Contents) → Makes job (see d mid) (counts was) (counts mid) (see d mid) c.texts_of_run.result = λ d.
    record { runs = tt; new_is = refl; never_fall = is.never_fall; no_fault = is.no_fault; refused = is.refused; texts = is.made d; stops = is.stops d } in
    record {
      meaning = λ d. rw c.in-Run.is
          (held_end job (see d was) (see d mid) (see d left) (counts was) (counts left) c.end_of_writing.result tt (is.seen d)
          (then.meaning d job (see d mid) (counts was) (makes d)));
      own = λ d e. rw c.in-Run.is (λ alike. then.own (is_own (Some job)) d e (is.own d e alike));
      no_fault = then.no_fault no_files job (see no_files mid) (counts was) (makes no_files);
      refused = then.refused no_files job (see no_files mid) (counts was) (makes no_files);
      never_fall = NeverFall-trans _ _ _ is.never_fall then.never_fall;
    }

pub end_of_writing-requires-in-Gen : goal.end_of_writing-requires-in-Gen
end_of_writing-requires-in-Gen g c =
    let seen = g.F.Files.seen no_files c.args.files.now in
    let counts = g.F.Files.faults c.args.files.now in
    few_texts (gen c.in-Gen.job) seen c.texts_of_gen.result
    (gen_makes c.in-Gen.job seen counts c.texts_of_gen.result c.texts_of_gen.ensures.made c.texts_of_gen.ensures.stops).texts

pub returns-in-Gen : goal.returns-in-Gen
returns-in-Gen g c =
    let see = g.F.Files.seen in
    let counts = g.F.Files.faults in
    let job = gen c.in-Gen.job in
    let then = c.end_of_writing-in-Gen.ensures in
    let was = c.args.files.now in
    let left = c.end_of_writing-in-Gen.new.files in
    let makes : (d : Contents) → Makes job (see d was) (counts was) (counts was) (see d was) c.texts_of_gen.result = λ d.
    gen_makes c.in-Gen.job (see d was) (counts was) c.texts_of_gen.result c.texts_of_gen.ensures.made c.texts_of_gen.ensures.stops in
    record {
      meaning = λ d. rw c.in-Gen.is
          (held_end job (see d was) (see d was) (see d left) (counts was) (counts left) c.end_of_writing-in-Gen.result tt (Stays-refl (see d was))
          (then.meaning d job (see d was) (counts was) (makes d)));
      own = λ d e. rw c.in-Gen.is (λ alike. then.own (is_own (Some job)) d e alike);
      no_fault = then.no_fault no_files job (see no_files was) (counts was) (makes no_files);
      refused = then.refused no_files job (see no_files was) (counts was) (makes no_files);
      never_fall = then.never_fall;
    }

pub returns-in-Check-clause-meaning : goal.returns-in-Check-clause-meaning
returns-in-Check-clause-meaning g c d = rw c.in-Check.is (c.end_of_check.ensures.meaning d)

pub returns-in-Check-clause-own : goal.returns-in-Check-clause-own
returns-in-Check-clause-own g c d e = rw c.in-Check.is (c.end_of_check.ensures.own d e)

pub end_of_writing-requires-in-Firm : goal.end_of_writing-requires-in-Firm
end_of_writing-requires-in-Firm g c =
    let seen = g.F.Files.seen no_files c.texts_of_firm.new.files in
    few_texts (firm (firm_words c.in-Firm.job)) seen c.texts_of_firm.result (c.texts_of_firm.ensures.made no_files)

pub returns-in-Firm : goal.returns-in-Firm
returns-in-Firm g c =
    let see = g.F.Files.seen in
    let counts = g.F.Files.faults in
    let job = firm (firm_words c.in-Firm.job) in
    let is = c.texts_of_firm.ensures in
    let then = c.end_of_writing-in-Firm.ensures in
    let was = c.args.files.now in
    let mid = c.texts_of_firm.new.files in
    let left = c.end_of_writing-in-Firm.new.files in
    let makes : (d : Contents) → Makes job (see d mid) (counts was) (counts mid) (see d mid) c.texts_of_firm.result = λ d.
    record { runs = tt; new_is = refl; never_fall = is.never_fall; no_fault = is.no_fault; refused = is.refused; texts = is.made d; stops = is.stops d } in
    record {
      meaning = λ d. rw c.in-Firm.is
          (held_end job (see d was) (see d mid) (see d left) (counts was) (counts left) c.end_of_writing-in-Firm.result tt (is.seen d)
          (then.meaning d job (see d mid) (counts was) (makes d)));
      own = λ d e. rw c.in-Firm.is (λ alike. then.own (is_own (Some job)) d e (is.own d e alike));
      no_fault = then.no_fault no_files job (see no_files mid) (counts was) (makes no_files);
      refused = then.refused no_files job (see no_files mid) (counts was) (makes no_files);
      never_fall = NeverFall-trans _ _ _ is.never_fall then.never_fall;
    }
