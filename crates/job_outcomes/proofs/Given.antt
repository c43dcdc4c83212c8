-- What a job is given has one outcome.
use Rattle.std.proofs.Common.{◌≡◌, ◌<◌, ◌≤◌, ◌^◌, ℕ, Bool, true, false, List, length, All, Some, refl, sym, subst, arith}
use Rattle.std.specs.Prelude.{slice_index_or}
use Rattle.switch_words.specs.declared.job.GenJob.{GenJob}
use Rattle.switch_words.specs.Reading.{JobWords, run, gen, check, firm, reading_of}
use Rattle.switch_plan.specs.Made.{made_captures, made_table}
use Rattle.job_files.specs.Jobs.{capture_bytes}
use Rattle.job_files.proofs.MadeSizes.{made_of_size}
use Rattle.job_outcomes.specs.Outcomes.{AreBytes, HasOneOutcome, IsByteFile, IsGiven}
use Rattle.job_outcomes.proofs.JobLimits.{firm_within, gen_within, run_within}
use Rattle.job_outcomes.proofs.MadeBytes.{made_bytes}
use Rattle.job_outcomes.proofs.Outcomes.{firm_has_one, gen_has_one, run_has_one}
use Rattle.job_outcomes.proofs.Plans.{refused_or_planned}

-- captures that are not too long for a job can be read
capture_short : (long : Bool) (size : ℕ) → size ≤ capture_bytes long → size < 2 ^ 32
capture_short true size fits = omega arith
capture_short false size fits = omega arith

byte_files : (long : Bool) (captures : List (List ℕ)) → All AreBytes captures → All (λ bytes. length bytes ≤ capture_bytes long) captures
    → All IsByteFile captures
byte_files long captures bytes fit k d inside =
    record { bytes = bytes k d inside; short = capture_short long (length (slice_index_or captures k d)) (fit k d inside) }

pub made_has_one : (words : List (List ℕ)) (g : GenJob) → reading_of words ≡ Some (gen g) → HasOneOutcome (gen g) (made_table g.ports) (made_captures g)
made_has_one words g mean =
    let limits = gen_within words g mean in
    let size = made_of_size g (made_table g.ports) (made_captures g) limits.ports.some limits.ports.most limits.count refl refl in
    let bytes = made_bytes g limits.ports.some limits.ports.most in
    gen_has_one g (made_table g.ports) (made_captures g)
    (refused_or_planned g.settings limits.settings (made_table g.ports) (made_captures g) size.ports.some size.ports.most
    (λ k d inside. record { bytes = bytes k d inside; short = size.captures_fit k d inside }))

pub given_has_one : (words : List (List ℕ)) (job : JobWords) (table : List ℕ) (captures : List (List ℕ)) → IsGiven words job table captures
    → HasOneOutcome job table captures
given_has_one words (run r) table captures is =
    let limits = run_within words r is.words_mean in
    let read = is.inputs.captures_read in
    let count = read.count in
    let some = limits.1.some in
    let few = limits.1.most in
    run_has_one r table captures
    (refused_or_planned r.settings limits.0 table captures (omega arith) (omega arith) (byte_files r.settings.long captures is.bytes read.fit))
given_has_one words (gen g) table captures is =
    subst (λ files. HasOneOutcome (gen g) table files) (sym is.inputs.1)
    (subst (λ text. HasOneOutcome (gen g) text (made_captures g)) (sym is.inputs.0) (made_has_one words g is.words_mean))
given_has_one words (check c) table captures is = absurd is.inputs
given_has_one words (firm f) table captures is =
    let limits = firm_within words f is.words_mean in
    let read = is.inputs.captures_read in
    let count = read.count in
    let some = limits.1.some in
    let few = limits.1.most in
    firm_has_one f table captures
    (refused_or_planned f.settings limits.0 table captures (omega arith) (omega arith) (byte_files f.settings.long captures is.bytes read.fit))
