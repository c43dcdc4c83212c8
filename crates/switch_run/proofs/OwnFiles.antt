-- The files that a job reads are its own.
use Rattle.std.proofs.Common.{◌≡◌, get_or, Some, true, refl, subst, sym}
use Rattle.std.specs.Prelude.{bytes_eq, ◌||◌}
use Rattle.std.specs.List.{list_any}
use Rattle.std.proofs.lemmas.Bool.{or_right}
use Rattle.std.proofs.lemmas.List.Folds.{list_any_at}
use Rattle.outside.proofs.Effects.{bytes_eq-same}
use Rattle.switch_words.specs.Reading.{run, check, firm, RunWords, CheckWords, FirmWords}
use Rattle.job_files.specs.Jobs.{AreNamed, ReadWords, run_reads, firm_reads}
use Rattle.switch_run.specs.Endings.{is_own}

are_named : (r : ReadWords) → AreNamed (λ name. bytes_eq name r.table || list_any (bytes_eq name) r.inputs) r
are_named r = (
  rw (bytes_eq-same r.table) refl,
  λ k d inside.
      let name = get_or r.inputs k d in
      or_right (bytes_eq name r.table) (list_any (bytes_eq name) r.inputs) (list_any_at (bytes_eq name) r.inputs k d inside (bytes_eq-same name)),
)

pub run_owns : (r : RunWords) (reads : ReadWords) → reads ≡ run_reads r → AreNamed (is_own (Some (run r))) reads
run_owns r reads are = subst (AreNamed (is_own (Some (run r)))) (sym are) (are_named (run_reads r))

pub firm_owns : (f : FirmWords) (reads : ReadWords) → reads ≡ firm_reads f → AreNamed (is_own (Some (firm f))) reads
firm_owns f reads are = subst (AreNamed (is_own (Some (firm f)))) (sym are) (are_named (firm_reads f))

pub check_owns : (c : CheckWords) → is_own (Some (check c)) c.file ≡ true
check_owns c = bytes_eq-same c.file
