-- At which status a command ends after a refused call.
use Rattle.std.proofs.Common.{◌≡◌, ◌⊎◌, ℕ, false, refl, inl, inr, arith}
use Rattle.outside.specs.Faults.{Place, ReadOf, BeginOf, WriteOf, ToOut, ToErr, OnlyRose, of_err, of_reads, of_writes}
use Rattle.job_files.specs.Checks as Checks
use Rattle.job_files.specs.declared.check_ending.CheckEnding.{CheckEnding}
use Rattle.job_files.specs.declared.check_ending.CheckEnding.TheVariants as check_ending
use Rattle.job_files.specs.Statuses.{EndsAt, RefusedCallsEnd, check_status, refused_by, status_of}
use Rattle.job_files.specs.declared.ending.Ending.{Ending}
use Rattle.job_files.specs.declared.ending.Ending.TheVariants.{Done, Usage, ReadFault, TooLong, Refused, JournalTooLong, PacketsTooLong, OutOfMemory}
use Rattle.job_files.specs.declared.ending.Ending.TheVariants.{WriteFault, Checked}

after_read : (p : Place) → (of_reads p ≡ false) ⊎ EndsAt p 3
after_read (ReadOf name) = inr refl
after_read (BeginOf name) = inl refl
after_read (WriteOf name) = inl refl
after_read ToOut = inl refl
after_read ToErr = inl refl

after_write : (p : Place) → (of_writes p ≡ false) ⊎ EndsAt p 6
after_write (ReadOf name) = inl refl
after_write (BeginOf name) = inr refl
after_write (WriteOf name) = inr refl
after_write ToOut = inr refl
after_write ToErr = inl refl

after_err : (p : Place) (status : ℕ) → (of_err p ≡ false) ⊎ EndsAt p status
after_err (ReadOf name) status = inl refl
after_err (BeginOf name) status = inl refl
after_err (WriteOf name) status = inl refl
after_err ToOut status = inl refl
after_err ToErr status = inr tt

after_check : (ending : CheckEnding) (p : Place) → (Checks.refused_by ending p ≡ false) ⊎ EndsAt p (check_status ending)
after_check check_ending.Yes p = inl refl
after_check (check_ending.No slot reason) p = inl refl
after_check (check_ending.Bad at) p = inl refl
after_check check_ending.TooLong p = inl refl
after_check check_ending.ReadFault p = after_read p
after_check check_ending.OutOfMemory p = inl refl
after_check check_ending.OutFault p = after_write p

after_call : (ending : Ending) (p : Place) → (refused_by ending p ≡ false) ⊎ EndsAt p (status_of ending)
after_call Done p = inl refl
after_call Usage p = inl refl
after_call (ReadFault input) p = after_read p
after_call (TooLong input) p = inl refl
after_call (Refused fault) p = inl refl
after_call (JournalTooLong size) p = inl refl
after_call (PacketsTooLong size) p = inl refl
after_call OutOfMemory p = inl refl
after_call (WriteFault written) p = after_write p
after_call (Checked ending) p = after_check ending p

-- where none rose but those of the calls that end a command so, and then but that of standard error
pub refused_calls_end : (ending : Ending) (was mid now : Place → ℕ) → OnlyRose (refused_by ending) was mid → OnlyRose of_err mid now
    → RefusedCallsEnd was now (status_of ending)
refused_calls_end ending was mid now first then p rose =
    elim (after_err p (status_of ending)) [
      | inr spared ↦ spared
      | inl other ↦ elim (after_call ending p) [
        | inr ends ↦ ends
        | inl none ↦ absurd (omega (arith, first p none, then p other, rose))
      ]
    ]

-- the same where a line is all that was given
pub line_alone : (ending : Ending) (was now : Place → ℕ) → OnlyRose of_err was now → RefusedCallsEnd was now (status_of ending)
line_alone ending was now only = refused_calls_end ending was was now (λ p none. refl) only
