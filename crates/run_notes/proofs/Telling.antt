-- The texts of a run, and why they are not made.
use Rattle.std.proofs.Common.{◌≡◌, ◌≤◌, ◌∙◌, ℕ, Bool, true, List, Option, None, Some, IfSome, length, ap, subst, sym}
use Rattle.std.specs.Prelude.{Result, Ok, Err, IfErr}
use Rattle.std.specs.Result.{IsErrAnd}
use Rattle.std.specs.Prelude.{if◌then◌else◌}
use Rattle.eslip_rounds.specs.Schedulers.{Scheduler}
use Rattle.switch_plan.specs.GoodPlans.{SwitchPlan}
use Rattle.journal_check.specs.declared.limits.TheConstants.{MAX_JOURNAL_BYTES}
use Rattle.packet_times.specs.Rows.{packets_text_under}
use Rattle.run_journals.specs.RunFiles.{journal_text_under}
use Rattle.run_notes.specs.declared.wanted.Wanted.{Wanted}
use Rattle.run_notes.specs.declared.texts.NotesFault.{NotesFault}
use Rattle.run_notes.specs.declared.texts.NotesFault.TheVariants.{JournalTooLong, PacketsTooLong, OutOfMemory}
use Rattle.run_notes.specs.NotingSteps.{StopsJournal, StopsPackets, StopsTold}
use Rattle.run_notes.specs.Told.{Told}

-- the same texts, one by one
pub told_same : (x y : Told) → x.slots ≡ y.slots → x.journal ≡ y.journal → x.reference ≡ y.reference → x.queues ≡ y.queues → x.packets ≡ y.packets → x ≡ y
told_same x y slots journal reference queues packets =
    let told : List ℕ → Option (List ℕ) → List ℕ → List ℕ → Option (List ℕ) → Told =
    λ s j r q p. record { slots = s; journal = j; reference = r; queues = q; packets = p } in
    ap (λ s. told s x.journal x.reference x.queues x.packets) slots ∙ ap (λ j. told y.slots j x.reference x.queues x.packets) journal
    ∙ ap (λ r. told y.slots y.journal r x.queues x.packets) reference ∙ ap (λ q. told y.slots y.journal y.reference q x.packets) queues
    ∙ ap (told y.slots y.journal y.reference y.queues) packets

-- a journal that is wanted and made is short enough
pub fits_where_wanted : (is_wanted : Bool) (bytes : Option (List ℕ)) (text : List ℕ) → bytes ≡ (if is_wanted then Some text else None)
    → IfSome bytes (λ b. length b ≤ MAX_JOURNAL_BYTES) → is_wanted ≡ true → length text ≤ MAX_JOURNAL_BYTES
fits_where_wanted is_wanted bytes text is small wanted =
    let there : bytes ≡ Some text = is ∙ ap (λ (b : Bool). if b then Some text else None) wanted in
    subst (λ (o : Option (List ℕ)). IfSome o (λ b. length b ≤ MAX_JOURNAL_BYTES)) there small

-- what is passed on is the same fault
pub passed_on : {T : Type 0} (r : Result T NotesFault) (fault : NotesFault) (P : NotesFault → Type 0) → IsErrAnd r (λ e. e ≡ fault) → P fault → IfErr r P
passed_on (Ok x) fault P is p = tt
passed_on (Err e) fault P is p = subst P (sym is) p

pub journal_stops : (scheduler : Scheduler) (wanted : Wanted) (long : Bool) (plan : SwitchPlan) (slots : ℕ) (fault : NotesFault)
    → StopsJournal wanted.journal (journal_text_under scheduler plan slots) fault → StopsTold scheduler wanted long plan slots fault
journal_stops scheduler wanted long plan slots (JournalTooLong size) stops = stops
journal_stops scheduler wanted long plan slots (PacketsTooLong size) stops = absurd stops
journal_stops scheduler wanted long plan slots OutOfMemory stops = tt

pub packets_stop : (scheduler : Scheduler) (wanted : Wanted) (long : Bool) (plan : SwitchPlan) (slots : ℕ) (fault : NotesFault)
    → (wanted.journal ≡ true → length (journal_text_under scheduler plan slots) ≤ MAX_JOURNAL_BYTES)
    → StopsPackets wanted.packets long (packets_text_under scheduler plan slots) fault → StopsTold scheduler wanted long plan slots fault
packets_stop scheduler wanted long plan slots (JournalTooLong size) fits stops = absurd stops
packets_stop scheduler wanted long plan slots (PacketsTooLong size) fits (short, is_wanted, is, longer) = (short, is_wanted, is, longer, fits)
packets_stop scheduler wanted long plan slots OutOfMemory fits stops = tt
