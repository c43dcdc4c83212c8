-- Why a slot that was read fails, or what it leaves.
use Rattle.std.proofs.Common.{◌≡◌, ℕ, ◌∙◌, Bool, List, length, take, Option, None, Some, sym, ap}
use Rattle.std.specs.List.{list_any}
use Rattle.std.specs.Option.{option_or}
use Rattle.slot_match.specs.declared.rows.Row.{Row}
use Rattle.slot_match.specs.declared.matching.Fed.{Fed}
use Rattle.slot_match.specs.Rows.{AreWithin}
use Rattle.pointer_state.specs.Places.{Places, AreAtPorts}
use Rattle.eslip_rounds.specs.Slots.{Decision}
use Rattle.eslip_rounds.specs.Schedulers.{Scheduler}
use Rattle.named_schedulers.specs.Named.{decision_named}
use Rattle.named_schedulers.proofs.Schedulers.{IsScheduler-named}
use Rattle.journal_check.specs.declared.slots.SlotRead.{SlotRead}
use Rattle.journal_check.specs.declared.verdict.Reason.{Reason}
use Rattle.journal_check.specs.declared.judge.Judge.{Judge}
use Rattle.journal_check.specs.Files.{FileSlot, rows_of, mores_of}
use Rattle.journal_check.specs.Lawful.{Before, decided_in, after_slot, post_failure, output_failure, failure_in}
use Rattle.journal_check.specs.Steps.{IsSlotRead, before_of}
use Rattle.journal_check.proofs.LawfulFiles.{no_output_failure}

-- the pointers after a slot are of as many ports
pub decided_ports : (judge : Judge) (n t : ℕ) (rows : List Row) (decision : Decision) → AreWithin n rows → AreAtPorts judge.pointers
    → judge.pointers.ports ≡ n → decision ≡ decision_named judge.scheduler n judge.rounds t rows judge.pointers → decision.places.ports ≡ n
decided_ports judge n t rows decision within at_ports ports same =
    ap (λ (d : Decision). d.places.ports) same
    ∙ ((IsScheduler-named judge.scheduler n judge.rounds t rows judge.pointers within at_ports ports).moved.1 ∙ ports)

module _ (scheduler : Scheduler) where
  module _ (n rounds t : ℕ) (before : Before) (read : SlotRead) (value : FileSlot) (is : IsSlotRead n read value) where
    posts_are : post_failure n before (take n read.rows) (take n read.more) ≡ post_failure n before (rows_of value) (mores_of value)
    posts_are = ap (λ (rows : List Row). post_failure n before rows (take n read.more)) is.rows ∙ ap (post_failure n before (rows_of value)) is.more

    outputs_are : (decided : List (Option Fed)) → decided ≡ (scheduler n rounds t (take n read.rows) before.places).matched
        → output_failure n (take n read.fed) decided ≡ output_failure n value.matched (decided_in scheduler n rounds t before value).matched
    outputs_are decided same =
        ap (λ (fed : List (Option Fed)). output_failure n fed decided) is.outputs
        ∙ ap (output_failure n value.matched) (same ∙ ap (λ (rows : List Row). (scheduler n rounds t rows before.places).matched) is.rows)

    pub posts_fail : (reason : Reason) → Some reason ≡ post_failure n before (take n read.rows) (take n read.more)
        → Some reason ≡ failure_in scheduler n rounds t before value
    unfolding failure_in
    posts_fail reason e =
        ap (λ (r : Option Reason). option_or r (output_failure n value.matched (decided_in scheduler n rounds t before value).matched)) (e ∙ posts_are)

    pub then_outputs : (outcome : Option Reason) (decided : List (Option Fed)) → None ≡ post_failure n before (take n read.rows) (take n read.more)
        → decided ≡ (scheduler n rounds t (take n read.rows) before.places).matched → outcome ≡ output_failure n (take n read.fed) decided
        → outcome ≡ failure_in scheduler n rounds t before value
    unfolding failure_in
    then_outputs outcome decided none same e =
        e ∙ outputs_are decided same
        ∙ ap (λ (r : Option Reason). option_or r (output_failure n value.matched (decided_in scheduler n rounds t before value).matched)) (none ∙ posts_are)

    -- what the slot leaves, if it may follow
    pub left : (new : Judge) → new.rows ≡ read.rows → new.going ≡ list_any (λ (more : Bool). more) (take n read.more)
        → new.pointers ≡ (scheduler n rounds t (take n read.rows) before.places).places
        → length (take n read.fed) ≡ n → length new.matched ≡ n → None ≡ output_failure n (take n read.fed) new.matched
        → before_of n new ≡ after_slot scheduler n rounds t before value
    unfolding after_slot
    left new rows going places long also none =
        let matched : take n read.fed ≡ new.matched = (no_output_failure n (take n read.fed) new.matched long also).0 (sym none) in
        let made : List Row → List (Option Fed) → Bool → Places → Before = λ r m g p. record { rows = r; matched = m; going = g; places = p } in
        ap (λ (r : List Row). made r new.matched new.going new.pointers) (ap (take n) rows ∙ is.rows)
        ∙ ap (λ (m : List (Option Fed)). made (rows_of value) m new.going new.pointers) (sym matched ∙ is.outputs)
        ∙ ap (λ (g : Bool). made (rows_of value) value.matched g new.pointers) (going ∙ ap (list_any (λ (more : Bool). more)) is.more)
        ∙ ap (made (rows_of value) value.matched (list_any (λ (more : Bool). more) (mores_of value)))
        (places ∙ ap (λ (r : List Row). (scheduler n rounds t r before.places).places) is.rows)
