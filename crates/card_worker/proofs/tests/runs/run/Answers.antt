use Rattle.std.proofs.Common.{◌≡◌, ◌∙◌, ℕ, List, ◌++◌, length, take, drop, ap, sym, subst}
use Rattle.std_lemmas.proofs.Lists.{whole_back}
use Rattle.slot_histories.specs.declared.events.Event.{Event}
use Rattle.turn_lock.specs.Seats.{TurnValue}
use Rattle.card_worker.specs.declared.hands.Group.{Group}
use Rattle.card_worker.specs.Groups.{AreGroups}
use Rattle.card_worker.proofs.tests.runs.run.Goals as goal

lent : (board : TurnValue Event) (slice groups : List Group) → slice ≡ groups → AreGroups board board.seats groups → AreGroups board board.seats slice
lent board slice groups value are = subst (AreGroups board board.seats) (sym value) are

back : (board : TurnValue Event) (k : ℕ) (new old slice : List Group) → k ≡ length old → length new ≡ length slice → slice ≡ old
    → AreGroups board board.seats new → AreGroups board board.seats (take k (new ++ drop (length new) old))
back board k new old slice all same value are = subst (AreGroups board board.seats) (sym (whole_back k new old all (same ∙ ap length value))) are

pub drive_groups-requires-clause-groups : goal.drive_groups-requires-clause-groups
drive_groups-requires-clause-groups g c κs within = lent _ _ _ c.deref_mut.ensures.value c.loop.invariant

pub loop-preserved : goal.loop-preserved
loop-preserved g c = back _ c.loop.groups.len c.drive_groups.new.groups c.loop.groups.items _ c.loop.groups.ok.0 c.drive_groups.auto.groups
    c.deref_mut.ensures.value c.drive_groups.ensures
