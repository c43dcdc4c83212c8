use Rattle.std.proofs.Common.{◌≡◌, ◌∙◌, ◌<◌, ℕ, List, Some, length, take, ap, sym, subst, arith}
use Rattle.std.specs.Prelude.{slice_get}
use Rattle.std.proofs.lemmas.List.{length-take, get_or-take}
use Rattle.std.proofs.lemmas.Option.{slice_get_within, slice_get-get_or, get_or_from_slice_get}
use Rattle.card_worker.specs.declared.hands.Group.{Group}
use Rattle.switch_jobs.specs.ReadinessSteps.{AreEmptyGroups, HaveRoomFor}
use Rattle.switch_jobs.proofs.groups.for_processors.Goals as goal

-- a group that is among the first ones
among_first : (count place : ℕ) (groups : List Group) (group : Group) → slice_get (take count groups) place ≡ Some group → slice_get groups place ≡ Some group
among_first count place groups group at =
    let inside : place < length (take count groups) = slice_get_within (take count groups) place group at in
    let below : place < count = omega (arith, inside, length-take count groups) in
    let within : place < length groups = omega (arith, inside, length-take count groups) in
    slice_get-get_or groups place group within
    ∙ ap Some (sym (get_or-take count groups place group below) ∙ get_or_from_slice_get (take count groups) place group group at)

pub returns-clause-some : goal.returns-clause-some
returns-clause-some g c =
    let some = c.requires.some in
    let most = c.max.ensures in
    let first = ap length c.truncate.ensures.items in
    omega (arith, length-take c.max.result c.args.groups.items)

pub returns-clause-empty : goal.returns-clause-empty
returns-clause-empty g c =
    subst AreEmptyGroups (sym c.truncate.ensures.items)
    (λ place group at. c.requires.empty place group (among_first c.max.result place c.args.groups.items group at))

pub returns-clause-room : goal.returns-clause-room
returns-clause-room g c = λ room have.
    subst (HaveRoomFor room) (sym c.truncate.ensures.items) (λ place group at. have place group (among_first c.max.result place c.args.groups.items group at))
