use Rattle.std.proofs.Common.{◌≡◌, ◌∙◌, get_or, ap}
use Rattle.std.specs.Prelude.{Some, slice_get}
use Rattle.std.proofs.lemmas.Option.{slice_get-get_or}
use Rattle.card_worker.proofs.Removing.{left_among, rest_among}
use Rattle.card_worker.proofs.disbandment.take_card.Goals as goal

pub returns-clause-was : goal.returns-clause-was
returns-clause-was c =
    let groups = c.args.groups.now in
    let p = c.place_of-place.result.0 in
    let group = get_or groups p c.index-groups-place.result in
    let found : slice_get groups p ≡ Some group = slice_get-get_or groups p c.index-groups-place.result c.place_of-place.ensures.place in
    record {
      place = p;
      group = group;
      within = c.place_of-place.result.1;
      found = found;
      at = slice_get-get_or group.members.items c.place_of-place.result.1 c.remove.result (c.place_of-place.ensures.within group found)
          ∙ ap Some (let value = c.remove.ensures.value in cc);
    }

pub returns-clause-left : goal.returns-clause-left
returns-clause-left c =
    let groups = c.args.groups.now in
    let p = c.place_of-place.result.0 in
    let group = get_or groups p c.index-groups-place.result in
    let found : slice_get groups p ≡ Some group = slice_get-get_or groups p c.index-groups-place.result c.place_of-place.ensures.place in
    left_among groups p c.place_of-place.result.1 group _ found c.remove.ensures.items

pub returns-clause-rest : goal.returns-clause-rest
returns-clause-rest c =
    let groups = c.args.groups.now in
    let p = c.place_of-place.result.0 in
    let group = get_or groups p c.index-groups-place.result in
    let found : slice_get groups p ≡ Some group = slice_get-get_or groups p c.index-groups-place.result c.place_of-place.ensures.place in
    rest_among groups p c.place_of-place.result.1 group _ found c.remove.ensures.items c.args.card (λ m at. c.place_of-place.ensures.number group m found at)
