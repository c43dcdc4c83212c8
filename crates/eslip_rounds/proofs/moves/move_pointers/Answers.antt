use Rattle.std.proofs.Common.{ℕ, ◌+◌, ◌%◌, ◌<◌, ◌∙◌, ap, inl, inr}
use Rattle.std.proofs.lemmas.Bool.{cases_lt}
use Rattle.rotating_pick.specs.declared.kinds.Kind.TheVariants.{Uni, Multi}
use Rattle.rotating_pick.specs.declared.limits.TheConstants.{LEVELS}
use Rattle.slot_match.specs.Matches.{Serves}
use Rattle.eslip_rounds.proofs.Meeting.{AreMet-along, IsPassed-from}
use Rattle.eslip_rounds.proofs.Running.{once_unicast}
use Rattle.eslip_rounds.proofs.moves.move_pointers.Goals as goal

pub meet-requires-clause-once : goal.meet-requires-clause-once
meet-requires-clause-once c i j k level has also s r = once_unicast c.args.n c.args.matched.now c.requires.whole i j k level s r

pub returns-clause-moved : goal.returns-clause-moved
returns-clause-moved c t first_match pairs =
    let places = c.args.p.now in
    let middle = c.meet.new.p in
    let met = AreMet-along _ (λ i j level. Serves first_match i j level Uni) places middle pairs c.meet.ensures.met in
    let passes = c.pass_all.ensures in
    let around = λ (x : ℕ). ap (λ m. (x + 1) % m) c.requires.ports in
    let same = λ (level : ℕ) (level_in : level < LEVELS). IsPassed-from c.args.n c.args.rows.now c.args.matched.now middle places c.pass_all.new.p level
    (met.shared level) (passes.passed level level_in) in
    record {
      ports = passes.ports ∙ met.ports;
      granted = λ i j level s. passes.grants j level ∙ (met.granted i j level s ∙ around i);
      accepted = λ i j level s. passes.accepts i level ∙ (met.accepted i j level s ∙ around j);
      grant_stays = λ j level none. passes.grants j level ∙ met.grant_stays j level none;
      accept_stays = λ i level none. passes.accepts i level ∙ met.accept_stays i level none;
      passed = λ i level f done. (same level (c.requires.rows.levels i f.below level f.member.0 Multi f.member.1)).passed i f done;
      shared_stays = λ level none. elim (cases_lt level LEVELS) [
        | inl below ↦ (same level below).stays none
        | inr above ↦ passes.beyond level above ∙ met.shared level
      ];
    }
