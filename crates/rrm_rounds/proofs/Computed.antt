-- The pointers and the decision that are computed are those of the definition.
use Rattle.std.proofs.Common.{◌≡◌, ℕ, ◌∙◌, List, Option, None, Some, map, sym, ap, subst, arith}
use Rattle.std.specs.Bool.{Decides}
use Rattle.rotating_pick.specs.declared.kinds.Kind.TheVariants.{Uni}
use Rattle.slot_match.specs.declared.rows.Row.{Row}
use Rattle.slot_match.specs.declared.matching.Fed.{Fed}
use Rattle.slot_match.specs.Rows.{AreWithin}
use Rattle.slot_match.specs.Matches.{unmatched, fed_of, IsMatch}
use Rattle.slot_match.proofs.Kept.{IsMatch-unmatched}
use Rattle.pointer_state.specs.Places.{Places, AreAtPorts, ArePointing, grant_of}
use Rattle.eslip_rounds.specs.Slots.{Decision, AreMoved}
use Rattle.eslip_rounds.specs.Decisions.{ports, is_fed, granted, moved_by, places_after}
use Rattle.eslip_rounds.proofs.Testing.{Decides-fed}
use Rattle.eslip_rounds.proofs.Choosing.{level_asked}
use Rattle.eslip_rounds.proofs.FirstRounds.{grants_once}
use Rattle.eslip_rounds.proofs.Finding.{finds_port, finds_no_port}
use Rattle.eslip_rounds.proofs.Granting.{Serves-granted}
use Rattle.eslip_rounds.proofs.Placing.{IsTable-table_of, table_at, table_stays}
use Rattle.eslip_rounds.proofs.Settling.{AreMoved-places_after, AreAtPorts-places_after, IsSlotBy-decision_by, AreAtPorts-decision_by}
use Rattle.rrm_rounds.specs.Slots.{IsGrantedFirst, AreMovedByRrm, IsRrmSlot}
use Rattle.rrm_rounds.specs.Decisions.{granted_first, rrm_granted, rrm_places_after, rrm_decision}
use Rattle.rrm_rounds.proofs.PointersKept.{rrm_keep}
use Rattle.rrm_rounds.proofs.OneDecision.{IsRrmSlot-only}

module _ (n t : ℕ) (rows : List Row) (before : Places) (within : AreWithin n rows) (at_ports : AreAtPorts before) (ports_are : before.ports ≡ n) where
  -- the test says whether an output grants an input
  Decides-granted : (i j level : ℕ)
      → Decides (is_fed i level Uni (fed_of (map (granted n t rows before (unmatched n)) (ports n)) j)) (IsGrantedFirst n t rows before i j level)
  Decides-granted i j level =
      let grant = fed_of (map (granted n t rows before (unmatched n)) (ports n)) j in
      let serves = Serves-granted n t rows before (unmatched n) (IsMatch-unmatched n) at_ports ports_are i j level Uni in
      let test = Decides-fed i level Uni grant in
      (λ e. serves.0 (test.0 e), λ g. test.1 (serves.1 g))

  -- the input that output j grants, if it grants one
  granted_by : ℕ → ℕ → Option ℕ
  granted_by = granted_first n t rows before

  finds_granted : (i j level : ℕ) → IsGrantedFirst n t rows before i j level → granted_by level j ≡ Some i
  unfolding granted_by
  finds_granted i j level g =
      finds_port (λ x. is_fed x level Uni (fed_of (map (granted n t rows before (unmatched n)) (ports n)) j)) n i g.first.below
      ((Decides-granted i j level).1 g)
      (λ y e. grants_once n t rows before at_ports ports_are y i j level ((Decides-granted y j level).0 e) g)

  finds_nobody : (j level : ℕ) → ((i : ℕ) → IsGrantedFirst n t rows before i j level → ⊥) → granted_by level j ≡ None
  unfolding granted_by
  finds_nobody j level nobody =
      finds_no_port (λ x. is_fed x level Uni (fed_of (map (granted n t rows before (unmatched n)) (ports n)) j)) n
      (λ y e. nobody y ((Decides-granted y j level).0 e))

  grant_at : ℕ → ℕ → ℕ
  grant_at level j = moved_by n (granted_by level j) (grant_of before j level)

  module _ (first_match matched : List (Option Fed)) (whole : IsMatch n first_match) where
    as_first : AreMoved n t rows first_match matched before (places_after n rows first_match matched before)
    as_first = AreMoved-places_after n t rows first_match matched before within whole at_ports ports_are

    -- the pointers that are computed are moved so
    AreMovedByRrm-computed : AreMovedByRrm n t rows first_match matched before (rrm_places_after n t rows first_match matched before)
    unfolding rrm_granted grant_at granted_by
    AreMovedByRrm-computed =
        record {
          ports = as_first.ports;
          granted = λ i j level g.
              table_at grant_at level j (level_asked rows (unmatched n) i j level Uni g.first.member)
              (let j_in = g.output_in in let size = at_ports.size in omega arith)
              ∙ ap (λ o. moved_by n o (grant_of before j level)) (finds_granted i j level g);
          grant_stays = λ j level nobody.
              table_stays grant_at before.grant at_ports.grant_table level j (ap (λ o. moved_by n o (grant_of before j level)) (finds_nobody j level nobody));
          accepted = as_first.accepted;
          accept_stays = as_first.accept_stays;
          passed = as_first.passed;
          shared_stays = as_first.shared_stays;
        }

    -- and they are at ports
    AreAtPorts-computed : AreAtPorts (rrm_places_after n t rows first_match matched before)
    unfolding rrm_granted grant_at granted_by
    AreAtPorts-computed =
        let moved_at = AreAtPorts-places_after n t rows first_match matched before within whole at_ports ports_are in
        let after = rrm_places_after n t rows first_match matched before in
        record {
          some = moved_at.some;
          size = moved_at.size;
          grant_table = IsTable-table_of grant_at;
          accept_table = moved_at.accept_table;
          shared_levels = moved_at.shared_levels;
          pointing = λ level level_in.
              let here : ArePointing n level before = subst (λ k. ArePointing k level before) ports_are (at_ports.pointing level level_in) in
              let there : ArePointing n level after = rrm_keep n level t rows first_match matched before after whole.count within here AreMovedByRrm-computed in
              subst (λ k. ArePointing k level after) (sym (as_first.ports ∙ ports_are)) there;
        }

  -- what is computed is what the slot decides
  pub IsRrmSlot-rrm_decision : (rounds : ℕ) → IsRrmSlot n rounds t rows before (rrm_decision n rounds t rows before)
  unfolding rrm_decision
  IsRrmSlot-rrm_decision = IsSlotBy-decision_by n t rows before within at_ports ports_are rrm_places_after AreMovedByRrm
      (λ first_match matched whole accepted. AreMovedByRrm-computed first_match matched whole)

  pub AreAtPorts-rrm_decision : (rounds : ℕ) → AreAtPorts (rrm_decision n rounds t rows before).places
  unfolding rrm_decision
  AreAtPorts-rrm_decision = AreAtPorts-decision_by n t rows before within at_ports ports_are rrm_places_after
      (λ first_match matched whole accepted. AreAtPorts-computed first_match matched whole)

  -- every decision of the slot is the one that is computed
  pub rrm_decision-only : (rounds : ℕ) (a : Decision) → AreAtPorts a.places → IsRrmSlot n rounds t rows before a → a ≡ rrm_decision n rounds t rows before
  rrm_decision-only rounds a a_in slot =
      IsRrmSlot-only n t rows before within at_ports ports_are rounds a (rrm_decision n rounds t rows before) a_in (AreAtPorts-rrm_decision rounds) slot
      (IsRrmSlot-rrm_decision rounds)
