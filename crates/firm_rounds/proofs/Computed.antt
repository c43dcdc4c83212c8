-- The pointers and the decision that are computed are those of the definition.
use Rattle.std.proofs.Common.{◌≡◌, ℕ, ◌<◌, ◌∙◌, not, List, Option, None, Some, map, refl, sym, ap, subst, inl, inr, arith}
use Rattle.std.specs.Bool.{Decides}
use Rattle.std.specs.List.{find}
use Rattle.std.specs.Option.{unwrap_or}
use Rattle.std.proofs.lemmas.Bool.Decides.{Decides-and, Decides-not}
use Rattle.rotating_pick.specs.declared.kinds.Kind.TheVariants.{Uni}
use Rattle.rotating_pick.specs.declared.limits.TheConstants.{LEVELS}
use Rattle.slot_match.specs.declared.rows.Row.{Row}
use Rattle.slot_match.specs.declared.matching.Fed.{Fed}
use Rattle.slot_match.specs.Rows.{AreWithin}
use Rattle.slot_match.specs.Matches.{unmatched, fed_of, IsMatch}
use Rattle.slot_match.proofs.Kept.{IsMatch-unmatched, nobody_at_first}
use Rattle.pointer_state.specs.Places.{Places, AreAtPorts, ArePointing, grant_of}
use Rattle.eslip_rounds.specs.Slots.{Decision, AreMoved, IsRefused}
use Rattle.eslip_rounds.specs.Decisions.{ports, is_fed, granted, round_of, places_after, is_refused}
use Rattle.eslip_rounds.proofs.Testing.{Decides-fed}
use Rattle.eslip_rounds.proofs.Choosing.{level_asked}
use Rattle.eslip_rounds.proofs.FirstRounds.{AreAccepted, grants_once}
use Rattle.eslip_rounds.proofs.Finding.{finds_port, finds_no_port}
use Rattle.eslip_rounds.proofs.Granting.{Serves-granted}
use Rattle.eslip_rounds.proofs.Accepting.{IsRound-round_of}
use Rattle.eslip_rounds.proofs.Placing.{IsTable-table_of, table_at, table_stays}
use Rattle.eslip_rounds.proofs.Settling.{AreMoved-places_after, AreAtPorts-places_after, IsSlotBy-decision_by, AreAtPorts-decision_by}
use Rattle.firm_rounds.specs.Slots.{AreMovedByFirm, IsFirmSlot}
use Rattle.firm_rounds.specs.SlotSteps.{AreHeld}
use Rattle.firm_rounds.specs.Decisions.{firm_held, firm_places_after, firm_decision}
use Rattle.firm_rounds.proofs.PointersKept.{firm_keep}
use Rattle.firm_rounds.proofs.OneDecision.{IsFirmSlot-only}
use Rattle.firm_rounds.proofs.InSteps.{AreMovedByFirm-steps}

module _ (n t : ℕ) (rows : List Row) (before : Places) (within : AreWithin n rows) (at_ports : AreAtPorts before) (ports_are : before.ports ≡ n) where
  -- the test says whether a grant is refused
  Decides-refused : (i j level : ℕ) → Decides (is_refused n t rows before i j level) (IsRefused n t rows before i j level)
  Decides-refused i j level =
      let start = unmatched n in
      let whole = IsMatch-unmatched n in
      let round = IsRound-round_of n t rows before start whole at_ports ports_are in
      let grant = fed_of (map (granted n t rows before start) (ports n)) j in
      let fed = fed_of (round_of n t rows before start) j in
      let serves = Serves-granted n t rows before start whole at_ports ports_are i j level Uni in
      let test = Decides-and (is_fed i level Uni grant) (not (is_fed i level Uni fed)) (Decides-fed i level Uni grant)
      (Decides-not (is_fed i level Uni fed) (Decides-fed i level Uni fed)) in (
        λ e. let both = test.0 e in (serves.0 both.0, λ accepts. both.1 ((round.pairs i j level Uni).1 (inr accepts))),
        λ r. test.1 (
          serves.1 r.0,
          λ served. elim ((round.pairs i j level Uni).0 served) [ inl old ↦ nobody_at_first n i j level Uni old | inr accepts ↦ r.1 accepts ],
        ),
      )

  -- the input that refused output j's grant, if one did
  refused_by : ℕ → ℕ → Option ℕ
  refused_by level j = find (λ i. is_refused n t rows before i j level) (ports n)

  finds_refused : (i j level : ℕ) → IsRefused n t rows before i j level → refused_by level j ≡ Some i
  unfolding refused_by
  finds_refused i j level r =
      finds_port (λ x. is_refused n t rows before x j level) n i r.0.first.below ((Decides-refused i j level).1 r)
      (λ y e. grants_once n t rows before at_ports ports_are y i j level ((Decides-refused y j level).0 e).0 r.0)

  finds_nobody : (j level : ℕ) → ((i : ℕ) → IsRefused n t rows before i j level → ⊥) → refused_by level j ≡ None
  unfolding refused_by
  finds_nobody j level nobody = finds_no_port (λ x. is_refused n t rows before x j level) n (λ y e. nobody y ((Decides-refused y j level).0 e))

  module _ (moved : Places) (moved_at : AreAtPorts moved) (moved_ports : moved.ports ≡ n) where
    grant_at : ℕ → ℕ → ℕ
    grant_at level j = unwrap_or (refused_by level j) (grant_of moved j level)

    -- the pointers that are computed are held so
    AreHeld-firm_held : AreHeld (IsRefused n t rows before) moved (firm_held n t rows before moved)
    unfolding firm_held grant_at refused_by
    AreHeld-firm_held =
        record {
          ports = refl;
          held = λ i j level r.
              table_at grant_at level j (level_asked rows (unmatched n) i j level Uni r.0.first.member)
              (let j_in = r.0.output_in in let size = moved_at.size in omega arith)
              ∙ ap (λ o. unwrap_or o (grant_of moved j level)) (finds_refused i j level r);
          stays = λ j level nobody. table_stays grant_at moved.grant moved_at.grant_table level j
              (ap (λ o. unwrap_or o (grant_of moved j level)) (finds_nobody j level nobody));
          accepts = λ i level. refl;
          shared = λ level. refl;
        }

    -- and they are at ports, where others that are moved so are
    AreAtPorts-firm_held : ((level : ℕ) → level < LEVELS → ArePointing n level (firm_held n t rows before moved)) → AreAtPorts (firm_held n t rows before moved)
    unfolding firm_held grant_at refused_by
    AreAtPorts-firm_held pointing =
        record {
          some = moved_at.some;
          size = moved_at.size;
          grant_table = IsTable-table_of grant_at;
          accept_table = moved_at.accept_table;
          shared_levels = moved_at.shared_levels;
          pointing = λ level level_in. let P : ℕ → Type 0 = λ k. ArePointing k level (firm_held n t rows before moved) in
              subst P (sym moved_ports) (pointing level level_in);
        }

  module _ (first_match matched : List (Option Fed)) (whole : IsMatch n first_match) (accepted : AreAccepted n t rows before first_match) where
    abbrev moved_to : Places
    moved_to = places_after n rows first_match matched before

    as_first : AreMoved n t rows first_match matched before moved_to
    as_first = AreMoved-places_after n t rows first_match matched before within whole at_ports ports_are

    moved_at_ports : AreAtPorts moved_to
    moved_at_ports = AreAtPorts-places_after n t rows first_match matched before within whole at_ports ports_are

    moved_ports_are : moved_to.ports ≡ n
    moved_ports_are = as_first.ports ∙ ports_are

    AreMovedByFirm-computed : AreMovedByFirm n t rows first_match matched before (firm_places_after n t rows first_match matched before)
    AreMovedByFirm-computed =
        AreMovedByFirm-steps n t rows before at_ports ports_are first_match matched accepted (firm_places_after n t rows first_match matched before)
        (record { moved = moved_to; as_first = as_first; held = AreHeld-firm_held moved_to moved_at_ports moved_ports_are })

    AreAtPorts-computed : AreAtPorts (firm_places_after n t rows first_match matched before)
    AreAtPorts-computed =
        AreAtPorts-firm_held moved_to moved_at_ports moved_ports_are
        (λ level level_in.
        let here : ArePointing n level before = subst (λ k. ArePointing k level before) ports_are (at_ports.pointing level level_in) in
        firm_keep n level t rows first_match matched before
        (firm_places_after n t rows first_match matched before) whole.count within here AreMovedByFirm-computed)

  -- what is computed is what the slot decides
  pub IsFirmSlot-firm_decision : (rounds : ℕ) → IsFirmSlot n rounds t rows before (firm_decision n rounds t rows before)
  unfolding firm_decision
  IsFirmSlot-firm_decision = IsSlotBy-decision_by n t rows before within at_ports ports_are firm_places_after AreMovedByFirm AreMovedByFirm-computed

  pub AreAtPorts-firm_decision : (rounds : ℕ) → AreAtPorts (firm_decision n rounds t rows before).places
  unfolding firm_decision
  AreAtPorts-firm_decision = AreAtPorts-decision_by n t rows before within at_ports ports_are firm_places_after AreAtPorts-computed

  -- every decision of the slot is the one that is computed
  pub firm_decision-only : (rounds : ℕ) (a : Decision) → AreAtPorts a.places → IsFirmSlot n rounds t rows before a → a ≡ firm_decision n rounds t rows before
  firm_decision-only rounds a a_in slot =
      IsFirmSlot-only n t rows before within at_ports ports_are rounds a (firm_decision n rounds t rows before) a_in (AreAtPorts-firm_decision rounds) slot
      (IsFirmSlot-firm_decision rounds)
