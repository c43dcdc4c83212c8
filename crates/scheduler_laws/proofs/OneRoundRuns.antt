-- Runs of one round under iSLIP.
use Rattle.std.proofs.Common.{◌≡◌, ℕ, ◌+◌, ◌<◌, ◌∙◌, List, [], ◌∷◌, length, drop, ap, sym, subst, inl, refl, arith}
use Rattle.slot_match.specs.Rows.{Names, row_of, AreWithin}
use Rattle.rotating_pick.specs.declared.kinds.Kind.TheVariants.{Uni}
use Rattle.pointer_state.specs.Places.{Places, ArePointing, places_at_first}
use Rattle.eslip_rounds.specs.Schedules.{DecidedSlot, IsSchedule}
use Rattle.service_bound.specs.Windows.{IsClean, IsWithoutMulticast}
use Rattle.service_bound.specs.Latest.{IsServedLast}
use Rattle.service_bound.proofs.PostedRuns.{IsSwitch}
use Rattle.scheduler_laws.specs.Reached.{AreFedAtLineRate, ComesLastAtLineRate}
use Rattle.scheduler_laws.proofs.Plans.{In, Plan, names, AreWithin-rows, IsClean-rows, IsWithoutMulticast-rows}
use Rattle.scheduler_laws.proofs.PlannedSlots.{decided, IsStep, slot_decided, IsSwitch-after}
use Rattle.scheduler_laws.proofs.NextPlans.{Follows, Starts}
use Rattle.scheduler_laws.proofs.PlannedRuns.{run, length-run, All-run, IsLateBy, IsLateBy-before, IsLateBy-last}
use Rattle.scheduler_laws.proofs.FedRuns.{fed_at_line_rate}
use Rattle.scheduler_laws.proofs.Shapes.{nothing}
use Rattle.scheduler_laws.proofs.PlannedRuns.{opens_run, IsOpening, led, kept_all}

-- the run is a schedule
IsSchedule-run : (n t : ℕ) (places : Places) (ps : List Plan) → IsSwitch n places → IsSchedule n 1 t places (run n (decided n) t places ps)
IsSchedule-run n t places [] switch = tt
IsSchedule-run n t places (p ∷ ps) switch =
    (slot_decided n t places p switch, IsSchedule-run n (t + 1) (decided n t places p).places ps (IsSwitch-after n t places p switch))

-- requests stay in the run, which is at line rate, and queue (0, 0) is served in its last slot alone
abbrev pub IsLate : ℕ → ℕ → Places → List Plan → Type 0
IsLate n = IsLateBy n (decided n)

-- one slot more in front, which does not serve the queue
pub IsLate-before : (n t : ℕ) (places : Places) (p : Plan) (ps : List Plan) → IsStep n t places p → Starts (Follows p) ps → (In 0 0 p.serves → ⊥)
    → IsLate n (t + 1) (decided n t places p).places ps → IsLate n t places (p ∷ ps)
IsLate-before n t places p ps step follows left late =
    IsLateBy-before n (decided n) t places p ps follows
    (record { serving = step.serving; left = λ served. left (step.serving.only 0 0 0 Uni served) }) late

-- the last slot, which serves it
pub IsLate-last : (n t : ℕ) (places : Places) (p : Plan) → IsStep n t places p → In 0 0 p.serves → IsLate n t places (p ∷ [])
IsLate-last n t places p step served = IsLateBy-last n (decided n) t places p step.serving served

-- What is late from pointers of a switch is a window in which queue (0, 0) is served in the last slot alone.
IsServedLast-run : (n t : ℕ) (places : Places) (ps : List Plan) → IsSwitch n places → IsLate n t places ps
    → IsServedLast n 1 t 0 0 0 places (run n (decided n) t places ps)
IsServedLast-run n t places ps switch late =
    let some : 0 < n = subst (λ m. 0 < m) switch.ports switch.at_ports.some in
    record {
      at_ports = switch.at_ports;
      ports = switch.ports;
      window = record {
        pointing = subst (λ m. ArePointing m 0 places) switch.ports (switch.at_ports.pointing 0 (omega arith));
        schedule = IsSchedule-run n t places ps switch;
        within = All-run n (decided n) t places (AreWithin n) (AreWithin-rows n) ps;
        kept = late.run_kept.kept;
        clean = All-run n (decided n) t places (IsClean n 0) (IsClean-rows n) ps;
      };
      alone = All-run n (decided n) t places (IsWithoutMulticast n 0) (IsWithoutMulticast-rows n) ps;
      posted = All-run n (decided n) t places (λ rows. Names (row_of rows 0) 0 Uni 0) (λ p. names n p 0 0 some some (inl (refl, refl))) ps;
      last = late.last;
    }

-- what is late from where the first slots lead comes in a schedule at line rate, from all pointers at port 0 on
pub comes : (n : ℕ) (ps rest : List Plan) (opening : IsOpening n (decided n) ps rest) → IsLate n opening.leads.count opening.leads.after rest
    → (slots : List DecidedSlot) × AreFedAtLineRate n slots × ComesLastAtLineRate n 1 opening.leads.count slots
    × (length (drop opening.leads.count slots) ≡ length rest)
comes n ps rest opening late =
    let leads = opening.leads in
    let count = leads.count in
    let after = leads.after in
    let from = places_at_first n in
    let slots = run n (decided n) 0 from ps in
    let dropped : drop count slots ≡ run n (decided n) count after rest = led n (decided n) from ps rest leads in
    let all = kept_all n (decided n) from ps rest leads late.run_kept in
    let served : IsServedLast n 1 count 0 0 0 after (run n (decided n) count after rest) = IsServedLast-run n count after rest opening.later late in (
      slots,
      fed_at_line_rate n ps slots (all.fed nothing opening.first),
      record {
        comes = record {
          schedule = IsSchedule-run n 0 from ps opening.switch;
          within = All-run n (decided n) 0 from (AreWithin n) (AreWithin-rows n) ps;
          kept = all.kept;
          last = subst (λ f. IsServedLast n 1 count 0 0 0 f (drop count slots)) (sym leads.left)
              (subst (λ s. IsServedLast n 1 count 0 0 0 after s) (sym dropped) served);
        };
        line_rate = all.line;
        opens = opens_run n (decided n) 0 from ps opening.one;
      },
      ap length dropped ∙ length-run n (decided n) count after rest,
    )
